use Rattle.std.proofs.Common.{◌≡◌, ◌*◌, get_or, take, subst, ap, ◌∙◌, arith}
use Rattle.std.specs.Char.{digit_value}
use Rattle.std.specs.Str.Parse.{digits_value, AllDigits}
use Rattle.std.proofs.lemmas.List.{take_all}
use Rattle.std.proofs.lemmas.Int.Digits.{digits_value_more, digits_more}
use Rattle.commands.proofs.Digits.{digit_below, step_fits}
use Rattle.commands.proofs.numbers.value_of.Goals as goal

pub returns-in_err-digit : goal.returns-in_err-digit
returns-in_err-digit c =
    rw c.from_residual.ensures (λ h. c.in_err-digit.ensures.value (rw c.from.ensures (digit_below _ _ _ h.0 c.loop-digit-test.true)))

pub returns-in_err-checked_mul : goal.returns-in_err-checked_mul
returns-in_err-checked_mul c =
    rw c.from_residual-in_err-checked_mul.ensures (λ h.
    let fits = step_fits _ _ _ _ (omega arith) c.loop-digit-test.true h.1 in
    let product : c.loop-digit.value * c.from-in-loop-digit.result ≡ digits_value c.args.base (take c.loop-digit.digit-index c.args.digits.now) * c.args.base = cc (c.loop-digit.invariant.0) in
    c.in_err-checked_mul.ensures (omega arith))

pub returns-in_err-value : goal.returns-in_err-value
returns-in_err-value c =
    rw c.from_residual-in_err-value.ensures (λ h.
    let fits = step_fits _ _ _ _ (omega arith) c.loop-digit-test.true h.1 in
    let product : c.loop-digit.value * c.from-in-loop-digit.result ≡ digits_value c.args.base (take c.loop-digit.digit-index c.args.digits.now) * c.args.base = cc (c.loop-digit.invariant.0) in
    let digit : c.from-in-loop-digit-2.result ≡ digit_value (get_or c.args.digits.now c.loop-digit.digit-index 0) = cc (c.in_ok-digit.ensures.value.1) in
    c.in_err-value.ensures (omega (arith, c.in_ok-checked_mul.ensures.1)))

pub loop-digit-preserved : goal.loop-digit-preserved
loop-digit-preserved c =
    let more = digits_value_more c.args.base c.args.digits.now _ c.loop-digit-test.true in
    let product : c.loop-digit.value * c.from-in-loop-digit.result ≡ digits_value c.args.base (take c.loop-digit.digit-index c.args.digits.now) * c.args.base = cc (c.loop-digit.invariant.0) in
    let digit : c.from-in-loop-digit-2.result ≡ digit_value (get_or c.args.digits.now c.loop-digit.digit-index 0) = cc (c.in_ok-digit.ensures.value.1) in (
      omega (arith, c.in_ok-checked_mul.ensures.1, c.in_ok-value.ensures.1),
      digits_more c.args.base c.args.digits.now _ c.loop-digit-test.true c.loop-digit.invariant.1 (rw (← c.from.ensures) c.in_ok-digit.ensures.value.0),
      omega (arith, c.in_ok-value.ensures.0, c.in_ok-value.ensures.1),
    )

pub returns : goal.returns
returns c =
    let all = take_all _ c.args.digits.now c.loop-digit-test.false in
    let value : c.loop-digit.value ≡ digits_value c.args.base c.args.digits.now = c.loop-digit.invariant.0 ∙ ap (digits_value c.args.base) all in
    ((subst (AllDigits c.args.base) all c.loop-digit.invariant.1, omega (arith, c.loop-digit.invariant.2)), value)
