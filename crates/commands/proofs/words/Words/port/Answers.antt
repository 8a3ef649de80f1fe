use Rattle.std.proofs.Common.{◌≡◌, ◌^◌, ◌<◌, ◌≤◌, MatchResult, lit≤, rules}
use Rattle.commands.specs.Meaning as meaning
use Rattle.commands.specs.declared.command.Unreadable.TheVariants.{TooLarge}
use Rattle.commands.proofs.Steps.{narrow_fault, read_fault, read_narrow}
use Rattle.commands.proofs.words.Words.port.Goals as goal

pub returns-in_err-number : goal.returns-in_err-number
returns-in_err-number c =
    read_fault meaning.port c.args.self.now c.number.new.self _ c.from_residual.ensures.1 (narrow_fault (2 ^ 64) (2 ^ 16) _ _ (lit≤ tt) c.in_err-number.ensures)

pub returns : goal.returns
returns c =
    let n = c.in_ok-number.field-0 in
    let fits : MatchResult c.map_err.result (λ p. (n < 2 ^ 16) × (p ≡ n)) (λ e. (2 ^ 16 ≤ n) × (e ≡ TooLarge)) = search rules in
    read_narrow (2 ^ 64) (2 ^ 16) c.args.self.now c.number.new.self n c.map_err.result (lit≤ tt) c.in_ok-number.ensures fits
