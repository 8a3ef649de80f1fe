use Rattle.std.proofs.Common.{◌≡◌, false, cond, eqb, length, sym, ap, ◌∙◌, subst}
use Rattle.rules.specs.I8259.{bit, standing_pair, drive_lines, cascade_input}
use Rattle.rules.specs.Board.{lines, on_line}
use Rattle.board.proofs.Fresh.{standing_same, cascade_low, standing_driven}
use Rattle.board.proofs.board.handing.Ports.new.Goals as goal

pub returns-clause-pair : goal.returns-clause-pair
returns-clause-pair g c =
    let handed = c.levels-handed.result in
    let word = c.gather-lines.result.0 in
    c.with_inputs.ensures
    ∙ standing_same (λ l. cond (eqb l cascade_input) false (bit word l)) (on_line lines handed) (cascade_low word handed (ap length c.levels-handed.ensures) c.gather-lines.ensures.lines)
    ∙ ap (λ levels. standing_pair (on_line lines levels)) c.levels-handed.ensures

pub returns-clause-driven : goal.returns-clause-driven
returns-clause-driven g c =
    let handed = c.levels-handed.result in
    let word = c.gather-lines.result.0 in
    let four : length handed ≡ 4 = ap length c.levels-handed.ensures in
    let stands : c.with_inputs.result ≡ standing_pair (on_line lines handed) =
    c.with_inputs.ensures
    ∙ standing_same (λ l. cond (eqb l cascade_input) false (bit word l)) (on_line lines handed) (cascade_low word handed four c.gather-lines.ensures.lines) in
    subst (λ p. drive_lines (on_line lines handed) p ≡ p) (sym stands) (standing_driven handed four)
