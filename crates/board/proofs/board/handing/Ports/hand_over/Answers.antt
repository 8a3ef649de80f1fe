use Rattle.std.proofs.Common.{◌≡◌, sym, ap, ◌∙◌, subst}
use Rattle.rules.specs.I8259.{bit, drive_lines}
use Rattle.rules.specs.Board.{lines, on_line}
use Rattle.board_laws.specs.Driving.{drive_lines_same, drive_lines_again}
use Rattle.board.proofs.board.handing.Ports.hand_over.Goals as goal

pub returns-clause-pair : goal.returns-clause-pair
returns-clause-pair g c =
    let pair = c.args.self.now.pair in
    c.drive.ensures
    ∙ drive_lines_same (bit c.gather-lines.result.0) (on_line lines c.levels-levels.result) pair c.gather-lines.ensures.lines
    ∙ ap (λ levels. drive_lines (on_line lines levels) pair) c.levels-levels.ensures

pub returns-clause-driven : goal.returns-clause-driven
returns-clause-driven g c =
    let pair = c.args.self.now.pair in
    let line = on_line lines c.levels-levels.result in
    let driven : c.drive.new.self ≡ drive_lines line pair = c.drive.ensures ∙ drive_lines_same (bit c.gather-lines.result.0) line pair c.gather-lines.ensures.lines in
    subst (λ p. drive_lines line p ≡ p) (sym driven) (drive_lines_again line pair)
