use Rattle.std.proofs.Common.{refl}
use Rattle.lines.proofs.Printing.{with_byte, place_byte, full_byte, full_place}
use Rattle.lines.proofs.output.Output.byte.Goals as goal

pub returns-then-self : goal.returns-then-self
returns-then-self c =
    record {
      bytes = with_byte c.args.self.now.bytes.now c.args.self.now.place c.args.byte c.if-self.true;
      place = place_byte c.args.self.now.bytes.now c.args.self.now.place c.args.byte c.if-self.true;
      lender = refl;
    }

pub returns-else-self : goal.returns-else-self
returns-else-self c =
    record {
      bytes = full_byte c.args.self.now.bytes.now c.args.self.now.place c.args.byte c.if-self.false;
      place = full_place c.args.self.now.bytes.now c.args.self.now.place c.args.byte c.if-self.false;
      lender = refl;
    }
