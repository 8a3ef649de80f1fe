use borrow.Author.Tests.{true-leb}
use Rattle.records.proofs.Reading.{next_end, gives_end}
use Rattle.records.proofs.reader.Reader.next.Goals as goal

pub returns-then-at_end : goal.returns-then-at_end
returns-then-at_end c = gives_end c.args.self.now (next_end c.args.self.now.trace.now c.args.self.now.place (true-leb _ _ c.if-at_end.ensures))
