use Rattle.table.proofs.Lists.{read_found}
use Rattle.table.proofs.seat.Seat.has_read.Goals as goal

pub returns : goal.returns
returns c = rw c.is_some.ensures (read_found c.args.self.now.reads c.args.entry c.last_match.result (rw c.reads.ensures at c.last_match.ensures))
