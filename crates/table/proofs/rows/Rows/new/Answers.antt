use Rattle.std.proofs.lemmas.List.{take-replicate}
use Rattle.cards.specs.declared.entry.TheConstants.{ENTRIES}
use Rattle.rules.specs.Rows.{free_row}
use Rattle.table.proofs.rows.Rows.new.Goals as goal

pub returns : goal.returns
returns c = rw (c.free_rows.ensures, c.entries.ensures.entries) (take-replicate _ ENTRIES free_row c.args.counts.small)
