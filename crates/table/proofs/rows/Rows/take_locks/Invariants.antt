use Rattle.std.proofs.Common.{◌≡◌, take}
use Rattle.rules.specs.Rows.{each, locked}
use Rattle.table.proofs.rows.Rows.take_locks.Given as goal

-- by the drafts so far
abbrev pub invariant-loop-draft : goal.invariant-loop-draft
invariant-loop-draft l = l.self ≡ each (locked l.seat.number) l.initial.self (take l.draft-index l.drafts)
