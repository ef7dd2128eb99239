use Rattle.std.proofs.Common.{◌≡◌, take}
use Rattle.rules.specs.Rows.{each, freed}
use Rattle.table.proofs.rows.Rows.release_locks.Given as goal

-- by the drafts so far
abbrev pub invariant-loop-draft : goal.invariant-loop-draft
invariant-loop-draft l = l.self ≡ each (freed l.seat.number) l.initial.self (take l.draft-index l.drafts)
