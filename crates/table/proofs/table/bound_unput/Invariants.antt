use Rattle.std.proofs.Common.{◌*◌, ◌≤◌, take}
use Rattle.rules.specs.State.{unput_all}
use Rattle.rules.specs.declared.limits.TheConstants.{MOST_DRAFTS}
use Rattle.table.proofs.table.bound_unput.Given as goal

-- of the seats so far
abbrev pub invariant-loop-seat : goal.invariant-loop-seat
invariant-loop-seat l = unput_all (take l.seat-index l.seats) ≤ l.seat-index * MOST_DRAFTS
