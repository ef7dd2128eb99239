use Rattle.std.proofs.Common.{◌≡◌, take}
use Rattle.rules.specs.State.{ready_of}
use Rattle.table.proofs.table.Table.ready.Given as goal

-- by the seats so far
abbrev pub invariant-loop-seat : goal.invariant-loop-seat
invariant-loop-seat l = l.ready ≡ ready_of l.initial.ready (take l.seat-index l.seats)
