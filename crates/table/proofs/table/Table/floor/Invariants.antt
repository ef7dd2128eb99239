use Rattle.std.proofs.Common.{◌≡◌, take}
use Rattle.rules.specs.State.{floor_of}
use Rattle.table.proofs.table.Table.floor.Given as goal

-- by the seats so far
abbrev pub invariant-loop-seat : goal.invariant-loop-seat
invariant-loop-seat l = l.floor ≡ floor_of l.initial.floor (take l.seat-index l.seats)
