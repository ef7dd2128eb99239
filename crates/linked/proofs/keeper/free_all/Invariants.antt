-- Places are made free one by one.
use Rattle.std.proofs.Common.{◌≡◌}
use Rattle.linked.specs.Chain.{AllFree, before}
use Rattle.linked.proofs.keeper.free_all.Given as goal

-- the places so far are free, and in the free ones
abbrev pub invariant-loop-place : goal.invariant-loop-place
invariant-loop-place l = AllFree l.place-items l.place-index × (l.free.first ≡ before l.place-index) × (l.free.count ≡ l.place-index)
