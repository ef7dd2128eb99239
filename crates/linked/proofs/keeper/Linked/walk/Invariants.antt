-- A walk goes down the chain of an entry.
use Rattle.linked.specs.Chain.{Walked, time_or_zero}
use Rattle.linked.specs.View.{linked_used}
use Rattle.linked.proofs.keeper.Linked.walk.Given as goal

-- where the walk stands
abbrev pub invariant-loop-reached : goal.invariant-loop-reached
invariant-loop-reached l = Walked (linked_used l.self) l.self.heads l.fn.entry.number l.time l.reached.before l.reached.at

-- the time of the place that it has come to
abbrev pub decreases-loop-reached : goal.decreases-loop-reached
decreases-loop-reached l = time_or_zero (linked_used l.self) l.reached.at
