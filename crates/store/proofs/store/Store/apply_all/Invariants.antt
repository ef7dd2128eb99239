use Rattle.store.specs.View.{view}
use Rattle.store.proofs.Applying.{Played}
use Rattle.store.proofs.store.Store.apply_all.Given as goal

abbrev pub invariant-loop-at : goal.invariant-loop-at
invariant-loop-at g l = Played (view g.K.Keeper.means l.initial.self) l.calls l.initial.answers l.at (view g.K.Keeper.means l.self) l.answers
