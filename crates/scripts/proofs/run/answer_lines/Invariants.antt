use Rattle.std.proofs.Common.{length}
use Rattle.store.specs.View.{view}
use Rattle.scripts.proofs.Answered.{Answered}
use Rattle.scripts.proofs.run.answer_lines.Given as goal

abbrev pub invariant-loop-rest : goal.invariant-loop-rest
invariant-loop-rest g l = Answered (view g.K.Keeper.means l.initial.store) l.script l.initial.memory (view g.K.Keeper.means l.store) l.rest l.at l.memory

abbrev pub decreases-loop-rest : goal.decreases-loop-rest
decreases-loop-rest g l = length l.rest
