-- A rule whose answer is told in another way.
use Rattle.std.proofs.Common.{◌≡◌, Ok, Err, Result, refl}
use Rattle.std.specs.Result.{result_map_both}
use Rattle.cards.specs.declared.refusal.Refusal.{Refusal}
use Rattle.rules.specs.Rules.{Outcome}
use Rattle.rules.specs.Runs.{answering, stepped}
use Rattle.rules.specs.State.{State}
use Rattle.rules.specs.declared.answer.Answer.{Answer}

module _ {X : Type 0} (f : X → Answer) (s : State) where
  pub state_answering : (o : Outcome X) → (stepped s (answering f o)).0 ≡ (stepped s o).0
  state_answering (Ok p) = refl
  state_answering (Err r) = refl

  pub answer_answering : (o : Outcome X) → (stepped s (answering f o)).1 ≡ result_map_both f (λ r. r) (stepped s o).1
  answer_answering (Ok p) = refl
  answer_answering (Err r) = refl

pub ruleset answerings = (state_answering, answer_answering)
