-- The state that a store stands for, and what it is that a call does as its rule says.
use Rattle.std.specs.Prelude.{◌≡◌, OnErr, Result}
use Rattle.cards.specs.Holding.{Holding}
use Rattle.cards.specs.declared.refusal.Refusal.{Refusal}
use Rattle.rules.specs.Rules.{Outcome}
use Rattle.rules.specs.Runs.{stepped}
use Rattle.rules.specs.State.{State}
use Rattle.store.specs.declared.store.Store.{Store}
use Rattle.table.specs.View.{view_table}

-- its table, with what its keeper means
abbrev pub view : {K : Type 0} → (K → Holding) → Store K → State
view means s = view_table s.table (means s.keeper)

-- A call does what its rule says: granted, the state after it and what it gives are the rule's; declined, the store itself, its keeper and all
-- memory with it, is as it was, and the refusal is the rule's. `tell` makes the call's own answer of the rule's.
pub record DoesAs {K X Y E : Type 0} (means : K → Holding) (rule : State → Outcome X) (tell : Result X Refusal → Result Y E) (old new : Store K) (r : Result Y E) : Type 0 where
  pub state : view means new ≡ (stepped (view means old) (rule (view means old))).0
  pub answer : r ≡ tell (stepped (view means old) (rule (view means old))).1
  pub same : OnErr r (new ≡ old)

-- a call whose answer is the rule's
abbrev pub Does : {K X : Type 0} → (K → Holding) → (State → Outcome X) → Store K → Store K → Result X Refusal → Type 0
Does means rule old new r = DoesAs means rule (λ a. a) old new r
