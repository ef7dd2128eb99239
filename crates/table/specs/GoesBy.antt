-- That a change goes by a rule.
use Rattle.std.specs.Prelude.{◌≡◌, ℕ, List, [], ◌∷◌, ◌++◌, length, Ok, Err, Result, IfOk, IfErr, nat_lt, if◌then◌else◌}
use Rattle.cards.specs.declared.refusal.Refusal.{Refusal}
use Rattle.cards.specs.declared.refusal.Refusal.TheVariants as why

-- granted, what is new is the rule's; declined, it is as it was
pub record GoesBy {X : Type 0} (rule : X → Result X Refusal) (old new : X) (r : Result (Unit {0}) Refusal) : Type 0 where
  pub granted : IfOk (rule old) (λ x. (new ≡ x) × (r ≡ Ok tt))
  pub declined : IfErr (rule old) (λ e. (new ≡ old) × (r ≡ Err e))

-- a list of at most n items with one more at the end; List where it would be one too many
abbrev pub push : {T : Type 0} → ℕ → T → List T → Result (List T) Refusal
push n x xs = if nat_lt (length xs) n then Ok (xs ++ x ∷ []) else Err why.List
