-- Calls made in order, whose answers go into lent memory.
use Rattle.std.proofs.Common.{◌≡◌, ℕ, ◌+◌, ◌<◌, ◌≤◌, Bool, true, false, cond, leb, List, [], ◌∷◌, ◌++◌, length, get_or, take, drop, set, Ok, Err, Result, sym, refl, ap, ◌∙◌, arith}
use Rattle.std.proofs.lemmas.List.{append_assoc, append-nil, take_more_set, drop-set-lt, drop_more, drop_all, take-append-drop}
use Rattle.std.proofs.lemmas.Bool.{le-leb, lt-leb}
use Rattle.cards.specs.declared.refusal.Refusal.{Refusal}
use Rattle.cards.specs.declared.refusal.Refusal.TheVariants as why
use Rattle.rules.specs.Runs.{Event, events, Reached, step, play, answers}
use Rattle.rules.specs.State.{State}
use Rattle.rules.specs.declared.answer.Answer.{Answer}
use Rattle.rules.specs.declared.call.Call.{Call}
use Rattle.rules.proofs.Runs.{lawful_play}
use Rattle.store.specs.Runs.{made, made_answer, answered_in, LawfulRun}

-- from the state s and the memory old, the first i of the calls cs led to the state v and the memory rs
abbrev pub Played : State → List Call → List (Result Answer Refusal) → ℕ → State → List (Result Answer Refusal) → Type 0
Played s cs old i v rs = (play v (drop i cs) ≡ play s cs) × (take i rs ++ answers v (drop i cs) ≡ answers s cs) × (drop (length cs) rs ≡ drop (length cs) old)

-- from the state s and the memory old, the calls cs led to the state t, the memory rs and the result r, and the law holds of it
abbrev Ended : State → List Call → List (Result Answer Refusal) → State → List (Result Answer Refusal) → Result (Unit {0}) Refusal → Type 0
Ended s cs old t rs r =
    (t ≡ play s (made cs (length old))) × (rs ≡ answered_in s cs old) × (r ≡ made_answer cs (length old)) ×
    ((h : List Event) → Reached h s → LawfulRun (events h (made cs (length old)) rs) t)

module _ (s : State) (cs : List Call) (old : List (Result Answer Refusal)) where
  pub played_none : Played s cs old 0 s old
  played_none = (refl, refl, refl)

  -- one call more
  pub played_more : (i : ℕ) (v w : State) (rs : List (Result Answer Refusal)) (d : Call) (a : Result Answer Refusal) → i < length cs → i < length rs → w ≡ (step v (get_or cs i d)).0 → a ≡ (step v (get_or cs i d)).1 →
      Played s cs old i v rs → Played s cs old (i + 1) w (set rs i a)
  played_more i v w rs d a l k p q h =
      let next = drop_more cs i d l in
      let state : play w (drop (i + 1) cs) ≡ play v (drop i cs) = ap (λ (x : State). play x (drop (i + 1) cs)) p ∙ sym (ap (play v) next) in
      let told : a ∷ answers w (drop (i + 1) cs) ≡ answers v (drop i cs) = (λ j. q j ∷ answers (p j) (drop (i + 1) cs)) ∙ sym (ap (answers v) next) in
      let front : take (i + 1) (set rs i a) ++ answers w (drop (i + 1) cs) ≡ take i rs ++ answers v (drop i cs) =
      ap (λ (x : List (Result Answer Refusal)). x ++ answers w (drop (i + 1) cs)) (take_more_set rs i a k) ∙ append_assoc (take i rs) (a ∷ []) (answers w (drop (i + 1) cs)) ∙ ap (λ (x : List (Result Answer Refusal)). take i rs ++ x) told in
      (state ∙ h.0, front ∙ h.1, drop-set-lt (length cs) rs i a l ∙ h.2)

  -- what was made, and the memory after it, said of the calls that have a place
  ended : (cs' : List Call) (b : Bool) (t : State) (rs : List (Result Answer Refusal)) → leb (length cs) (length old) ≡ b → cond b cs [] ≡ cs' → t ≡ play s cs' → rs ≡ answers s cs' ++ drop (length cs') old →
      Ended s cs old t rs (cond b (Ok tt) (Err why.Short))
  ended cs' b t rs e f p q =
      let which : cs' ≡ made cs (length old) = sym f ∙ ap (λ (x : Bool). cond x cs []) (sym e) in
      let state : t ≡ play s (made cs (length old)) = p ∙ ap (play s) which in
      let memory : rs ≡ answered_in s cs old = q ∙ ap (λ (x : List Call). answers s x ++ drop (length x) old) which in
      (state, memory, ap (λ (x : Bool). cond x (Ok tt) (Err why.Short)) (sym e), lawful_play (made cs (length old)) s t rs (drop (length (made cs (length old))) old) state memory)

  -- all of them
  pub ended_all : (i : ℕ) (v : State) (rs : List (Result Answer Refusal)) → length cs ≤ length old → i ≡ length cs → Played s cs old i v rs → Ended s cs old v rs (Ok tt)
  ended_all i v rs l e h =
      let none : drop i cs ≡ [] = drop_all i cs (omega arith) in
      let front : take (length cs) rs ≡ answers s cs = ap (λ (x : ℕ). take x rs) (sym e) ∙ sym (append-nil (take i rs)) ∙ ap (λ (x : List Call). take i rs ++ answers v x) (sym none) ∙ h.1 in
      ended cs true v rs (le-leb (length cs) (length old) l) refl (sym (ap (play v) none) ∙ h.0) (sym (take-append-drop (length cs) rs) ∙ (λ j. front j ++ h.2 j))

  -- none, where the answers have too few places
  pub ended_none : length old < length cs → Ended s cs old s old (Err why.Short)
  ended_none l = ended [] false s old (lt-leb (length cs) (length old) l) refl refl refl
