-- How many versions a set has, with one more and with one less.
use Rattle.std.proofs.Common.{◌≡◌, ℕ, zero, suc, ◌+◌, ◌^◌, ◌<◌, ◌≤◌, Bool, true, false, cond, eqb, ◌≢◌, ◌⊎◌, is_some, Some, None, Option, sym, refl, ap, ◌∙◌, ap₂, inl, inr, not-suc-le-zero, arith}
use mathlib.Core.Path.{fun_ext}
use Rattle.std.proofs.lemmas.Bool.{eq-eqb, ne_eqb, cases_eq}
use Rattle.cards.specs.Versions.{Kept, Empty, with_card, without, sum_below, held_in}
use Rattle.cards.specs.declared.card.Card.{Card}
use Rattle.cards.specs.declared.entry.TheConstants.{ENTRIES}

sum_same : (f g : ℕ → ℕ) (n : ℕ) → ((j : ℕ) → j < n → f j ≡ g j) → sum_below f n ≡ sum_below g n
unfolding sum_below
sum_same f g zero h = refl
sum_same f g (suc n) h = ap₂ ◌+◌ (h n (omega arith)) (sum_same f g n (λ j l. h j (omega arith)))

-- two sums that differ at one place
sum_at : (f g : ℕ → ℕ) (n k d : ℕ) → k < n → ((j : ℕ) → j ≢ k → f j ≡ g j) → f k ≡ g k + d → sum_below f n ≡ sum_below g n + d
unfolding sum_below
sum_at f g zero k d l h e = absurd (not-suc-le-zero l)
sum_at f g (suc n) k d l h e =
    elim (cases_eq k n) [
      | inl p ↦ (let here : f n ≡ g n + d = rw (← p) e in let rest = sum_same f g n (λ j b. h j (λ q. omega arith)) in omega arith)
      | inr ne ↦ (let here = h n (λ q. ne (sym q)) in let rest = sum_at f g n k d (omega arith) h e in omega arith)
    ]

-- two sums that differ at one place, where the first has d more at most
sum_most : (f g : ℕ → ℕ) (n k d : ℕ) → ((j : ℕ) → j ≢ k → f j ≡ g j) → f k ≤ g k + d → sum_below f n ≤ sum_below g n + d
unfolding sum_below
sum_most f g zero k d h e = omega arith
sum_most f g (suc n) k d h e =
    elim (cases_eq k n) [
      | inl p ↦ (let here : f n ≤ g n + d = rw (← p) e in let rest = sum_same f g n (λ j b. h j (λ q. omega arith)) in omega arith)
      | inr ne ↦ (let here = h n (λ q. ne (sym q)) in let rest = sum_most f g n k d h e in omega arith)
    ]

sum_zero : (f : ℕ → ℕ) (n : ℕ) → ((j : ℕ) → f j ≡ 0) → sum_below f n ≡ 0
unfolding sum_below
sum_zero f zero h = refl
sum_zero f (suc n) h = let a = h n in let b = sum_zero f n h in omega arith

-- 1 for a version, 0 for none
abbrev one_if : Option Card → ℕ
one_if o = cond (is_some o) 1 0

-- two sets that differ at one entry and time
held_at : (m m' : Kept) (e t d : ℕ) → e < ENTRIES → t < 2 ^ 32 → ((f u : ℕ) → (f ≡ e → u ≡ t → ⊥) → m f u ≡ m' f u) → one_if (m e t) ≡ one_if (m' e t) + d → held_in m ≡ held_in m' + d
unfolding held_in
held_at m m' e t d le lt same here =
    sum_at _ _ ENTRIES e d le
    (λ f ne. sum_same _ _ (2 ^ 32) (λ u l. ap one_if (same f u (λ p q. ne p))))
    (sum_at _ _ (2 ^ 32) t d lt (λ u ne. ap one_if (same e u (λ p q. ne q))) here)

-- two sets that differ at any entry and time, where the first has d more there at most
held_within : (m m' : Kept) (e t d : ℕ) → ((f u : ℕ) → (f ≡ e → u ≡ t → ⊥) → m f u ≡ m' f u) → one_if (m e t) ≤ one_if (m' e t) + d → held_in m ≤ held_in m' + d
unfolding held_in
held_within m m' e t d same here =
    sum_most _ _ ENTRIES e d
    (λ f ne. sum_same _ _ (2 ^ 32) (λ u l. ap one_if (same f u (λ p q. ne p))))
    (sum_most _ _ (2 ^ 32) t d (λ u ne. ap one_if (same e u (λ p q. ne q))) here)

-- two sets that agree at one entry and time, and elsewhere
pub same_set : (m m' : Kept) (e t : ℕ) → m e t ≡ m' e t → ((f u : ℕ) → (f ≡ e → u ≡ t → ⊥) → m f u ≡ m' f u) → m ≡ m'
same_set m m' e t here other = fun_ext λ f. fun_ext λ u. by f u (cases_eq f e) (cases_eq u t)
  where
    by : (f u : ℕ) → (f ≡ e) ⊎ (f ≡ e → ⊥) → (u ≡ t) ⊎ (u ≡ t → ⊥) → m f u ≡ m' f u
    by f u (inl x) (inl y) = rw (x, y) here
    by f u (inl x) (inr ny) = other f u (λ _ y. ny y)
    by f u (inr nx) y = other f u (λ x _. nx x)

module _ (m : Kept) (e t : ℕ) where
  pub with_here : (c : Card) → with_card m e t c e t ≡ Some c
  with_here c = let a : eqb e e ≡ true = eq-eqb e e refl in let b : eqb t t ≡ true = eq-eqb t t refl in rw (a, b)

  pub without_here : without m e t e t ≡ None
  without_here = let a : eqb e e ≡ true = eq-eqb e e refl in let b : eqb t t ≡ true = eq-eqb t t refl in rw (a, b)

  -- a set changed at one entry and time stays the same elsewhere
  elsewhere : (o : Option Card) (f u : ℕ) → (f ≡ e → u ≡ t → ⊥) → cond (eqb f e) (cond (eqb u t) o (m f u)) (m f u) ≡ m f u
  elsewhere o f u ne =
      elim (cases_eq f e) [
        | inl p ↦ (let b = ne_eqb u t (ne p) in simp b (same (eqb f e)))
        | inr n ↦ (let a = ne_eqb f e n in simp a)
      ]
    where
      same : (b : Bool) → cond b (m f u) (m f u) ≡ m f u
      same true = refl
      same false = refl

  pub with_other : (c : Card) (f u : ℕ) → (f ≡ e → u ≡ t → ⊥) → with_card m e t c f u ≡ m f u
  with_other c = elsewhere (Some c)

  pub without_other : (f u : ℕ) → (f ≡ e → u ≡ t → ⊥) → without m e t f u ≡ m f u
  without_other = elsewhere None

  -- a version that is not there is not missed
  pub without_none : m e t ≡ None → m ≡ without m e t
  without_none free = same_set m (without m e t) e t (free ∙ sym without_here) (λ f u ne. sym (without_other f u ne))

  pub held_more : (c : Card) → e < ENTRIES → t < 2 ^ 32 → m e t ≡ None → held_in (with_card m e t c) ≡ held_in m + 1
  held_more c le lt free = held_at (with_card m e t c) m e t 1 le lt (with_other c) (let a = with_here c in rw (a, free))

  pub held_less : (c : Card) → e < ENTRIES → t < 2 ^ 32 → m e t ≡ Some c → held_in m ≡ held_in (without m e t) + 1
  held_less c le lt full = held_at m (without m e t) e t 1 le lt (λ f u ne. sym (without_other f u ne)) (let a = without_here in rw (a, full))

  pub held_most : (c : Card) → held_in (with_card m e t c) ≤ held_in m + 1
  held_most c = held_within (with_card m e t c) m e t 1 (with_other c) (let a = ap one_if (with_here c) in omega arith)

  pub held_fewer : held_in (without m e t) ≤ held_in m
  held_fewer = let k = held_within (without m e t) m e t 0 without_other (let a = ap one_if without_here in omega arith) in omega arith

pub held_none : (m : Kept) → Empty m → held_in m ≡ 0
unfolding held_in
held_none m h = sum_zero _ ENTRIES (λ e. sum_zero _ (2 ^ 32) (λ t. ap one_if (h e t)))
