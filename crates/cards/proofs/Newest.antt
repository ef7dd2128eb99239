-- The newest time of an entry: what it is, and how it bounds what is held.
use Rattle.std.proofs.Common.{◌≡◌, ℕ, zero, suc, ◌^◌, ◌<◌, ◌≤◌, Bool, true, false, cond, ◌⊎◌, is_some, None, Option, sym, refl, inl, inr, not-suc-le-zero, arith}
use Rattle.std.proofs.lemmas.Bool.{cases_eq}
use Rattle.cards.specs.Versions.{Kept, last_below, newest_time}
use Rattle.cards.specs.declared.card.Card.{Card}

below_none : (f : ℕ → Option Card) (n : ℕ) → ((u : ℕ) → f u ≡ None) → last_below f n ≡ 0
unfolding last_below
below_none f zero h = refl
below_none f (suc n) h = let a = h n in rw a (below_none f n h)

below_is : (f : ℕ → Option Card) (n t : ℕ) → t < n → is_some (f t) ≡ true → ((u : ℕ) → t < u → f u ≡ None) → last_below f n ≡ t
unfolding last_below
below_is f zero t l some top = absurd (not-suc-le-zero l)
below_is f (suc n) t l some top =
    elim (cases_eq t n) [
      | inl q ↦ (let a : is_some (f n) ≡ true = rw q at some in rw a (sym q))
      | inr ne ↦ (let a = top n (omega (arith, ne)) in rw a (below_is f n t (omega (arith, ne)) some top))
    ]

-- a time that is held is no later than the last
pub below_bounds : (f : ℕ → Option Card) (n u : ℕ) → u < n → is_some (f u) ≡ true → u ≤ last_below f n
unfolding last_below
below_bounds f zero u l some = absurd (not-suc-le-zero l)
below_bounds f (suc n) u l some = by (λ b. below_bounds f n u b some) (is_some (f n)) refl
  where
    by : (u < n → u ≤ last_below f n) → (b : Bool) → is_some (f n) ≡ b → u ≤ cond b n (last_below f n)
    by rest true e = omega arith
    by rest false e = elim (cases_eq u n) [
      | inl q ↦ absurd (let s : is_some (f n) ≡ true = rw q at some in let z : ◌≡◌ {A = Bool} true false = cc in let y : ◌≡◌ {A = ℕ} 0 1 = cc in omega arith)
      | inr ne ↦ rest (omega (arith, ne))
    ]

-- the last is held, or 0
pub below_held : (f : ℕ → Option Card) (n : ℕ) → (last_below f n ≡ 0) ⊎ (is_some (f (last_below f n)) ≡ true)
unfolding last_below
below_held f zero = inl refl
below_held f (suc n) = by (below_held f n) (is_some (f n)) refl
  where
    by : (last_below f n ≡ 0) ⊎ (is_some (f (last_below f n)) ≡ true) → (b : Bool) → is_some (f n) ≡ b → (cond b n (last_below f n) ≡ 0) ⊎ (is_some (f (cond b n (last_below f n))) ≡ true)
    by rest true e = inr e
    by rest false e = rest

-- the newest time of an entry without a version is 0
pub newest_none : (m : Kept) (e : ℕ) → ((u : ℕ) → m e u ≡ None) → newest_time m e ≡ 0
newest_none m e h = below_none (m e) (2 ^ 32) h

-- a time that is held, and above which none is, is the newest
pub newest_is : (m : Kept) (e t : ℕ) → t < 2 ^ 32 → is_some (m e t) ≡ true → ((u : ℕ) → t < u → m e u ≡ None) → newest_time m e ≡ t
newest_is m e t l some top = below_is (m e) (2 ^ 32) t l some top

-- it is below a time that is not 0 and above every time held
pub newest_below : (m : Kept) (e t : ℕ) → 0 < t → ((u : ℕ) → is_some (m e u) ≡ true → u < t) → newest_time m e < t
newest_below m e t l above = elim (below_held (m e) (2 ^ 32)) [ inl z ↦ omega arith | inr h ↦ above (newest_time m e) h ]
