-- What versions that stand in a list mean together.
use Rattle.std.proofs.Common.{◌≡◌, ℕ, zero, suc, ◌^◌, ◌<◌, List, [], ◌∷◌, ◌++◌, length, get_or, Some, None, Option, refl, arith}
use Rattle.std.proofs.lemmas.List.{get_or_past}
use Rattle.std.proofs.lemmas.Bool.Decides.{nat_tests}
use Rattle.cards.specs.declared.card.Card.{Card}
use Rattle.std.specs.Option.{option_or}
use Rattle.cards.specs.declared.entry.TheConstants.{ENTRIES}
use Rattle.keepers.specs.Kept.{Bounded}
use Rattle.keepers.specs.SetOf.{holds, set_of, Of}
use Rattle.keepers.specs.declared.version.Version.{Version}

-- a version is held at its entry and time, and nowhere else
pub holds_here : (v : Version) (e t : ℕ) → 0 < v.time → v.entry ≡ e → v.time ≡ t → holds v e t ≡ Some v.card
holds_here v e zero l a b = absurd (omega arith)
holds_here v e (suc t) l a b = grind (arith, nat_tests)

pub holds_not : (v : Version) (e t : ℕ) → (0 < v.time → v.entry ≡ e → v.time ≡ t → ⊥) → holds v e t ≡ None
holds_not v e zero ne = refl
holds_not v e (suc t) ne = grind (arith, nat_tests)

module _ {X : Type 0} (f : X → Version) (d : X) where
  -- no item has it
  pub set_of-none : (xs : List X) (e t : ℕ) → ((r : ℕ) → Of f d xs e r → (f (get_or xs r d)).time ≡ t → ⊥) → set_of f xs e t ≡ None
  set_of-none [] e t h = refl
  set_of-none (x ∷ xs) e t h = rw (holds_not (f x) e t (λ l p q. h 0 (l, p) q), set_of-none xs e t (λ r o q. h (suc r) o q))

  -- one item has it
  pub set_of-some : (xs : List X) (e t r : ℕ) → ((q : ℕ) → Of f d xs e q → (f (get_or xs q d)).time ≡ t → q ≡ r) → Of f d xs e r → (f (get_or xs r d)).time ≡ t → (f d).time ≡ 0 → set_of f xs e t ≡ Some (f (get_or xs r d)).card
  set_of-some [] e t r once o q z = absurd (omega (arith, o.0))
  set_of-some (x ∷ xs) e t zero once o q z = rw (holds_here (f x) e t o.0 o.1 q)
  set_of-some (x ∷ xs) e t (suc r) once o q z =
      rw (holds_not (f x) e t (λ l p y. omega (arith, once 0 (l, p) y)), set_of-some xs e t r (λ k w y. omega (arith, once (suc k) w y)) o q z)

  -- two lists that hold the same place by place
  pub set_of-alike : (xs ys : List X) (e t : ℕ) → length ys ≡ length xs → ((r : ℕ) → holds (f (get_or ys r d)) e t ≡ holds (f (get_or xs r d)) e t) → set_of f ys e t ≡ set_of f xs e t
  set_of-alike [] [] e t l h = refl
  set_of-alike [] (y ∷ ys) e t l h = absurd (omega arith)
  set_of-alike (x ∷ xs) [] e t l h = absurd (omega arith)
  set_of-alike (x ∷ xs) (y ∷ ys) e t l h = rw (h 0, set_of-alike xs ys e t (omega arith) (λ r. h (suc r)))

  -- a place that has a version is in the list
  pub filled_in : (xs : List X) (p : ℕ) → (f d).time ≡ 0 → 0 < (f (get_or xs p d)).time → p < length xs
  filled_in xs p z h = grind (arith, get_or_past xs p d)

pub option_or_none : (o : Option Card) → option_or o None ≡ o
option_or_none o = grind arith

-- one list after another
pub set_of-append : {X : Type 0} (f : X → Version) (xs ys : List X) (e t : ℕ) → set_of f (xs ++ ys) e t ≡ option_or (set_of f xs e t) (set_of f ys e t)
set_of-append f [] ys e t = refl
set_of-append f (x ∷ xs) ys e t = grind (arith, set_of-append f xs ys e t)

-- a keeper's set is bounded where each item with a time is
pub set_of_bounded : {X : Type 0} (f : X → Version) (d : X) (xs : List X) → ((p : ℕ) → 0 < (f (get_or xs p d)).time → ((f (get_or xs p d)).entry < ENTRIES) × ((f (get_or xs p d)).time < 2 ^ 32)) → Bounded (set_of f xs)
set_of_bounded f d xs h = record {
  entries = λ e t l. set_of-none f d xs e t (λ p o y. omega (arith, o.1, (h p o.0).0));
  starts = λ e. set_of-none f d xs e 0 (λ p o y. omega (arith, o.0, y));
  times = λ e t l. set_of-none f d xs e t (λ p o y. omega (arith, y, (h p o.0).1));
}
