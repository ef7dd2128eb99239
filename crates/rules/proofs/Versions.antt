-- One version more or less, and the next time that has one.
use Rattle.std.proofs.Common.{◌≡◌, ℕ, zero, suc, ◌<◌, ◌≤◌, true, ◌⊎◌, is_some, Some, None, Option, arith}
use Rattle.std.proofs.lemmas.Option.{none-some}
use Rattle.cards.specs.Versions.{Kept, with_card}
use Rattle.cards.specs.declared.card.Card.{Card}
use Rattle.rules.specs.State.{next_time}

pub cases_two : (n t f u : ℕ) → ((f ≡ n) × (u ≡ t)) ⊎ (f ≡ n → u ≡ t → ⊥)
cases_two n t f u = grind arith

pub with_same : (m : Kept) (n t : ℕ) (c : Card) (f u : ℕ) → f ≡ n → u ≡ t → with_card m n t c f u ≡ Some c
with_same m n t c f u a b = grind arith

-- a time found is above t, up to u, and has a version
pub next_some : (m : ℕ → Option Card) (t u f : ℕ) → next_time m t u ≡ Some f → (t < f) × (f ≤ u) × (is_some (m f) ≡ true)
next_some m t zero f h = absurd (none-some f h)
next_some m t (suc u) f h = let r = next_some m t u f in grind arith

-- none found: no version above t up to u
pub next_none : (m : ℕ → Option Card) (t u : ℕ) → next_time m t u ≡ None → (f : ℕ) → t < f → f ≤ u → m f ≡ None
next_none m t zero h f l k = grind arith
next_none m t (suc u) h f l k = let r = next_none m t u in grind arith

-- and it is the least
pub next_least : (m : ℕ → Option Card) (t u f : ℕ) → next_time m t u ≡ Some f → (g : ℕ) → t < g → g < f → m g ≡ None
next_least m t zero f h g l k = grind arith
next_least m t (suc u) f h g l k = let r = next_least m t u f in let a = next_none m t u in grind arith
