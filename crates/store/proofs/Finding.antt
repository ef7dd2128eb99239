-- What a keeper's find answers is the newest card of the rules.
use Rattle.std.proofs.Common.{◌≡◌, ℕ, zero, suc, ◌<◌, ◌≤◌, Some, None, Option, unwrap_or, subst, inl, inr, arith}
use Rattle.std.proofs.lemmas.Bool.{cases_eq}
use Rattle.std.specs.Option.{option_map_or}
use Rattle.cards.specs.Cards.{blank_card}
use Rattle.cards.specs.Versions.{Kept}
use Rattle.cards.specs.declared.card.Card.{Card}
use Rattle.keepers.specs.Kept.{Newest}
use Rattle.keepers.specs.declared.version.Version.{Version}
use Rattle.rules.specs.State.{latest}

module _ (m : ℕ → Option Card) where
  -- no version up to a time
  pub latest_none : (u : ℕ) → ((t : ℕ) → t ≤ u → m t ≡ None) → latest m u ≡ None
  latest_none zero none = none 0 (omega arith)
  latest_none (suc u) none = let here = none (suc u) (omega arith) in let before = latest_none u (λ t l. none t (omega arith)) in rw (here, before)

  -- a version at t, and none after it up to u
  pub latest_some : (u t : ℕ) (c : Card) → t ≤ u → m t ≡ Some c → ((v : ℕ) → t < v → v ≤ u → m v ≡ None) → latest m u ≡ Some c
  latest_some zero t c l held none = let z : t ≡ 0 = omega arith in subst (λ (x : ℕ). m x ≡ Some c) z held
  latest_some (suc u) t c l held none =
      elim (cases_eq t (suc u)) [
        | inl e ↦ (let here : m (suc u) ≡ Some c = subst (λ (x : ℕ). m x ≡ Some c) e held in rw here)
        | inr ne ↦ (let here = none (suc u) (omega (arith, ne)) (omega arith) in let before = latest_some u t c (omega (arith, ne)) held (λ v a b. none v a (omega arith)) in rw (here, before))
      ]

-- so the card of what find answers, a blank one without a version, is the card of the rules
pub latest_found : (m : Kept) (n u : ℕ) (r : Option Version) → Newest m n u r → option_map_or (λ v. v.card) r blank_card ≡ unwrap_or (latest (m n) u) blank_card
latest_found m n u None h = rw (latest_none (m n) u h)
latest_found m n u (Some v) h = rw (latest_some (m n) u v.time v.card h.1 h.2 h.3)
