-- What a keeper's after answers is the next time of the rules.
use Rattle.std.proofs.Common.{◌≡◌, ℕ, ◌<◌, ◌⊎◌, cond, is_some, Some, None, Option, sym, refl, ap, ◌∙◌, inl, inr, arith}
use Rattle.std.proofs.lemmas.Bool.{cases_order, false≢true}
use Rattle.std.specs.Prelude.{nat_le, if◌then◌else◌}
use Rattle.cards.specs.Versions.{Kept}
use Rattle.keepers.specs.Kept.{Follows}
use Rattle.rules.specs.State.{next_time}
use Rattle.rules.proofs.Versions.{next_some, next_none, next_least}

-- a time, if it is there and up to u
abbrev pub up_to : ℕ → Option ℕ → Option ℕ
up_to u None = None
up_to u (Some f) = if nat_le f u then Some f else None

module _ (m : Kept) (e t u : ℕ) where
  pub next_is : (r : Option ℕ) → Follows m e t r → next_time (m e) t u ≡ up_to u r
  next_is r h = go r h (next_time (m e) t u) refl
    where
      go : (r : Option ℕ) → Follows m e t r → (o : Option ℕ) → next_time (m e) t u ≡ o → o ≡ up_to u r
      go None h None q = refl
      go None h (Some g) q = let z = next_some (m e) t u g q in absurd (false≢true (sym (ap is_some (h g z.0)) ∙ z.2))
      go (Some f) h None q = let a = next_none (m e) t u q f h.0 in let b = h.1 in grind arith
      go (Some f) h (Some g) q = let z = next_some (m e) t u g q in same (cases_order g f)
        where
          same : (g ≡ f) ⊎ ((g < f) ⊎ (f < g)) → Some g ≡ up_to u (Some f)
          same (inl p) = let z = next_some (m e) t u g q in grind arith
          same (inr (inl p)) = let z = next_some (m e) t u g q in absurd (false≢true (sym (ap is_some (h.2 g z.0 p)) ∙ z.2))
          same (inr (inr p)) = absurd (false≢true (sym (ap is_some (next_least (m e) t u g q f h.0 p)) ∙ h.1))
