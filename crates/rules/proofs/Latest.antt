-- The newest version up to a time, and the card after a time.
use Rattle.std.proofs.Common.{◌≡◌, ℕ, zero, suc, ◌<◌, ◌≤◌, if◌then◌else◌, is_some, Some, None, Option, unwrap_or, sym, refl, ap, ◌∙◌, arith}
use Rattle.std.proofs.lemmas.Bool.{cases_eq}
use Rattle.std.proofs.lemmas.Option.{none-some}
use Rattle.cards.specs.Cards.{blank_card}
use Rattle.cards.specs.declared.card.Card.{Card}
use Rattle.rules.specs.Account.{card_after}
use Rattle.rules.specs.State.{latest}
use Rattle.rules.proofs.Options.{same_option}

-- a within b, and b's newest in a: the same newest
pub same_latest : (a b : ℕ → Option Card) (T : ℕ) → ((t : ℕ) (c : Card) → a t ≡ Some c → b t ≡ Some c) →
    ((t : ℕ) (c : Card) → t ≤ T → b t ≡ Some c → ((u : ℕ) → t < u → u ≤ T → b u ≡ None) → a t ≡ Some c) → latest a T ≡ latest b T
same_latest a b zero sub top = same_option (a 0) (b 0) (sub 0) (λ c q n. none-some c (sym n ∙ top 0 c (omega arith) q (λ u l m. absurd (omega arith))))
same_latest a b (suc T) sub top =
    rw (same_option (a (suc T)) (b (suc T)) (sub (suc T)) (λ c q n. none-some c (sym n ∙ top (suc T) c (omega arith) q (λ u l m. absurd (omega arith)))))
    (go (b (suc T)) refl (λ f. same_latest a b T sub f))
  where
    go : (x : Option Card) → b (suc T) ≡ x → (((t : ℕ) (c : Card) → t ≤ T → b t ≡ Some c → ((u : ℕ) → t < u → u ≤ T → b u ≡ None) → a t ≡ Some c) → latest a T ≡ latest b T) →
        (if is_some x then x else latest a T) ≡ (if is_some x then x else latest b T)
    go (Some c) q h = refl
    go None q h = h (λ t c l e f. top t c (omega arith) e (λ u v w. let x = f u v in grind arith))

pub latest_card : (w : ℕ → ℕ → Option Card) (n : ℕ) (a : ℕ → Option Card) (T : ℕ) → a 0 ≡ None → ((t : ℕ) → t ≤ T → a t ≡ w t n) → unwrap_or (latest a T) blank_card ≡ card_after w T n
latest_card w n a zero z same = ap (λ (o : Option Card). unwrap_or o blank_card) z
latest_card w n a (suc T) z same = let h = latest_card w n a T z in let e = same (suc T) in grind arith

pub card_same : (w v : ℕ → ℕ → Option Card) (T n : ℕ) → ((t : ℕ) → t ≤ T → w t n ≡ v t n) → card_after w T n ≡ card_after v T n
card_same w v zero n same = refl
card_same w v (suc T) n same = let h = card_same w v T n in grind arith

-- with no draft between, the card stays
pub card_flat : (w : ℕ → ℕ → Option Card) (r T n : ℕ) → r ≤ T → ((t : ℕ) → r < t → t ≤ T → w t n ≡ None) → card_after w T n ≡ card_after w r n
card_flat w r zero n l none = grind arith
card_flat w r (suc T) n l none = let h = card_flat w r T n in let q = none (suc T) in let c = cases_eq r (suc T) in grind arith
