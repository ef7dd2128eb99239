-- Lists that are joined part by part.
use Rattle.std.proofs.Common.{◌≡◌, ℕ, List, [], ◌∷◌, ◌++◌}
use Rattle.std.proofs.lemmas.List.{append_assoc, append-nil}

-- six parts written behind one byte
pub joined_back : {t₀ t₁ t₂ t₃ t₄ t₅ t₆ : List ℕ} (a b c d e f : List ℕ) {m : ℕ} → t₆ ≡ t₅ ++ f → t₅ ≡ t₄ ++ e → t₄ ≡ t₃ ++ d → t₃ ≡ t₂ ++ c → t₂ ≡ t₁ ++ b → t₁ ≡ t₀ ++ a → t₀ ≡ m ∷ [] → t₆ ≡ m ∷ (a ++ (b ++ (c ++ (d ++ (e ++ (f ++ []))))))
joined_back a b c d e f p₆ p₅ p₄ p₃ p₂ p₁ p₀ = rw (p₆, p₅, p₄, p₃, p₂, p₁, p₀) (simp (append_assoc, append-nil))

-- six parts read from the front
pub joined_front : {t₀ t₁ t₂ t₃ t₄ t₅ : List ℕ} (t₆ a b c d e f : List ℕ) → t₀ ≡ a ++ t₁ → t₁ ≡ b ++ t₂ → t₂ ≡ c ++ t₃ → t₃ ≡ d ++ t₄ → t₄ ≡ e ++ t₅ → t₅ ≡ f ++ t₆ → t₀ ≡ (a ++ (b ++ (c ++ (d ++ (e ++ (f ++ [])))))) ++ t₆
joined_front t₆ a b c d e f p₀ p₁ p₂ p₃ p₄ p₅ = rw (p₀, p₁, p₂, p₃, p₄, p₅) (simp (append_assoc, append-nil))
