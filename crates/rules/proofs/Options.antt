-- Two options that hold the same, and one that holds nothing.
use Rattle.std.proofs.Common.{◌≡◌, Some, None, Option, sym, refl}

pub nothing : {X : Type 0} (o : Option X) → ((c : X) → o ≡ Some c → ⊥) → o ≡ None
nothing None f = refl
nothing (Some c) f = absurd (f c refl)

pub same_option : {X : Type 0} (a b : Option X) → ((c : X) → a ≡ Some c → b ≡ Some c) → ((c : X) → b ≡ Some c → a ≡ None → ⊥) → a ≡ b
same_option None b f g = sym (nothing b (λ c q. g c q refl))
same_option (Some c) b f g = sym (f c refl)
