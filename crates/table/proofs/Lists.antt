-- What this crate asks of lists.
use Rattle.std.proofs.Common.{◌≡◌, ℕ, ◌≤◌, Bool, List, [], ◌∷◌, map, is_some, Some, None, Option, sym, refl, arith}
use Rattle.std.proofs.Math.Seq.{take-set-lt}
use Rattle.std.proofs.lemmas.Bool.{ne_eqb, eq-eqb}
use Rattle.std.proofs.lemmas.List.Folds.{list_any_at, list_any_none}
use Rattle.std.specs.List.{list_any}
use Rattle.std.specs.Prelude.{◌==◌}
use Rattle.keepers.specs.Lists.{Last}
use Rattle.rules.specs.Seat.{has_read}

-- a place among the first
pub ruleset front = (take-set-lt)

pub any_map : {X Y : Type 0} (p : Y → Bool) (f : X → Y) (xs : List X) → list_any p (map f xs) ≡ list_any (λ x. p (f x)) xs
any_map p f [] = refl
any_map p f (x ∷ xs) = rw (any_map p f xs)

-- the one search finds an entry on a reading list exactly if it is there
pub read_found : (ms : List ℕ) (n : ℕ) (r : Option ℕ) → Last (λ m. (m ≡ n) × (0 ≤ 0)) ms r → is_some r ≡ has_read ms n
read_found ms n None h = sym (list_any_none (λ m. n == m) ms (λ k d l. ne_eqb n _ (λ e. h k d l (sym e, omega arith))))
read_found ms n (Some i) h = sym (list_any_at (λ m. n == m) ms i 0 h.0 (eq-eqb n _ (sym (h.1 0).0)))
