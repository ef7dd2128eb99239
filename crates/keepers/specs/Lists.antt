-- The last place of a list whose item has a property.
use Rattle.std.specs.Prelude.{ℕ, ◌<◌, List, length, Some, None, Option, slice_index_or}

-- r is the last place whose item has the property P, or no item has it
abbrev pub Last : {X : Type 0} → (X → Type 0) → List X → Option ℕ → Type 0
Last {X} P xs None = (k : ℕ) (d : X) → k < length xs → P (slice_index_or xs k d) → ⊥
Last {X} P xs (Some i) = (i < length xs) × ((d : X) → P (slice_index_or xs i d)) × ((k : ℕ) (d : X) → i < k → k < length xs → P (slice_index_or xs k d) → ⊥)
