-- Whether a store can be made, and with which sizes.
use Rattle.std.specs.Prelude.{ℕ, Err, Result, if◌then◌else◌}
use Rattle.cards.specs.declared.refusal.Refusal.{Refusal}
use Rattle.cards.specs.declared.refusal.Refusal.TheVariants as why
use Rattle.keepers.specs.Memory.{memory_answer}
use Rattle.rules.specs.NewStore.{suits}
use Rattle.rules.specs.declared.sizes.Sizes.{Sizes}

-- Sizes for sizes that no store may have, or for memory that would not be used whole
abbrev pub sizes_answer : Sizes → ℕ → Result (Unit {0}) Refusal
sizes_answer z places = if suits z then memory_answer places else Err why.Sizes
