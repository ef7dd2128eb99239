-- What versions that stand in a list mean together. A time of 0 is no version: a place that holds none has it.
use Rattle.std.specs.Prelude.{◌≡◌, ℕ, zero, suc, ◌<◌, List, [], ◌∷◌, Some, None, Option, ◌==◌, slice_index_or, if◌then◌else◌}
use Rattle.std.specs.Option.{option_or}
use Rattle.cards.specs.Cards.{blank_card}
use Rattle.cards.specs.Versions.{Kept}
use Rattle.cards.specs.declared.card.Card.{Card}
use Rattle.keepers.specs.declared.version.Version.{Version}

-- what a place without a version holds
abbrev pub no_version : Version
no_version = record { entry = 0; time = 0; card = blank_card }

-- the card that a version has for an entry at a time
abbrev pub holds : Version → ℕ → ℕ → Option Card
holds v e zero = None
holds v e (suc t) = if e == v.entry then (if suc t == v.time then Some v.card else None) else None

-- the set of the versions in a list, where f gives an item's version
abbrev pub set_of : {X : Type 0} → (X → Version) → List X → Kept
set_of f [] e t = None
set_of f (x ∷ xs) e t = option_or (holds (f x) e t) (set_of f xs e t)

-- the item at place p, or d past the end, has a version of the entry e
abbrev pub Of : {X : Type 0} → (X → Version) → X → List X → ℕ → ℕ → Type 0
Of f d xs e p = (0 < (f (slice_index_or xs p d)).time) × ((f (slice_index_or xs p d)).entry ≡ e)
