-- What a linked keeper means.
use Rattle.std.specs.Prelude.{ℕ, List, length, drop, Option}
use Rattle.cards.specs.Holding.{Holding, holding}
use Rattle.cards.specs.Versions.{Kept}
use Rattle.keepers.specs.Memory.{used_of}
use Rattle.keepers.specs.declared.memory.TheConstants.{MOST_PLACES}
use Rattle.linked.specs.Chain.{used_places, kept_in, Walked}
use Rattle.linked.specs.declared.keeper.Linked.{Linked}
use Rattle.linked.specs.declared.place.Place.{Place}

-- the memory that it is lent, all of it
abbrev pub linked_memory : Linked → List Place
linked_memory s = s.places.now

-- the places of it that it uses
abbrev pub linked_used : Linked → List Place
linked_used s = used_places (linked_memory s)

-- the places of it that it never uses: those behind the first 65,536
abbrev pub linked_rest : Linked → List Place
linked_rest s = drop MOST_PLACES (linked_memory s)

-- the versions that it holds
abbrev pub linked_kept : Linked → Kept
linked_kept s = kept_in (linked_used s)

-- how many places it has
abbrev pub linked_places : Linked → ℕ
linked_places s = used_of (length (linked_memory s))

-- what it is to a store: each version has a place
abbrev pub linked_means : Linked → Holding
linked_means s = holding (linked_places s) (linked_kept s)

-- a walk along the chain of the entry e has come to a, from the place b
abbrev pub LinkedWalked : Linked → ℕ → ℕ → Option ℕ → Option ℕ → Type 0
LinkedWalked s e t b a = Walked (linked_used s) s.heads e t b a
