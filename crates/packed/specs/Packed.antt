-- The packed form of a card.
use Rattle.std.specs.Prelude.{◌≡◌, ℕ, ◌+◌, ◌*◌, ◌/◌, ◌%◌, Bool, List, [], ◌∷◌, ◌++◌, length, drop, ℤ, Some, None, Ok, Err, Option, Result, ◌==◌, nat_le, nat_lt, if◌then◌else◌}
use Rattle.std.specs.Int.{w16}
use Rattle.std.proofs.Common.{of_z}
use Rattle.cards.specs.Cards.{map_of, numbers, Fits}
use Rattle.cards.specs.declared.card.Card.{Card}
use Rattle.cards.specs.declared.refusal.Refusal.{Refusal}
use Rattle.cards.specs.declared.refusal.Refusal.TheVariants as why
use Rattle.packed.specs.declared.packing.TheConstants.{MAPS}

-- a number of 16 bits in two bytes, the high one first, in two's complement
abbrev pub two_bytes : ℤ → List ℕ
two_bytes z = (of_z w16 z / 256 % 256) ∷ (of_z w16 z % 256) ∷ []

-- the bytes of those numbers whose bit is set in a map, the lowest bit first
unfoldable pub standing : ℕ → List ℤ → List ℕ
standing m [] = []
standing m (z ∷ zs) = (if m % 2 == 1 then two_bytes z else []) ++ standing (m / 2) zs

-- the map's byte, then the numbers whose bit is set
unfoldable pub packed : Card → List ℕ
packed c = map_of c ∷ standing (map_of c) (numbers c)

-- how many of the six bits of a map are set
abbrev pub bits_set : ℕ → ℕ
bits_set m = m % 2 + m / 2 % 2 + m / 4 % 2 + m / 8 % 2 + m / 16 % 2 + m / 32 % 2

-- the bytes of a field, none where it is absent
abbrev pub field_bytes : Option ℤ → List ℕ
field_bytes None = []
field_bytes (Some z) = two_bytes z

-- ---- packing

-- a buffer of n bytes is too short for the packed card
abbrev pub too_short : Card → ℕ → Bool
too_short c n = nat_lt n (length (packed c))

-- what is answered: the length, or Short
abbrev pub pack_answer : Card → ℕ → Result ℕ Refusal
pack_answer c n = if too_short c n then Err why.Short else Ok (length (packed c))

-- the buffer after it: the packed card and what stood behind it, or all as it was
abbrev pub pack_buffer : Card → List ℕ → List ℕ
pack_buffer c bs = if too_short c (length bs) then bs else packed c ++ drop (length (packed c)) bs

-- ---- unpacking

-- why no card can be read from the front of the bytes, if none can
abbrev pub unpack_refusal : List ℕ → Option Refusal
unpack_refusal [] = Some why.Short
unpack_refusal (m ∷ bs) =
    if nat_le MAPS m then Some why.Map
    else if nat_lt (length bs) (2 * bits_set m) then Some why.Short
    else None

-- the card c is read, and rest follows it: no other card and rest have these bytes
abbrev pub Unpacks : List ℕ → Card → List ℕ → Type 0
Unpacks bs c rest = (unpack_refusal bs ≡ None) × (bs ≡ packed c ++ rest) × ((d : Card) (s : List ℕ) → Fits d → bs ≡ packed d ++ s → (c ≡ d) × (rest ≡ s))

-- none is read, for the reason r: the bytes begin with no packed card
abbrev pub Unreadable : List ℕ → Refusal → Type 0
Unreadable bs r = (unpack_refusal bs ≡ Some r) × ((d : Card) (s : List ℕ) → Fits d → bs ≡ packed d ++ s → ⊥)
