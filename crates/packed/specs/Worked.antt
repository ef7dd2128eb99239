-- The worked cases of the packed form.
use Rattle.std.specs.List.{AllByRecursion}
use Rattle.std.specs.Prelude.{◌≡◌, ℕ, List, [], ◌∷◌, pos, negsuc, Some}
use Rattle.std.specs.Option.{option_map}
use Rattle.cards.specs.Cards.{blank_card}
use Rattle.cards.specs.Refusals.{number_of}
use Rattle.cards.specs.declared.card.Card.{Card}
use Rattle.packed.specs.Packed.{packed, unpack_refusal}

-- a card with its bytes, or bytes with the number of the refusal that they get
pub data PackedCase : Type 0 where
  packs : Card → List ℕ → PackedCase
  declined : List ℕ → ℕ → PackedCase

-- the bytes or the number are those that the definitions give
abbrev pub Holds : PackedCase → Type 0
Holds (packs c bs) = packed c ≡ bs
Holds (declined bs n) = option_map number_of (unpack_refusal bs) ≡ Some n

-- advance 620 and anchor across -12
abbrev pub wide_and_low : Card
wide_and_low = record blank_card { advance = Some (pos 620); anchor_across = Some (negsuc 11) }

-- kern -40
abbrev pub tight : Card
tight = record blank_card { kern = Some (negsuc 39) }

-- blank is 00; the others are 05 02 6C FF F4 and 20 FF D8; the bytes 40 are declined by 15, and 01 02 by 16
abbrev pub packed_cases : List PackedCase
packed_cases =
    packs blank_card (0 ∷ [])
    ∷ packs wide_and_low (5 ∷ 2 ∷ 108 ∷ 255 ∷ 244 ∷ [])
    ∷ packs tight (32 ∷ 255 ∷ 216 ∷ [])
    ∷ declined (64 ∷ []) 15
    ∷ declined (1 ∷ 2 ∷ []) 16
    ∷ []

-- all of them hold
abbrev pub PackedCasesHold : Type 0
PackedCasesHold = AllByRecursion Holds packed_cases
