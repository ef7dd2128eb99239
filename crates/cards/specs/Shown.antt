-- The text of a card, for people.
use Rattle.std.specs.Prelude.{ℕ, List, [], ◌∷◌, ◌++◌, ℤ, Some, None, Option, filter_map, codes}
use Rattle.std.specs.List.{join_by}
use Rattle.std.specs.Fmt.{signed_decimal}
use Rattle.cards.specs.declared.card.Card.{Card}

-- the six fields with their names, in the order of their bits
abbrev pub fields_of : Card → List (List ℕ × Option ℤ)
fields_of c = (codes "advance", c.advance) ∷ (codes "left bearing", c.left_bearing) ∷ (codes "anchor across", c.anchor_across) ∷ (codes "anchor up", c.anchor_up) ∷ (codes "mark class", c.mark_class) ∷ (codes "kern", c.kern) ∷ []

-- a field that is there: its name, a space and its number
abbrev pub shown_field : List ℕ × Option ℤ → Option (List ℕ)
shown_field (name, None) = None
shown_field (name, Some z) = Some (name ++ (codes " " ++ signed_decimal z))

-- texts with ", " between two; "blank" where there is none
abbrev pub listed : List (List ℕ) → List ℕ
listed [] = codes "blank"
listed (t ∷ ts) = join_by (λ text. text) (codes ", ") (t ∷ ts)

-- the text of a card: its fields that are there
abbrev pub shown : Card → List ℕ
shown c = listed (filter_map shown_field (fields_of c))
