-- What a card says: its bit map and its six numbers.
use Rattle.std.specs.Prelude.{ℕ, ◌+◌, List, [], ◌∷◌, ℤ, pos, Some, None, Option, FitsSigned}
use Rattle.std.specs.Int.{w16}
use Rattle.cards.specs.declared.card.Card.{Card}

-- the card without a field
abbrev pub blank_card : Card
blank_card = record { advance = None; left_bearing = None; anchor_across = None; anchor_up = None; mark_class = None; kern = None }

-- a bit's value v where its field is there, else 0
abbrev pub bit : Option ℤ → ℕ → ℕ
bit None v = 0
bit (Some z) v = v

-- the bit map, from the lowest bit: advance, left bearing, anchor across, anchor up, mark class, kern
abbrev pub map_of : Card → ℕ
map_of c = bit c.advance 1 + bit c.left_bearing 2 + bit c.anchor_across 4 + bit c.anchor_up 8 + bit c.mark_class 16 + bit c.kern 32

-- a field's number, 0 where it is absent
abbrev pub value : Option ℤ → ℤ
value None = pos 0
value (Some z) = z

-- the six numbers, in the order of their bits
abbrev pub numbers : Card → List ℤ
numbers c = value c.advance ∷ value c.left_bearing ∷ value c.anchor_across ∷ value c.anchor_up ∷ value c.mark_class ∷ value c.kern ∷ []

-- a field of 16 bits
abbrev pub Fit : Option ℤ → Type 0
Fit None = Unit {0}
Fit (Some z) = FitsSigned w16 z

-- a card whose fields have 16 bits, as every card that a program holds
abbrev pub Fits : Card → Type 0
Fits c = Fit c.advance × Fit c.left_bearing × Fit c.anchor_across × Fit c.anchor_up × Fit c.mark_class × Fit c.kern
