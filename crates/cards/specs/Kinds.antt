-- Which fields a kind of entry may bear.
use Rattle.std.specs.Prelude.{ℕ, Bool, ◌==◌, bit_and}

-- advance, left bearing, anchor across and anchor up
abbrev pub letter_map : ℕ
letter_map = 15

-- anchor across, anchor up and mark class
abbrev pub mark_map : ℕ
mark_map = 28

-- kern
abbrev pub pair_map : ℕ
pair_map = 32

-- every bit of a card's map stands in the map of its kind
abbrev pub fits_in : ℕ → ℕ → Bool
fits_in kind card = bit_and card kind == card
