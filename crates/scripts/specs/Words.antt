-- The words of a line, and the letters and numbers that words stand for.
use Rattle.std.specs.Prelude.{◌+◌, ℕ, zero, suc, Bool, false, ◌&&◌, List, [], ◌∷◌, drop, length, ℤ, pos, negsuc, Some, None, Option, option_map, option_and_then, ◌==◌, nat_le, nat_lt, bytes_eq, decimal, slice_index, if◌then◌else◌}
use Rattle.std.specs.Borrow.{Bor}
use Rattle.std.specs.List.{slice_split, list_all}
use Rattle.std.specs.Char.{is_ascii_lowercase, is_ascii_digit}
use Rattle.std.specs.Str.Parse.{digits_value, starts_with_minus}
use Rattle.scripts.specs.declared.word.TheConstants.{MOST_FIELD, MOST_BELOW}

-- a space
abbrev pub is_space : ℕ → Bool
is_space byte = byte == 32

-- what stands between single spaces and the line's ends; an empty line has one empty word
abbrev pub words : List ℕ → List (List ℕ)
words line = slice_split is_space line

-- the parts of what is left, none where nothing is
abbrev pub parts_in : (ℕ → Bool) → Option (Bor (List ℕ)) → List (List ℕ)
parts_in ends None = []
parts_in ends (Some rest) = slice_split ends rest.now

-- the most words that can be left
abbrev pub most_words : Option (Bor (List ℕ)) → ℕ
most_words None = 0
most_words (Some rest) = length rest.now + 1

-- a small letter alone
abbrev pub is_letter : List ℕ → Bool
is_letter (byte ∷ []) = is_ascii_lowercase byte
is_letter word = false

-- the letter that a word is
abbrev pub letter : List ℕ → Option ℕ
letter word = if is_letter word then Some (slice_index word 0) else None

-- the number, up to the most, whose decimal a word is; so no 0 leads another digit
unfoldable pub number : ℕ → List ℕ → Option ℕ
number most word =
    if bytes_eq word (decimal (digits_value 10 word)) && nat_le (digits_value 10 word) most then Some (digits_value 10 word) else None

-- the number below 0 of a size; there is no -0
abbrev pub negative : ℕ → Option ℤ
negative zero = None
negative (suc n) = Some (negsuc n)

-- the number of 16 bits that a word is, with a minus below 0
abbrev pub field : List ℕ → Option ℤ
field word =
    if starts_with_minus word then option_and_then negative (number MOST_BELOW (drop 1 word)) else option_map pos (number MOST_FIELD word)

-- one digit or more, and nothing else
abbrev pub are_digits : List ℕ → Bool
are_digits bytes = nat_lt 0 (length bytes) && list_all is_ascii_digit bytes

-- digits, with perhaps a minus before them
abbrev pub is_number : List ℕ → Bool
is_number word = are_digits (if starts_with_minus word then drop 1 word else word)
