-- What a line says: a call, or the place of the first word that does not fit.
use Rattle.std.specs.Prelude.{ℕ, ◌+◌, ◌/◌, ◌%◌, Bool, List, [], ◌∷◌, length, ℤ, Some, None, Ok, Err, Option, Result, option_and_then, ok_or, ◌==◌, nat_lt, if◌then◌else◌}
use Rattle.std.specs.Str.{byte}
use Rattle.cards.specs.declared.card.Card.{Card}
use Rattle.rules.specs.declared.call.Call.{Call}
use Rattle.rules.specs.declared.call.Call.TheVariants as call
use Rattle.scripts.specs.Words.{words, letter, number, field}
use Rattle.scripts.specs.declared.reader.TheConstants.{MOST_LINE, MOST_NUMBER, MOST_MAP}

-- the words of a line that are still to be read, and the place of the first of them, from 1
pub record Left : Type 0 where
  pub words : List (List ℕ)
  pub place : ℕ

-- ---- one word

-- the first of some words
abbrev pub first : List (List ℕ) → Option (List ℕ)
first [] = None
first (word ∷ more) = Some word

-- what the next word stands for, or its place if it is missing or does not fit
abbrev pub fit : {A : Type 0} → (List ℕ → Option A) → Left → Result A ℕ
fit f l = ok_or (option_and_then f (first l.words)) l.place

-- what is left behind the next of some words
abbrev next_of : List (List ℕ) → ℕ → Left
next_of [] place = record { words = []; place = place }
next_of (word ∷ more) place = record { words = more; place = place + 1 }

-- what is left behind the next word
abbrev pub next : Left → Left
next l = next_of l.words l.place

-- nothing, where no word is left; else the place of the first
abbrev pub end_of : List (List ℕ) → ℕ → Result (Unit {0}) ℕ
end_of [] place = Ok tt
end_of words place = Err place

-- the same of what is left of a line
abbrev pub end : Left → Result (Unit {0}) ℕ
end l = end_of l.words l.place

-- ---- words in a row

-- the first place that does not fit is the answer
infixl 10 ◌>>=◌
abbrev pub ◌>>=◌ : {A B : Type 0} → Result A ℕ → (A → Result B ℕ) → Result B ℕ
(Ok x) >>= f = f x
(Err place) >>= f = Err place

-- a seat or an entry
abbrev pub seat_or_entry : List ℕ → Option ℕ
seat_or_entry word = number MOST_NUMBER word

-- one number and nothing behind it
unfoldable pub alone : Left → Result ℕ ℕ
alone l = do
  n ← fit seat_or_entry l
  none ← end (next l)
  Ok n

-- a read: seat and entry
unfoldable pub read_of : Left → Result Call ℕ
read_of l = do
  seat ← fit seat_or_entry l
  entry ← alone (next l)
  Ok (call.Read seat entry)

-- a field that is the next word
abbrev there : Left → Result (Option ℤ) ℕ
there l = do
  z ← fit field l
  Ok (Some z)

-- a field whose bit stands is the next word; one whose bit does not is absent, and takes none
abbrev pub fit_if : Bool → Left → Result (Option ℤ) ℕ
fit_if present l = if present then there l else Ok None

-- what is left behind such a field
abbrev pub next_if : Bool → Left → Left
next_if present l = if present then next l else l

-- a bit of a map, by what it is worth
abbrev pub bit_of : ℕ → ℕ → Bool
bit_of map worth = map / worth % 2 == 1

-- the fields whose bits stand in a map, the lowest bit first, and nothing behind them
unfoldable pub card_of : ℕ → Left → Result Card ℕ
card_of map l = do
  advance ← fit_if (bit_of map 1) l
  let l₁ = next_if (bit_of map 1) l
  left_bearing ← fit_if (bit_of map 2) l₁
  let l₂ = next_if (bit_of map 2) l₁
  anchor_across ← fit_if (bit_of map 4) l₂
  let l₃ = next_if (bit_of map 4) l₂
  anchor_up ← fit_if (bit_of map 8) l₃
  let l₄ = next_if (bit_of map 8) l₃
  mark_class ← fit_if (bit_of map 16) l₄
  let l₅ = next_if (bit_of map 16) l₄
  kern ← fit_if (bit_of map 32) l₅
  none ← end (next_if (bit_of map 32) l₅)
  Ok (record { advance = advance; left_bearing = left_bearing; anchor_across = anchor_across; anchor_up = anchor_up; mark_class = mark_class; kern = kern })

-- a write: seat, entry, bit map and the map's fields
unfoldable pub write_of : Left → Result Call ℕ
write_of l = do
  seat ← fit seat_or_entry l
  entry ← fit seat_or_entry (next l)
  map ← fit (number MOST_MAP) (next (next l))
  card ← card_of map (next (next (next l)))
  Ok (call.Write seat entry card)

-- a call that has one number
abbrev one : (ℕ → Call) → Left → Result Call ℕ
one make l = do
  n ← alone l
  Ok (make n)

-- ---- a line

-- the call that a letter names; another letter does not fit, and has place 1
unfoldable pub call_of : ℕ → Left → Result Call ℕ
call_of name l =
    if name == byte "p" then one call.Proof l
    else if name == byte "e" then one call.Edit l
    else if name == byte "r" then read_of l
    else if name == byte "w" then write_of l
    else if name == byte "l" then one call.Lock l
    else if name == byte "s" then one call.Stamp l
    else if name == byte "u" then one call.Put l
    else if name == byte "t" then one call.Settle l
    else if name == byte "d" then one call.Drop l
    else if name == byte "q" then one call.End l
    else if name == byte "c" then one call.Collect l
    else Err 1

-- the words of a line before any is read
abbrev pub all_of : List ℕ → Left
all_of line = record { words = words line; place = 1 }

-- the call of the words
unfoldable pub read_words : Left → Result Call ℕ
read_words l = do
  name ← fit letter l
  call_of name (next l)

-- the call of a line, or the place of the first word that does not fit; 0 for a line that is too long
abbrev pub read : List ℕ → Result Call ℕ
read line = if nat_lt MOST_LINE (length line) then Err 0 else read_words (all_of line)
