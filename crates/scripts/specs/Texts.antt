-- What is written: a call as a line, and the line that answers one.
use Rattle.std.specs.Prelude.{ℕ, List, [], ◌∷◌, ◌++◌, ℤ, Some, None, Ok, Err, Option, Result, codes, decimal, flat_map}
use Rattle.std.specs.Fmt.{signed_decimal}
use Rattle.std.specs.Str.{byte}
use Rattle.cards.specs.Cards.{map_of}
use Rattle.cards.specs.Refusals.{number_of}
use Rattle.cards.specs.declared.card.Card.{Card}
use Rattle.cards.specs.declared.refusal.Refusal.{Refusal}
use Rattle.cards.specs.declared.refusal.Refusal.TheVariants as why
use Rattle.rules.specs.declared.answer.Answer.{Answer}
use Rattle.rules.specs.declared.answer.Answer.TheVariants as answer
use Rattle.rules.specs.declared.call.Call.{Call}
use Rattle.rules.specs.declared.call.Call.TheVariants as call

-- a number with one space before it
abbrev pub spaced : ℕ → List ℕ
spaced n = byte " " ∷ decimal n

-- the same of a field, where it is there
abbrev pub spaced_field : Option ℤ → List ℕ
spaced_field None = []
spaced_field (Some z) = byte " " ∷ signed_decimal z

-- the fields of a card, the lowest bit first
abbrev pub fields : Card → List (Option ℤ)
fields c = c.advance ∷ c.left_bearing ∷ c.anchor_across ∷ c.anchor_up ∷ c.mark_class ∷ c.kern ∷ []

-- a card: its bit map, and the fields that are there
abbrev pub card_text : Card → List ℕ
card_text c = spaced (map_of c) ++ flat_map spaced_field (fields c)

-- the letter that names a call
abbrev pub letter_of : Call → ℕ
letter_of (call.Proof seat) = byte "p"
letter_of (call.Edit seat) = byte "e"
letter_of (call.Read seat entry) = byte "r"
letter_of (call.Write seat entry card) = byte "w"
letter_of (call.Lock seat) = byte "l"
letter_of (call.Stamp seat) = byte "s"
letter_of (call.Put seat) = byte "u"
letter_of (call.Settle seat) = byte "t"
letter_of (call.Drop seat) = byte "d"
letter_of (call.End seat) = byte "q"
letter_of (call.Collect entry) = byte "c"

-- the numbers of a call
abbrev pub numbers_of : Call → List ℕ
numbers_of (call.Proof seat) = spaced seat
numbers_of (call.Edit seat) = spaced seat
numbers_of (call.Read seat entry) = spaced seat ++ spaced entry
numbers_of (call.Write seat entry card) = spaced seat ++ (spaced entry ++ card_text card)
numbers_of (call.Lock seat) = spaced seat
numbers_of (call.Stamp seat) = spaced seat
numbers_of (call.Put seat) = spaced seat
numbers_of (call.Settle seat) = spaced seat
numbers_of (call.Drop seat) = spaced seat
numbers_of (call.End seat) = spaced seat
numbers_of (call.Collect entry) = spaced entry

-- the line of a call, without its end
abbrev pub call_text : Call → List ℕ
call_text c = letter_of c ∷ numbers_of c

-- what a granted call gives: a number, a card or nothing more
abbrev pub given_text : Answer → List ℕ
given_text (answer.Number n) = spaced n
given_text (answer.Card c) = card_text c
given_text answer.Done = []

-- 0 and what a granted call gives, or the number of the refusal
abbrev pub outcome_text : Result Answer Refusal → List ℕ
outcome_text (Ok given) = spaced 0 ++ given_text given
outcome_text (Err refusal) = spaced (number_of refusal)

-- the line that answers a call: its letter and its outcome
abbrev pub answer_text : Call → Result Answer Refusal → List ℕ
answer_text c outcome = letter_of c ∷ (outcome_text outcome ++ codes "\n")

-- the line that answers a line that cannot be read, with the place of the first word that does not fit
abbrev pub unread_text : ℕ → List ℕ
unread_text place = byte "?" ∷ (spaced (number_of why.Line) ++ (spaced place ++ codes "\n"))
