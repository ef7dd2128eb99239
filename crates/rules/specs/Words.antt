-- Each call and each answer as its number and its values.
use Rattle.std.specs.Prelude.{ℕ, List, [], ◌∷◌, Some, None, Ok, Err, Option, Result}
use Rattle.cards.specs.Refusals.{number_of}
use Rattle.cards.specs.declared.card.Card.{Card}
use Rattle.cards.specs.declared.refusal.Refusal.{Refusal}
use Rattle.rules.specs.declared.answer.Answer.{Answer}
use Rattle.rules.specs.declared.answer.Answer.TheVariants as answer
use Rattle.rules.specs.declared.call.Call.{Call}
use Rattle.rules.specs.declared.call.Call.TheVariants as call

-- a number, the numbers that go with it, and the card, where there is one
pub record Told : Type 0 where
  pub number : ℕ
  pub values : List ℕ
  pub card : Option Card

abbrev told_of : ℕ → List ℕ → Option Card → Told
told_of n vs c = record { number = n; values = vs; card = c }

-- a call: its place among the calls, from 1, and its seat and entry in that order
abbrev pub call_told : Call → Told
call_told (call.Proof k) = told_of 1 (k ∷ []) None
call_told (call.Edit k) = told_of 2 (k ∷ []) None
call_told (call.Read k n) = told_of 3 (k ∷ n ∷ []) None
call_told (call.Write k n c) = told_of 4 (k ∷ n ∷ []) (Some c)
call_told (call.Lock k) = told_of 5 (k ∷ []) None
call_told (call.Stamp k) = told_of 6 (k ∷ []) None
call_told (call.Put k) = told_of 7 (k ∷ []) None
call_told (call.Settle k) = told_of 8 (k ∷ []) None
call_told (call.Drop k) = told_of 9 (k ∷ []) None
call_told (call.End k) = told_of 10 (k ∷ []) None
call_told (call.Collect n) = told_of 11 (n ∷ []) None

-- an answer: 0 where the call is granted, with what it gives, else the refusal's number
abbrev pub answer_told : Result Answer Refusal → Told
answer_told (Ok (answer.Number t)) = told_of 0 (t ∷ []) None
answer_told (Ok (answer.Card c)) = told_of 0 [] (Some c)
answer_told (Ok answer.Done) = told_of 0 [] None
answer_told (Err r) = told_of (number_of r) [] None
