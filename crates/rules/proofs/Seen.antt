-- What an edit has read where it had no draft.
use Rattle.std.proofs.Common.{ℕ, is_ok, if◌then◌else◌, ◌==◌, List, [], ◌∷◌, Some, None, Ok, Option, Result}
use Rattle.cards.specs.Cards.{blank_card}
use Rattle.cards.specs.declared.card.Card.{Card}
use Rattle.cards.specs.declared.draft.Draft.{Draft}
use Rattle.cards.specs.declared.refusal.Refusal.{Refusal}
use Rattle.rules.specs.Account.{Desk, Drafting, account}
use Rattle.rules.specs.Runs.{Event}
use Rattle.rules.specs.declared.answer.Answer.TheVariants as answer
use Rattle.rules.specs.declared.answer.Answer.{Answer}
use Rattle.rules.specs.declared.call.Call.TheVariants as call
use Rattle.rules.specs.declared.call.Call.{Call}

-- what a seat's edit has read where it had no draft, with the card that it got
abbrev pub saw_undrafted : ℕ → Card → List Draft → Option Card → List Draft
saw_undrafted n c old None = record { entry = n; card = c } ∷ old
saw_undrafted n c old (Some x) = old

abbrev pub saw_desk : ℕ → Card → List Draft → Desk → List Draft
saw_desk n c old (Drafting t f) = saw_undrafted n c old (f n)
saw_desk n c old d = old

abbrev pub card_of : Result Answer Refusal → Card
card_of (Ok (answer.Card c)) = c
card_of x = blank_card

abbrev pub saw_by : (ℕ → List Draft) → (ℕ → Desk) → Call → Card → ℕ → List Draft
saw_by old desk (call.Edit k) x j = if j == k then [] else old j
saw_by old desk (call.Read k n) x j = if j == k then saw_desk n x (old j) (desk j) else old j
saw_by old desk c x j = old j

abbrev pub saw : List Event → ℕ → List Draft
saw [] j = []
saw (v ∷ h) j = if is_ok v.answer then saw_by (saw h) (account h).desk v.call (card_of v.answer) j else saw h j
