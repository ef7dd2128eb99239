-- The account: a plain machine that is told which call was made, if it was granted, and the start that a proof answered.
use Rattle.std.specs.Prelude.{ℕ, zero, suc, Bool, true, false, List, [], ◌∷◌, is_ok, Some, None, Ok, Option, Result, ◌==◌, if◌then◌else◌}
use Rattle.std.specs.Option.{unwrap_or}
use Rattle.cards.specs.Cards.{blank_card}
use Rattle.cards.specs.declared.card.Card.{Card}
use Rattle.cards.specs.declared.refusal.Refusal.{Refusal}
use Rattle.rules.specs.Runs.{Event}
use Rattle.rules.specs.declared.answer.Answer.{Answer}
use Rattle.rules.specs.declared.answer.Answer.TheVariants as answer
use Rattle.rules.specs.declared.call.Call.{Call}
use Rattle.rules.specs.declared.call.Call.TheVariants as call

-- what the account has on a seat: nothing, an open proof with its start, an open edit with its start and drafts, a stamped edit
-- with its time
pub data Desk : Type 0 where
  Free : Desk
  Reading : ℕ → Desk
  Drafting : ℕ → (ℕ → Option Card) → Desk
  Given : ℕ → Desk

-- what is known of the stamped edits and of the seats
pub record Account : Type 0 where
  -- the last time given
  pub last : ℕ
  -- by time and entry, what the edit of that time drafted
  pub wrote : ℕ → ℕ → Option Card
  -- the times of settled edits
  pub settled : ℕ → Bool
  -- by seat
  pub desk : ℕ → Desk

-- at first nothing
abbrev pub empty : Account
empty = record { last = 0; wrote = λ t n. None; settled = λ t. false; desk = λ k. Free }

-- the number that an answer gave
abbrev pub number : Result Answer Refusal → ℕ
number (Ok (answer.Number t)) = t
number a = 0

-- another desk on the seat k
abbrev pub at_desk : Account → ℕ → Desk → Account
at_desk a k d = record a { desk = λ j. if j == k then d else a.desk j }

-- the edit on a desk now drafts the card for n, whatever it drafted for it before
abbrev pub write_desk : ℕ → Card → Desk → Desk
write_desk n c (Drafting t f) = Drafting t (λ m. if m == n then Some c else f m)
write_desk n c d = d

-- the edit on the seat k gets the next time
abbrev pub stamp_desk : Account → ℕ → Desk → Account
stamp_desk a k (Drafting t f) =
    record (at_desk a k (Given (suc a.last))) {
      last = suc a.last;
      wrote = λ u n. if u == suc a.last then f n else a.wrote u n;
    }
stamp_desk a k d = a

-- and is marked settled
abbrev pub settle_desk : Account → ℕ → Desk → Account
settle_desk a k (Given t) = record (at_desk a k Free) { settled = λ u. if u == t then true else a.settled u }
settle_desk a k d = a

-- what a granted call does; t is the number that it gave, of which only a proof's is used. Calls that are not named change nothing
abbrev pub fed : Account → Call → ℕ → Account
fed a (call.Proof k) t = at_desk a k (Reading t)
fed a (call.Edit k) t = at_desk a k (Drafting a.last (λ n. None))
fed a (call.Write k n c) t = at_desk a k (write_desk n c (a.desk k))
fed a (call.Stamp k) t = stamp_desk a k (a.desk k)
fed a (call.Settle k) t = settle_desk a k (a.desk k)
fed a (call.Drop k) t = at_desk a k Free
fed a (call.End k) t = at_desk a k Free
fed a c t = a

-- the account of a run, its events newest first; a declined call does nothing
abbrev pub account : List Event → Account
account [] = empty
account (v ∷ h) = if is_ok v.answer then fed (account h) v.call (number v.answer) else account h

-- the card of an entry after a time: blank at first, then each stamped edit, singly and in time order, replaces it by its draft
abbrev pub card_after : (ℕ → ℕ → Option Card) → ℕ → ℕ → Card
card_after w zero n = blank_card
card_after w (suc t) n = unwrap_or (w (suc t) n) (card_after w t n)
