-- The law: what proofs and edits saw in a run fits the stamped edits, run one at a time.
use Rattle.std.specs.Prelude.{◌≡◌, ℕ, ◌+◌, ◌<◌, ◌≤◌, IsTrue, IsErr, ⊤, ◌⊎◌, List, [], ◌++◌, ◌∷◌, All, Any, is_some, Some, None, Ok, Err, Option, Result, ◌≢◌}
use Rattle.std.specs.Option.{unwrap_or}
use Rattle.cards.specs.declared.card.Card.{Card}
use Rattle.cards.specs.declared.draft.Draft.{Draft}
use Rattle.cards.specs.declared.refusal.Refusal.{Refusal}
use Rattle.cards.specs.declared.refusal.Refusal.TheVariants as why
use Rattle.rules.specs.Account.{Desk, Reading, Drafting, Account, account, card_after}
use Rattle.rules.specs.NewStore.{Fresh}
use Rattle.rules.specs.Runs.{Event, event, step, Reached, answers, play, events}
use Rattle.rules.specs.Seat.{draft_of, unput_of}
use Rattle.rules.specs.State.{State, size, seat, row, versions}
use Rattle.rules.specs.declared.answer.Answer.{Answer}
use Rattle.rules.specs.declared.answer.Answer.TheVariants as answer
use Rattle.rules.specs.declared.call.Call.{Call}
use Rattle.rules.specs.declared.call.Call.TheVariants as call
use Rattle.rules.specs.declared.limits.TheConstants.{LAST_TIME}
use Rattle.rules.specs.declared.stage.Stage.{Stage}
use Rattle.rules.specs.declared.stage.Stage.TheVariants as stage

-- ---- words that the law uses; events stand newest first

-- after the events `earlier` the call c was answered a, and after that came the events `later`
abbrev pub Happened : List Event → List Event → Call → Result Answer Refusal → List Event → Type 0
Happened h later c a earlier = h ≡ later ++ (event c a ∷ earlier)

-- the edit on seat k stays the same: no other is opened there
abbrev pub SameEdit : ℕ → List Event → Type 0
SameEdit k h = All (λ (v : Event). v.call ≡ call.Edit k → IsErr v.answer) h

-- no proof is open on a seat
abbrev pub Shut : Desk → Type 0
Shut (Reading t) = ⊥
Shut d = ⊤

-- an edit is open on a seat
abbrev pub EditsThere : Desk → Type 0
EditsThere (Drafting t f) = ⊤
EditsThere d = ⊥

-- a proof or an edit is open on a seat
abbrev pub Open : Desk → Type 0
Open (Reading t) = ⊤
Open d = EditsThere d

-- no proof is open anywhere, and every stamped edit is settled
abbrev pub Quiet : Account → Type 0
Quiet a = ((k : ℕ) → Shut (a.desk k)) × ((t : ℕ) → 0 < t → t ≤ a.last → IsTrue (a.settled t))

-- a call is a collect
abbrev pub IsCollect : Call → Type 0
IsCollect (call.Collect n) = ⊤
IsCollect c = ⊥

-- collects alone
abbrev pub Collects : List Event → Type 0
Collects h = All (λ (v : Event). IsCollect v.call) h

-- a collect of n was declined
abbrev pub Declined : ℕ → List Event → Type 0
Declined n h = Any (λ (v : Event). (v.call ≡ call.Collect n) × IsErr v.answer) h

-- of an entry that no stamped edit drafted nothing is held; of any other one version, with its card after the last time
abbrev pub OneLeft : Account → (ℕ → Option Card) → ℕ → Type 0
OneLeft a m n =
    (((t : ℕ) → a.wrote t n ≡ None) × ((t : ℕ) → m t ≡ None))
    ⊎ ((t : ℕ) × ((c : Card) × (a.wrote t n ≡ Some c)) × (m t ≡ Some (card_after a.wrote a.last n)) × ((u : ℕ) → (u ≢ t) → m u ≡ None))

-- the drafts whose locks a seat's edit holds: all of a locked edit, of a stamped one those not put yet
abbrev pub locked_drafts : List Draft → Stage → List Draft
locked_drafts ds (stage.Locked t) = ds
locked_drafts ds g = unput_of ds g

-- ---- the form of an answer

-- a call is declined, or gives a card, nothing more, or else a number, as is its kind
abbrev pub HasForm : Call → Result Answer Refusal → Type 0
HasForm (call.Read k n) (Ok (answer.Card c)) = ⊤
HasForm (call.Write k n c) (Ok answer.Done) = ⊤
HasForm (call.Drop k) (Ok answer.Done) = ⊤
HasForm (call.End k) (Ok answer.Done) = ⊤
HasForm (call.Read k n) (Ok a) = ⊥
HasForm (call.Write k n c) (Ok a) = ⊥
HasForm (call.Drop k) (Ok a) = ⊥
HasForm (call.End k) (Ok a) = ⊥
HasForm c (Ok (answer.Number t)) = ⊤
HasForm c (Ok a) = ⊥
HasForm c (Err r) = ⊤

-- ---- the law

-- Of the events h, which led to the state s. Cards are those after the stamped edits of the whole run. The last three parts are of
-- the state s; since every beginning of a run is a run, they hold all along.
pub record Law (h : List Event) (s : State) : Type 0 where
  -- a granted edit answers the last time given, a granted stamp the next
  pub edit_answers_last_time : (later earlier : List Event) (k t : ℕ) →
      Happened h later (call.Edit k) (Ok (answer.Number t)) earlier → t ≡ (account earlier).last
  pub stamp_answers_next_time : (later earlier : List Event) (k t : ℕ) →
      Happened h later (call.Stamp k) (Ok (answer.Number t)) earlier → t ≡ (account earlier).last + 1
  -- an edit's granted read gives its draft there, or without one the card there after its start
  pub edit_reads_draft_or_start : (later earlier : List Event) (k n u : ℕ) (f : ℕ → Option Card) (c : Card) →
      Happened h later (call.Read k n) (Ok (answer.Card c)) earlier → (account earlier).desk k ≡ Drafting u f →
      c ≡ unwrap_or (f n) (card_after (account h).wrote u n)
  -- where it had no draft and that edit is stamped, that card stands at every time from its start to just before its own
  pub read_stands_until_stamp : (later middle earlier : List Event) (k n t u : ℕ) (f : ℕ → Option Card) (c : Card) →
      Happened h later (call.Stamp k) (Ok (answer.Number t)) (middle ++ (event (call.Read k n) (Ok (answer.Card c)) ∷ earlier)) →
      (account earlier).desk k ≡ Drafting u f → f n ≡ None → SameEdit k middle →
      (T : ℕ) → u ≤ T → T < t → card_after (account h).wrote T n ≡ c
  -- a proof's start is no later than the last time then given, and no earlier than the time of any edit settled before
  pub proof_starts_settled : (later earlier : List Event) (k t : ℕ) →
      Happened h later (call.Proof k) (Ok (answer.Number t)) earlier →
      (t ≤ (account earlier).last) × ((u : ℕ) → IsTrue ((account earlier).settled u) → u ≤ t)
  -- a proof's granted read gives the card after its start, and its read of an entry of the store is never declined
  pub proof_reads_start : (later earlier : List Event) (k n u : ℕ) (c : Card) →
      Happened h later (call.Read k n) (Ok (answer.Card c)) earlier → (account earlier).desk k ≡ Reading u →
      c ≡ card_after (account h).wrote u n
  pub proof_read_granted : (later earlier : List Event) (k n u : ℕ) (r : Refusal) →
      Happened h later (call.Read k n) (Err r) earlier → (account earlier).desk k ≡ Reading u → size s ≤ n
  -- once no proof is open and all stamped edits are settled, collects alone, on each entry until declined, leave just one
  -- version of each entry that a stamped edit drafted, with its card after the last time, and no other version
  pub collects_leave_one : (later earlier : List Event) → h ≡ later ++ earlier → Quiet (account earlier) → Collects later →
      ((n : ℕ) → n < size s → Declined n later) → (n : ℕ) → OneLeft (account h) (versions s n) n
  -- a read is granted only where a proof or an edit is open, a stamp only where an edit is; each answer is of its call's form
  pub read_needs_open : (later earlier : List Event) (k n : ℕ) (c : Card) →
      Happened h later (call.Read k n) (Ok (answer.Card c)) earlier → Open ((account earlier).desk k)
  pub stamp_needs_edit : (later earlier : List Event) (k t : ℕ) →
      Happened h later (call.Stamp k) (Ok (answer.Number t)) earlier → EditsThere ((account earlier).desk k)
  pub answer_has_form : (later earlier : List Event) (c : Call) (a : Result Answer Refusal) →
      Happened h later c a earlier → HasForm c a
  -- put is declined only by Seat or Stage: the keeper takes every draft
  pub put_is_taken : (later earlier : List Event) (k : ℕ) (r : Refusal) →
      Happened h later (call.Put k) (Err r) earlier → (r ≡ why.Seat) ⊎ (r ≡ why.Stage)
  -- an entry is locked only by an edit that holds its lock; so an edit that is dropped or settled leaves no lock
  pub locks_are_of_drafts : (n k : ℕ) → (row s n).lock ≡ Some k →
      IsTrue (is_some (draft_of (locked_drafts (seat s k).drafts (seat s k).stage) n))
  -- a call that is declined leaves the state as it was
  pub declined_changes_nothing : (c : Call) (r : Refusal) → (step s c).1 ≡ Err r → (step s c).0 ≡ s
  -- the clock never passes 1,000,000, so that stamp is declined by Clock exactly there
  pub clock_ends : s.clock ≤ LAST_TIME

-- it holds of every state that a run from a new store over an empty keeper reaches
abbrev pub LawHolds : Type 0
LawHolds = (h : List Event) (s : State) → Reached h s → Law h s

-- and so of every list of calls, made in their order on such a store
abbrev pub LawOfLists : Type 0
LawOfLists = (cs : List Call) (s : State) → Fresh s → Law (events [] cs (answers s cs)) (play s cs)
