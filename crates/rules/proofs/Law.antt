-- The law, from that of each event.
use Rattle.std.proofs.Common.{◌≡◌, ℕ, ◌<◌, ◌≤◌, IsErr, List, [], ◌∷◌, ◌++◌, None, Ok, Err, Option, arith}
use Rattle.std.proofs.lemmas.List.Elements.{recursion_from_All}
use Rattle.std.specs.List.{AllByRecursion}
use Rattle.cards.specs.declared.card.Card.{Card}
use Rattle.rules.proofs.Collected.{collected}
use Rattle.rules.proofs.EventOk.{From, Stood, EventOk}
use Rattle.rules.proofs.LockOwner.{reached_locks}
use Rattle.rules.proofs.RunOk.{happened, event_ok}
use Rattle.rules.proofs.Seen.{saw}
use Rattle.rules.specs.Account.{Drafting, account, card_after}
use Rattle.rules.specs.Law.{SameEdit, LawHolds}
use Rattle.rules.specs.Runs.{Event, event, step, Reached, new, more}
use Rattle.rules.specs.State.{State, size}
use Rattle.rules.specs.declared.answer.Answer.TheVariants as answer
use Rattle.rules.specs.declared.call.Call.{Call}
use Rattle.rules.specs.declared.call.Call.TheVariants as call
use Rattle.rules.specs.declared.limits.TheConstants.{LAST_TIME}

-- ---- what an edit had read before its stamp, up to when it began
stood_before : (w : ℕ → ℕ → Option Card) (t k : ℕ) (v : Event) (h : List Event) → (v.call ≡ call.Edit k → IsErr v.answer) →
    Stood w t (saw (v ∷ h) k) ((account (v ∷ h)).desk k) → Stood w t (saw h k) ((account h).desk k)
stood_before w t k v h ne r = grind arith

stood_since : (w : ℕ → ℕ → Option Card) (t k : ℕ) (middle earlier : List Event) → AllByRecursion (λ (v : Event). v.call ≡ call.Edit k → IsErr v.answer) middle →
    Stood w t (saw (middle ++ earlier) k) ((account (middle ++ earlier)).desk k) → Stood w t (saw earlier k) ((account earlier).desk k)
stood_since w t k [] earlier s r = r
stood_since w t k (v ∷ middle) earlier s r = stood_since w t k middle earlier s.1 (stood_before w t k v (middle ++ earlier) s.0 r)

-- so what it read where it had no draft stands
stood_here : (w : ℕ → ℕ → Option Card) (t k n u : ℕ) (f : ℕ → Option Card) (c : Card) (earlier : List Event) → (account earlier).desk k ≡ Drafting u f → f n ≡ None →
    Stood w t (saw (event (call.Read k n) (Ok (answer.Card c)) ∷ earlier) k) ((account earlier).desk k) → From w t u (record { entry = n; card = c })
stood_here w t k n u f c earlier d e r T l m = grind arith

-- the clock ends at the last time, so that the refusal is given exactly there
step_clock : (s : State) (c : Call) → s.clock ≤ LAST_TIME → (step s c).0.clock ≤ LAST_TIME
step_clock s c l = grind arith

reached_clock : {h : List Event} {s : State} → Reached h s → s.clock ≤ LAST_TIME
reached_clock (new f) = let z = f.clock in omega arith
reached_clock (more {h} {s} c r) = step_clock s c (reached_clock r)

pub law_holds_lem : LawHolds
law_holds_lem h s r = record {
  edit_answers_last_time = λ later earlier k t e. at later (event (call.Edit k) (Ok (answer.Number t))) earlier e;
  stamp_answers_next_time = λ later earlier k t e. (at later (event (call.Stamp k) (Ok (answer.Number t))) earlier e).0;
  edit_reads_draft_or_start = λ later earlier k n u f c e d. rw d at (at later (event (call.Read k n) (Ok (answer.Card c))) earlier e);
  read_stands_until_stamp = stands;
  proof_starts_settled = λ later earlier k t e. at later (event (call.Proof k) (Ok (answer.Number t))) earlier e;
  proof_reads_start = λ later earlier k n u c e d. rw d at (at later (event (call.Read k n) (Ok (answer.Card c))) earlier e);
  proof_read_granted = λ later earlier k n u q e d. at later (event (call.Read k n) (Err q)) earlier e u d;
  collects_leave_one = collected h s r;
  put_is_taken = λ later earlier k q e. at later (event (call.Put k) (Err q)) earlier e;
  read_needs_open = λ later earlier k n c e. let x = at later (event (call.Read k n) (Ok (answer.Card c))) earlier e in grind arith;
  stamp_needs_edit = λ later earlier k t e. let x = (at later (event (call.Stamp k) (Ok (answer.Number t))) earlier e).1 in grind arith;
  answer_has_form = λ later earlier c a e. let z = (happened later (event c a) earlier s (rw e at r)).2 in grind arith;
  locks_are_of_drafts = reached_locks r;
  declined_changes_nothing = λ c q e. grind arith;
  clock_ends = reached_clock r;
}
  where
    at : (later : List Event) (v : Event) (earlier : List Event) → h ≡ later ++ (v ∷ earlier) → EventOk (size s) (account h).wrote v.call v.answer earlier
    at later v earlier e = rw e (event_ok later v earlier s (rw e at r))

    stands : (later middle earlier : List Event) (k n t u : ℕ) (f : ℕ → Option Card) (c : Card) →
        h ≡ later ++ (event (call.Stamp k) (Ok (answer.Number t)) ∷ (middle ++ (event (call.Read k n) (Ok (answer.Card c)) ∷ earlier))) → (account earlier).desk k ≡ Drafting u f → f n ≡ None → SameEdit k middle →
        (T : ℕ) → u ≤ T → T < t → card_after (account h).wrote T n ≡ c
    stands later middle earlier k n t u f c e d un same =
        let w = (account h).wrote in
        let read = event (call.Read k n) (Ok (answer.Card c)) ∷ earlier in
        let stood = (at later (event (call.Stamp k) (Ok (answer.Number t))) (middle ++ read) e).1 in
        stood_here w t k n u f c earlier d un (stood_since w t k middle read (recursion_from_All _ middle same) stood)
