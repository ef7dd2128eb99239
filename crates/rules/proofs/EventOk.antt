-- The law of one event, and that each call's is so.
use Rattle.std.proofs.Common.{◌≡◌, ℕ, ◌+◌, ◌<◌, ◌≤◌, false, IsTrue, ◌⊎◌, List, slice_index_or, Some, Ok, Err, Option, Result, unwrap_or, nat_lt, sym, ◌∙◌, arith}
use Rattle.std.specs.List.{AllByRecursion}
use Rattle.std.specs.Prelude.{⊤}
use Rattle.std.proofs.lemmas.List.{get_or_past}
use Rattle.std.proofs.lemmas.List.Elements.{recursion_from_All}
use Rattle.cards.specs.declared.card.Card.{Card}
use Rattle.cards.specs.declared.draft.Draft.{Draft}
use Rattle.cards.specs.declared.refusal.Refusal.{Refusal}
use Rattle.cards.specs.declared.refusal.Refusal.TheVariants as why
use Rattle.rules.proofs.CallPut.{put_taken}
use Rattle.rules.proofs.SeatCalls.{read_card}
use Rattle.rules.proofs.Inv.{Inv, proof_card, flat, Seen, unlocked_put, at_stage}
use Rattle.rules.proofs.Latest.{card_same, card_flat}
use Rattle.rules.proofs.Ready.{ready_le}
use Rattle.rules.proofs.Rows.{not_held, not_stale}
use Rattle.rules.proofs.SeatChanged.{calm_at}
use Rattle.rules.proofs.Seen.{saw}
use Rattle.rules.specs.Account.{Desk, Reading, Drafting, account, card_after}
use Rattle.rules.specs.Rows.{any_locked_by_other, any_stale, locked_by_other}
use Rattle.rules.specs.Rules.{newest, card_at}
use Rattle.rules.specs.Runs.{Event, step}
use Rattle.rules.specs.Seat.{idle, has_read}
use Rattle.rules.specs.State.{State, size, seat, row, ready}
use Rattle.rules.specs.declared.answer.Answer.{Answer}
use Rattle.rules.specs.declared.answer.Answer.TheVariants as answer
use Rattle.rules.specs.declared.call.Call.{Call}
use Rattle.rules.specs.declared.call.Call.TheVariants as call
use Rattle.rules.specs.declared.limits.TheConstants.{SEATS}
use Rattle.rules.specs.declared.stage.Stage.TheVariants as stage

-- ---- the law of one event; w has the drafts of all stamped edits of the whole run

-- the card that a draft names is its entry's from u up to just before t
abbrev pub From : (ℕ → ℕ → Option Card) → ℕ → ℕ → Draft → Type 0
From w t u d = (T : ℕ) → u ≤ T → T < t → card_after w T d.entry ≡ d.card

-- what the edit read where it had no draft stood from its start up to just before t
abbrev pub Stood : (ℕ → ℕ → Option Card) → ℕ → List Draft → Desk → Type 0
Stood w t seen (Drafting u f) = AllByRecursion (From w t u) seen
Stood w t seen d = ⊥

-- a read gives the card after the start, or the edit's draft
abbrev pub RightCard : (ℕ → ℕ → Option Card) → ℕ → Card → Desk → Type 0
RightCard w n c (Reading t) = c ≡ card_after w t n
RightCard w n c (Drafting t f) = c ≡ unwrap_or (f n) (card_after w t n)
RightCard w n c d = ⊥

-- an event after the events h, in a store of N entries
abbrev pub EventOk : ℕ → (ℕ → ℕ → Option Card) → Call → Result Answer Refusal → List Event → Type 0
EventOk N w (call.Proof k) (Ok (answer.Number t)) h = (t ≤ (account h).last) × ((u : ℕ) → IsTrue ((account h).settled u) → u ≤ t)
EventOk N w (call.Edit k) (Ok (answer.Number t)) h = t ≡ (account h).last
EventOk N w (call.Read k n) (Ok (answer.Card c)) h = RightCard w n c ((account h).desk k)
EventOk N w (call.Read k n) (Err r) h = (t : ℕ) → (account h).desk k ≡ Reading t → N ≤ n
EventOk N w (call.Stamp k) (Ok (answer.Number t)) h = (t ≡ (account h).last + 1) × Stood w t (saw h k) ((account h).desk k)
EventOk N w (call.Put k) (Err r) h = (r ≡ why.Seat) ⊎ (r ≡ why.Stage)
EventOk N w c r h = ⊤

-- ---- each call's event is so
module _ (h : List Event) (s : State) (i : Inv h s) (w : ℕ → ℕ → Option Card) (same : (t n : ℕ) → t ≤ (account h).last → w t n ≡ (account h).wrote t n) where
  card_whole : (T n : ℕ) → T ≤ s.clock → card_after w T n ≡ card_after (account h).wrote T n
  card_whole T n l = card_same w (account h).wrote T n (λ t m. same t n (let c = i.shape.clock in omega arith))

  -- what a locked edit has read stands up to now
  stood : (k t : ℕ) → (seat s k).stage ≡ stage.Locked t → any_locked_by_other s.rows k (seat s k).reads ≡ false → any_stale s.rows t (seat s k).reads ≡ false →
      Stood w (s.clock + 1) (saw h k) ((account h).desk k)
  stood k t at free fresh =
      let o = at_stage i k (stage.Locked t) at in
      rw o.0.1 (recursion_from_All (From w (s.clock + 1) t) (saw h k) (λ j d l. from (slice_index_or (saw h k) j d) (o.0.5 j d l)))
    where
      own : (n : ℕ) → IsTrue (has_read (seat s k).reads n) → (j : ℕ) → (row s n).lock ≡ Some j → j ≡ k
      own n r j e = let q = not_held s.rows k (seat s k).reads n j free in grind arith

      from : (d : Draft) → Seen (account h).wrote t (seat s k).reads d → From w (s.clock + 1) t d
      from d q T l m =
          card_whole T d.entry (omega arith)
          ∙ card_flat (account h).wrote t T d.entry l (λ u a b.
          flat i d.entry
          (unlocked_put i d.entry k (own d.entry q.0) (λ v x. calm_at i k (stage.Locked t) at tt d.entry v x))
          u (let z = not_stale s.rows t (seat s k).reads d.entry fresh q.0 in omega arith))
          ∙ q.1

  pub step_ok : (c : Call) → EventOk (size s) w c (step s c).1 h
  step_ok (call.Proof k) = let l = ready_le s.clock s.seats in let c = i.shape.clock in let q = i.seats.settled in grind arith
  step_ok (call.Edit k) = let c = i.shape.clock in grind arith
  step_ok (call.Read k n) =
      let l = ready_le s.clock s.seats in
      let o = i.seats.seated k in
      let past : SEATS ≤ k → seat s k ≡ idle = λ m. get_or_past s.seats k idle (let c = i.shape.sixteen in omega arith) in
      let proof : (t : ℕ) → (seat s k).stage ≡ stage.Proof t → t ≤ ready s → card_at s n t ≡ card_after w t n =
      λ t at m. proof_card i n k t at m ∙ sym (card_whole t n (omega arith)) in
      let edit : (t : ℕ) → (seat s k).stage ≡ stage.Edit t → t ≤ s.clock → locked_by_other (row s n).lock k ≡ false → nat_lt t (row s n).time ≡ false → newest s n ≡ card_after w t n =
      λ t at m a b. read_card h s i k n t at a b ∙ sym (card_whole t n m) in
      grind arith
  step_ok (call.Stamp k) = let c = i.shape.clock in let t = stood k in grind arith
  step_ok (call.Put k) = let t = put_taken h s i k in grind arith
  step_ok c = tt
