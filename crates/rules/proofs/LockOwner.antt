-- An entry is locked only by an edit that holds its lock.
use Rattle.std.proofs.Common.{◌≡◌, ℕ, ◌+◌, IsTrue, is_some, List, length, drop, Some, sym, ap, ◌∙◌, arith}
use Rattle.std.proofs.lemmas.List.{get_or-set_same, get_or-set_other, drop_all, drop-drop}
use Rattle.std.proofs.lemmas.Option.{none-some}
use Rattle.rules.proofs.Rows.{set_free, taken_free, taken_before, released_mine, released_before}
use Rattle.rules.proofs.RunOk.{fresh_row, reached_inv}
use Rattle.rules.specs.Law.{locked_drafts}
use Rattle.rules.specs.Runs.{Event, step, Reached, new, more}
use Rattle.rules.specs.Seat.{draft_of}
use Rattle.rules.specs.State.{State, seat, row}
use Rattle.rules.specs.declared.call.Call.{Call}
use Rattle.rules.specs.declared.call.Call.TheVariants as call
use Rattle.rules.specs.declared.limits.TheConstants.{SEATS}
use Rattle.rules.specs.declared.row.Row.{Row}

-- one seat of the list changed
ruleset one-seat = (arith, get_or-set_same, get_or-set_other)

-- the law's part, of one entry and one seat
abbrev Owned : State → ℕ → ℕ → Type 0
Owned s n k = (row s n).lock ≡ Some k → IsTrue (is_some (draft_of (locked_drafts (seat s k).drafts (seat s k).stage) n))

module _ (s : State) (sixteen : length s.seats ≡ SEATS) (n j : ℕ) (old : Owned s n j) where
  step_owned : (c : Call) → Owned (step s c).0 n j
  step_owned (call.Lock k) e =
      let others = taken_before s.rows k (seat s k).drafts n j in
      let undrafted = taken_free s.rows k (seat s k).drafts n in
      grind one-seat
  step_owned (call.Put k) e =
      let rest : (p : ℕ) → drop (p + 1) (seat s k).drafts ≡ drop 1 (drop p (seat s k).drafts) = λ p. sym (drop-drop 1 p (seat s k).drafts) in
      grind (one-seat, set_free, rest)
  step_owned (call.Settle k) e = grind (one-seat, drop_all)
  step_owned (call.Drop k) e =
      let before = released_before s.rows k (seat s k).drafts n j in
      let drafted = released_mine s.rows k (seat s k).drafts n in
      grind one-seat
  step_owned c e = grind one-seat

pub reached_locks : {h : List Event} {s : State} → Reached h s → (n j : ℕ) → Owned s n j
reached_locks (new {s} f) n j = λ e. absurd (none-some j (sym (ap (λ (r : Row). r.lock) (fresh_row s f n)) ∙ e))
reached_locks (more {h} {s} c r) n j = step_owned s (reached_inv r).shape.sixteen n j (reached_locks r n j) c
