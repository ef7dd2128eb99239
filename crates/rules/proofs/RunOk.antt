-- The invariant and the law of each event, of every run.
use Rattle.std.proofs.Common.{◌≡◌, ℕ, zero, suc, ◌≤◌, Bool, if◌then◌else◌, List, [], ◌∷◌, ◌++◌, length, slice_index_or, replicate, is_ok, None, Result, refl, sym, ap, ◌∙◌, subst₂, inl, arith}
use Rattle.std.specs.Prelude.{⊤}
use Rattle.std.proofs.lemmas.List.{length-replicate}
use Rattle.cards.specs.declared.refusal.Refusal.{Refusal}
use Rattle.rules.proofs.CallCollect.{collect_keeps}
use Rattle.rules.proofs.CallPut.{put_keeps}
use Rattle.rules.proofs.CallStamp.{stamp_keeps}
use Rattle.rules.proofs.EventOk.{EventOk, step_ok}
use Rattle.rules.proofs.Inv.{Inv, Keeps}
use Rattle.rules.proofs.SeatCalls.{seat_keeps, read_keeps, proof_keeps, edit_keeps, write_keeps, lock_keeps, settle_keeps, drop_keeps, end_keeps}
use Rattle.rules.specs.Account.{fed, number, Account, account}
use Rattle.rules.specs.NewStore.{Fresh}
use Rattle.rules.specs.Rows.{free_row}
use Rattle.rules.specs.Rules.{proof_at, edit_at, read_at, write_at, lock_at, stamp_at, put_at, settle_at, drop_at, end_at}
use Rattle.rules.specs.Runs.{Event, Reached, new, more, done, rule_of, step}
use Rattle.rules.specs.Seat.{idle}
use Rattle.rules.specs.State.{State, size, seat, row}
use Rattle.rules.specs.declared.answer.Answer.{Answer}
use Rattle.rules.specs.declared.answer.Answer.TheVariants as answer
use Rattle.rules.specs.declared.call.Call.{Call}
use Rattle.rules.specs.declared.call.Call.TheVariants as call
use Rattle.rules.specs.declared.limits.TheConstants.{SEATS}

-- ---- the invariant

at_all : {X : Type 0} (m k : ℕ) (x : X) → slice_index_or (replicate m x) k x ≡ x
at_all zero k x = refl
at_all (suc m) zero x = refl
at_all (suc m) (suc k) x = at_all m k x

pub fresh_row : (s : State) → Fresh s → (n : ℕ) → row s n ≡ free_row
fresh_row s f n = rw f.rows (at_all (size s) n free_row)

fresh_inv : (s : State) → Fresh s → Inv [] s
fresh_inv s f = record {
  put = λ n t. None;
  shape = record { small = f.small; sixteen = ap length f.seats; rowed = ap length f.rows ∙ length-replicate (size s) free_row; clock = sym f.clock };
  seats = record { seated = λ k. rw (at k) refl; apart = λ j k t u v. absurd (rw (at j) at u); settled = λ t u. grind arith };
  history = record {
    wrote_in = λ t n c u. grind arith;
    put_wrote = λ n t c u. grind arith;
    wrote_put = λ n t c u v. grind arith;
    row_top = λ n t c u. grind arith;
    row_in = λ n. inl (rw (fresh_row s f n) refl);
  };
  keeper = record {
    lawful = f.lawful;
    only = λ n t c u. let k = f.empty n t in grind arith;
    keeps = λ n t c u v. grind arith;
    room = rw f.seats (omega arith);
  };
}
  where
    at : (k : ℕ) → seat s k ≡ idle
    at k = rw f.seats (at_all SEATS k idle)

step_keeps : (h : List Event) (s : State) → Inv h s → (c : Call) → Keeps h s c (rule_of c s)
step_keeps h s i (call.Proof k) = seat_keeps h s i k (call.Proof k) answer.Number (proof_at k s) (proof_keeps h s i k)
step_keeps h s i (call.Edit k) = seat_keeps h s i k (call.Edit k) answer.Number (edit_at k s) (edit_keeps h s i k)
step_keeps h s i (call.Read k n) = seat_keeps h s i k (call.Read k n) answer.Card (read_at k n s) (read_keeps h s i k n)
step_keeps h s i (call.Write k n c) = seat_keeps h s i k (call.Write k n c) done (write_at k n c s) (write_keeps h s i k n c)
step_keeps h s i (call.Lock k) = seat_keeps h s i k (call.Lock k) answer.Number (lock_at k s) (lock_keeps h s i k)
step_keeps h s i (call.Stamp k) = seat_keeps h s i k (call.Stamp k) answer.Number (stamp_at k s) (stamp_keeps h s i k)
step_keeps h s i (call.Put k) = seat_keeps h s i k (call.Put k) answer.Number (put_at k s) (put_keeps h s i k)
step_keeps h s i (call.Settle k) = seat_keeps h s i k (call.Settle k) answer.Number (settle_at k s) (settle_keeps h s i k)
step_keeps h s i (call.Drop k) = seat_keeps h s i k (call.Drop k) done (drop_at k s) (drop_keeps h s i k)
step_keeps h s i (call.End k) = seat_keeps h s i k (call.End k) done (end_at k s) (end_keeps h s i k)
step_keeps h s i (call.Collect n) = collect_keeps h s i n

pub reached_inv : {h : List Event} {s : State} → Reached h s → Inv h s
reached_inv (new {s} f) = fresh_inv s f
reached_inv (more {h} {s} c r) = step_keeps h s (reached_inv r) c

-- ---- the state on which an event was made

-- the newest event was made on a state that the others reach
abbrev Before : List Event → State → Type 0
Before [] s = ⊤
Before (v ∷ h) s = (r : State) × Reached h r × (v.answer ≡ (step r v.call).1) × (s ≡ (step r v.call).0)

pub before : {h : List Event} {s : State} → Reached h s → Before h s
before (new f) = tt
before (more {h} {s} c r) = (s, r, refl, refl)

-- no call changes how many entries there are
pub size_step : (s : State) (c : Call) → size (step s c).0 ≡ size s
size_step s c = grind arith

-- what was drafted up to the last time stays
abbrev Grown : Account → Account → Type 0
Grown a b = (a.last ≤ b.last) × ((t n : ℕ) → t ≤ a.last → b.wrote t n ≡ a.wrote t n)

grown : (a : Account) (c : Call) (b : Bool) (x : ℕ) → Grown a (if b then fed a c x else a)
grown a c b x = (grind arith, λ t n l. grind arith)

-- each event was made on a state that those before it reach, of the same size; the account has only grown since
pub happened : (later : List Event) (v : Event) (earlier : List Event) (s : State) → Reached (later ++ (v ∷ earlier)) s →
    (r : State) × Reached earlier r × (v.answer ≡ (step r v.call).1) × (size s ≡ size r) × Grown (account earlier) (account (later ++ (v ∷ earlier)))
happened [] v earlier s q = let b = before q in (b.0, b.1, b.2, ap size b.3 ∙ size_step b.0 v.call, grown (account earlier) v.call (is_ok v.answer) (number v.answer))
happened (w ∷ later) v earlier s q =
    let b = before q in
    let z = happened later v earlier b.0 b.1 in
    let g = grown (account (later ++ (v ∷ earlier))) w.call (is_ok w.answer) (number w.answer) in
    (z.0, z.1, z.2, ap size b.3 ∙ size_step b.0 w.call ∙ z.3, (omega arith, λ t n l. g.1 t n (omega arith) ∙ z.4.1 t n l))

pub event_ok : (later : List Event) (v : Event) (earlier : List Event) (s : State) → Reached (later ++ (v ∷ earlier)) s →
    EventOk (size s) (account (later ++ (v ∷ earlier))).wrote v.call v.answer earlier
event_ok later v earlier s q =
    let z = happened later v earlier s q in
    let w = (account (later ++ (v ∷ earlier))).wrote in
    subst₂ (λ (N : ℕ) (a : Result Answer Refusal). EventOk N w v.call a earlier) (sym z.3) (sym z.2) (step_ok earlier z.0 (reached_inv z.1) w z.4.1 v.call)
