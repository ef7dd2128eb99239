-- Stamp keeps the invariant.
use Rattle.std.proofs.Common.{◌≡◌, ℕ, suc, ◌+◌, ◌<◌, ◌≤◌, false, if◌then◌else◌, ◌==◌, ◌⊎◌, nat_le, List, length, get_or, set, Some, None, Ok, Option, sym, refl, ap, ◌∙◌, inl, inr, arith}
use Rattle.std.proofs.lemmas.Bool.{cases_eq, eq-eqb, ne_eqb, ltb-false}
use Rattle.std.proofs.lemmas.List.Sums.{sum_by-set}
use Rattle.std.proofs.lemmas.List.{get_or-set_same}
use Rattle.cards.specs.Holding.{spare_now}
use Rattle.cards.specs.declared.card.Card.{Card}
use Rattle.cards.specs.declared.refusal.Refusal.TheVariants as why
use Rattle.rules.specs.Account.{Given, account}
use Rattle.rules.specs.Rows.{any_locked_by_other, any_stale}
use Rattle.rules.specs.Rules.{lacks_places, stamp_at}
use Rattle.rules.specs.Runs.{Event, answering}
use Rattle.rules.specs.Seat.{Seat, idle, go_on}
use Rattle.rules.specs.State.{State, size, seat, row, ready, ready_of, unput_all, with_seat, with_clock}
use Rattle.rules.specs.declared.answer.Answer.TheVariants as answer
use Rattle.rules.specs.declared.call.Call.TheVariants as call
use Rattle.rules.specs.declared.limits.TheConstants.{SEATS, LAST_TIME}
use Rattle.rules.specs.declared.stage.Stage.TheVariants as stage
use Rattle.rules.specs.declared.stage.Stage.{Stage}
use Rattle.rules.proofs.Drafts.{count, drafts_below}
use Rattle.rules.proofs.Inv.{Env, Inv, Keeps, Edits, Locks, SeatOk, Waits, env, at_stage}
use Rattle.rules.proofs.Ready.{ready_le}
use Rattle.rules.proofs.SeatCalls.{if_failed}
use Rattle.rules.proofs.SeatChanged.{calm_at, in_list, rises, shaped, seats_changed, waits_changed, gone_changed}
use Rattle.rules.proofs.Seen.{saw}

module _ (h : List Event) (s : State) (i : Inv h s) (k : ℕ) where
  stamped : k < SEATS → (t : ℕ) → (seat s k).stage ≡ stage.Locked t → lacks_places k s ≡ false →
      Keeps h s (call.Stamp k) (Ok (with_clock (with_seat s k (go_on (stage.Stamped (s.clock + 1) 0) (seat s k))) (s.clock + 1), answer.Number (s.clock + 1)))
  stamped lt t at fit = rw o.0.1 (record {
    put = i.put;
    shape = shaped i k lt y (suc (account h).last) (s.clock + 1) s.rows next refl;
    seats = seats_changed i k lt y e' (saw h) _ (record { total = refl; clock = omega arith; ready = more; wrote = past }) i.seats.settled
        (λ j ne. (rw (ne_eqb j k ne), refl, ((λ n l. (l, refl)), λ t u. refl)))
        (λ j u ne v w. let o = i.seats.seated j in grind arith) here;
    history = record {
      wrote_in = λ u n c w. let z = i.history.wrote_in u n c in let b = drafts_below (size s) (seat s k).drafts o.0.3 n c in let d = o.0.2 n in let q = next in grind arith;
      put_wrote = λ n u c w. let z = i.history.put_wrote n u c w in past u n (i.history.wrote_in u n c z).1 ∙ z;
      wrote_put = λ n u c v w. waits n u c v w (cases_eq u (suc (account h).last));
      row_top = i.history.row_top;
      row_in = i.history.row_in;
    };
    keeper = record {
      lawful = i.keeper.lawful;
      only = i.keeper.only;
      keeps = λ n u c v w. gone_changed i k lt y (i.put n) (ready_of (s.clock + 1) seats') u more (i.keeper.keeps n u c v w) tt;
      room = let z = sum_by-set count s.seats k y idle (in_list i k lt) in let l = ltb-false (spare_now s.holding) (unput_all s.seats + length (seat s k).drafts) fit in omega arith;
    };
  })
    where
      o : Edits (env (account h) s) (saw h k) ((account h).desk k) (seat s k).reads (seat s k).drafts t × Locks (row s) k (seat s k).drafts
      o = at_stage i k (stage.Locked t) at

      y : Seat
      y = go_on (stage.Stamped (s.clock + 1) 0) (seat s k)

      next : suc (account h).last ≡ s.clock + 1
      next = let e = i.shape.clock in omega arith

      seats' : List Seat
      seats' = set s.seats k y

      more : ready s ≤ ready_of (s.clock + 1) seats'
      more = rises i k lt y (s.clock + 1) (omega arith) (λ q. let l = ready_le s.clock s.seats in omega arith)

      wrote' : ℕ → ℕ → Option Card
      wrote' u n = if u == suc (account h).last then o.0.0 n else (account h).wrote u n

      past : (u n : ℕ) → u ≤ s.clock → wrote' u n ≡ (account h).wrote u n
      past u n l = rw (ne_eqb u (suc (account h).last) (λ q. let e = next in omega arith))

      e' : Env
      e' = record (env (account h) s) { clock = s.clock + 1; ready = ready_of (s.clock + 1) seats'; wrote = wrote' }

      here : SeatOk e' k (saw h k) (if k == k then Given (suc (account h).last) else (account h).desk k) y
      here = rw (eq-eqb k k refl) (
        ap Given next,
        (let l = i.seats.settled (s.clock + 1) in let m = ready_le s.clock s.seats in grind arith),
        omega arith,
        omega arith,
        (λ n. rw (eq-eqb (s.clock + 1) (suc (account h).last) (sym next)) (sym (o.0.2 n))),
        o.0.3,
        o.1,
        λ n c q. let r = i.history.row_in n in let b = i.history.wrote_in (row s n).time n in let d = i.history.put_wrote n (row s n).time in grind arith,
      )

      waits : (n u : ℕ) (c : Card) → wrote' u n ≡ Some c → i.put n u ≡ None → (u ≡ suc (account h).last) ⊎ (u ≡ suc (account h).last → ⊥) → (j : ℕ) × Waits n u (get_or seats' j idle)
      waits n u c v w (inl e) = (k, rw (get_or-set_same s.seats k y idle (in_list i k lt)) (sym (e ∙ next), (c, o.0.2 n ∙ (rw (eq-eqb u (suc (account h).last) e) at v))))
      waits n u c v w (inr e) =
          waits_changed i k lt y n u (λ z. absurd (calm_at i k (stage.Locked t) at tt n u z)) (i.history.wrote_put n u c (rw (ne_eqb u (suc (account h).last) e) at v) w)

  pub stamp_keeps : (g : Stage) → (seat s k).stage ≡ g → k < SEATS → Keeps h s (call.Stamp k) (answering answer.Number (stamp_at k s g))
  stamp_keeps (stage.Locked t) at lt =
      if_failed h s i (call.Stamp k) answer.Number why.Held _ (any_locked_by_other s.rows k (seat s k).reads) (λ a.
      if_failed h s i (call.Stamp k) answer.Number why.Stale _ (any_stale s.rows t (seat s k).reads) (λ b.
      if_failed h s i (call.Stamp k) answer.Number why.Places _ (lacks_places k s) (λ fit.
      if_failed h s i (call.Stamp k) answer.Number why.Clock _ (nat_le LAST_TIME s.clock) (λ c. stamped lt t at fit))))
  stamp_keeps g at lt = i
