-- Put keeps the invariant.
use Rattle.std.proofs.Common.{◌≡◌, ℕ, suc, ◌+◌, ◌<◌, ◌≤◌, ◌⊎◌, List, [], ◌∷◌, length, get_or, drop, set, Some, None, sym, refl, ap, ◌∙◌, inl, inr, arith}
use Rattle.std.proofs.lemmas.Bool.{cases_eq, eq-eqb}
use Rattle.std.proofs.lemmas.List.Sums.{sum_by-set, get_or-le-sum_by}
use Rattle.std.proofs.lemmas.List.{drop-drop, get_or-set_same, get_or-set_other, length-set}
use Rattle.std.proofs.lemmas.Option.{none-some}
use Rattle.cards.proofs.Counts.{with_other}
use Rattle.cards.specs.Holding.{refusal_of}
use Rattle.cards.specs.Versions.{Kept, with_card}
use Rattle.cards.specs.declared.card.Card.{Card}
use Rattle.cards.specs.declared.draft.Draft.{Draft}
use Rattle.rules.specs.Account.{account}
use Rattle.rules.specs.Rows.{free_row, row_at}
use Rattle.rules.specs.Rules.{put_draft, put_next, put_at}
use Rattle.rules.specs.Runs.{Event, answering}
use Rattle.rules.specs.Seat.{Seat, idle, go_on, draft_of}
use Rattle.rules.specs.State.{State, size, seat, row, ready, ready_of}
use Rattle.rules.specs.declared.answer.Answer.TheVariants as answer
use Rattle.rules.specs.declared.call.Call.TheVariants as call
use Rattle.rules.specs.declared.limits.TheConstants.{SEATS}
use Rattle.rules.specs.declared.row.Row.{Row}
use Rattle.rules.specs.declared.stage.Stage.TheVariants as stage
use Rattle.rules.specs.declared.stage.Stage.{Stage}
use Rattle.rules.proofs.Drafts.{Once, count, draft_of_tail, draft_of_drop, once_drop}
use Rattle.rules.proofs.Inv.{Env, Inv, Keeps, Gone, SeatAt, Waits, WaitsAt, env, lawful_with, at_stage}
use Rattle.rules.proofs.Ready.{ready_late}
use Rattle.rules.proofs.SeatChanged.{in_list, rises, shaped, seats_changed, waits_changed, gone_changed}
use Rattle.rules.proofs.Seen.{saw}
use Rattle.rules.proofs.Versions.{cases_two, with_same}

module _ (h : List Event) (s : State) (i : Inv h s) (k : ℕ) (lt : k < SEATS) (t p : ℕ) (at : (seat s k).stage ≡ stage.Stamped t p) (d : Draft) (rest : List Draft) (e : drop p (seat s k).drafts ≡ d ∷ rest) where
  put_facts : SeatAt (env (account h) s) k (saw h k) ((account h).desk k) (seat s k).reads (seat s k).drafts (stage.Stamped t p)
  put_facts = at_stage i k (stage.Stamped t p) at

  once_left : Once (size s) (d ∷ rest)
  once_left = rw e at (once_drop (size s) p (seat s k).drafts put_facts.5)

  first : draft_of (drop p (seat s k).drafts) d.entry ≡ Some d.card
  first = rw (e, eq-eqb d.entry d.entry refl)

  above : (row s d.entry).time < t
  above = put_facts.7 d.entry d.card first

  was : count (seat s k) ≡ suc (length rest)
  was = rw at (ap length e)

  -- the keeper takes it
  pub put_taken : refusal_of s.holding d.entry t ≡ None
  put_taken = i.keeper.lawful.takes s.holding.kept d.entry t (let l = once_left.0 in let m = i.shape.small in omega arith)
      (let m = was in let l = get_or-le-sum_by count s.seats k idle (in_list i k lt) in let r = i.keeper.room in omega arith) put_facts.2
      (λ u c q. let z = i.history.row_top d.entry u c (i.keeper.only d.entry u c q) in let w = above in omega arith)

  next : drop (p + 1) (seat s k).drafts ≡ rest
  next = sym (drop-drop 1 p (seat s k).drafts) ∙ ap (drop 1) e

  -- what is left of the list does not have its entry
  left : (m : ℕ) (c : Card) → draft_of (drop (p + 1) (seat s k).drafts) m ≡ Some c → (m ≡ d.entry → ⊥) × (draft_of (drop p (seat s k).drafts) m ≡ Some c)
  left m c q = let z = draft_of_tail d rest m c once_left.1 in let n = next in grind arith

  put_done : Keeps h s (call.Put k) (answering answer.Number (put_draft k t p d s None))
  put_done = record {
    put = put';
    shape = shaped i k lt y (account h).last s.clock rs i.shape.clock (length-set s.rows d.entry _);
    seats = seats_changed i k lt y e' (saw h) (account h).desk (record { total = refl; clock = omega arith; ready = more; wrote = λ u m l. refl }) i.seats.settled
        (λ j ne. (refl, refl, ((λ m l. let z = same_row m in let o = put_facts.6 d.entry d.card first in grind arith), λ u w. refl)))
        (λ j u ne v w. ne (i.seats.apart j k u w (rw at v))) (
          put_facts.0,
          put_facts.1,
          put_facts.2,
          put_facts.3,
          put_facts.4,
          put_facts.5,
          (λ m b q. let z = left m b q in rw (same_row m z.0) (put_facts.6 m b z.1)),
          λ m b q. let z = left m b q in rw (same_row m z.0) (put_facts.7 m b z.1),
        );
    history = record {
      wrote_in = i.history.wrote_in;
      put_wrote = λ m u b q. let o = i.history.put_wrote m u b in let w = put_facts.4 d.entry in let z = draft_of_drop (size s) p (seat s k).drafts put_facts.5 d.entry d.card first in grind arith;
      wrote_put = λ m u b q r. waits m u b q r (cases_two d.entry t m u);
      row_top = λ m u b q. let z = i.history.row_top m u b in let l = above in let w = same_row m in let r = here_row in grind arith;
      row_in = λ m. newest m (cases_eq m d.entry);
    };
    keeper = record {
      lawful = lawful_with s.holding (with_card s.holding.kept d.entry t d.card) i.keeper.lawful;
      only = λ m u b q. let o = i.keeper.only m u b in grind arith;
      keeps = λ m u b q r. gone m u b q r (cases_two d.entry t m u);
      room = let z = sum_by-set count s.seats k y idle (in_list i k lt) in let m = was in let w = ap length next in let l = i.keeper.room in let v = i.keeper.lawful.adds s.holding.kept d.entry t d.card in omega arith;
    };
  }
    where
      put' : Kept
      put' = with_card i.put d.entry t d.card

      y : Seat
      y = go_on (stage.Stamped t (p + 1)) (seat s k)

      rs : List Row
      rs = set s.rows d.entry (record { time = t; lock = None })

      more : ready s ≤ ready_of s.clock (set s.seats k y)
      more = rises i k lt y s.clock (omega arith) (λ q. (rw at at (ready_late s.clock s.seats k)) (omega arith))

      e' : Env
      e' = record (env (account h) s) { ready = ready_of s.clock (set s.seats k y); rows = row_at rs }

      same_row : (m : ℕ) → (m ≡ d.entry → ⊥) → row_at rs m ≡ row s m
      same_row m ne = get_or-set_other s.rows d.entry m _ free_row ne

      here_row : row_at rs d.entry ≡ record { time = t; lock = None }
      here_row = get_or-set_same s.rows d.entry _ free_row (rw i.shape.rowed once_left.0)

      waits : (m u : ℕ) (b : Card) → (account h).wrote u m ≡ Some b → put' m u ≡ None → ((m ≡ d.entry) × (u ≡ t)) ⊎ (m ≡ d.entry → u ≡ t → ⊥) → (j : ℕ) × Waits m u (get_or (set s.seats k y) j idle)
      waits m u b q r (inl w) = absurd (none-some d.card (sym r ∙ with_same i.put d.entry t d.card m u w.0 w.1))
      waits m u b q r (inr w) =
          waits_changed i k lt y m u
          (λ x. let v : WaitsAt m u (seat s k).drafts (stage.Stamped t p) = rw at at x in let n = next in (v.0, (v.1.0, let f = w in let o = v.0 in let z = v.1.1 in grind arith)))
          (i.history.wrote_put m u b q (sym (with_other i.put d.entry t d.card m u w) ∙ r))

      newest : (m : ℕ) → (m ≡ d.entry) ⊎ (m ≡ d.entry → ⊥) → ((row_at rs m).time ≡ 0) ⊎ ((b : Card) × (put' m (row_at rs m).time ≡ Some b))
      newest m (inl a) = inr (d.card, with_same i.put d.entry t d.card m (row_at rs m).time a (rw (a, here_row)))
      newest m (inr a) = rw (same_row m a) (let r = i.history.row_in m in grind arith)

      gone : (m u : ℕ) (b : Card) → put' m u ≡ Some b → with_card s.holding.kept d.entry t d.card m u ≡ None → ((m ≡ d.entry) × (u ≡ t)) ⊎ (m ≡ d.entry → u ≡ t → ⊥) →
          Gone (put' m) (ready_of s.clock (set s.seats k y)) (set s.seats k y) u
      gone m u b q r (inl w) = absurd (none-some d.card (sym r ∙ with_same s.holding.kept d.entry t d.card m u w.0 w.1))
      gone m u b q r (inr w) =
          let o = i.keeper.keeps m u b (sym (with_other i.put d.entry t d.card m u w) ∙ q) (sym (with_other s.holding.kept d.entry t d.card m u w) ∙ r) in
          let g = gone_changed i k lt y (i.put m) (ready_of s.clock (set s.seats k y)) u more o tt in (g.0, grind arith, g.2, g.3, g.4)

module _ (h : List Event) (s : State) (i : Inv h s) (k : ℕ) where
  put_left : k < SEATS → (t p : ℕ) → (seat s k).stage ≡ stage.Stamped t p → (l : List Draft) → drop p (seat s k).drafts ≡ l → Keeps h s (call.Put k) (answering answer.Number (put_next k t p s l))
  put_left lt t p at [] e = i
  put_left lt t p at (d ∷ rest) e = rw (put_taken h s i k lt t p at d rest e) (put_done h s i k lt t p at d rest e)

  pub put_keeps : (g : Stage) → (seat s k).stage ≡ g → k < SEATS → Keeps h s (call.Put k) (answering answer.Number (put_at k s g))
  put_keeps (stage.Stamped t p) at lt = put_left lt t p at (drop p (seat s k).drafts) refl
  put_keeps g at lt = i
