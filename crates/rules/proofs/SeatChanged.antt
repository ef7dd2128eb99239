-- One seat of a store is changed: what every such change owes, and a change by which nothing is stamped or put.
use Rattle.std.proofs.Common.{◌≡◌, ℕ, ◌<◌, ◌≤◌, Bool, true, ◌⊎◌, List, length, get_or, set, Some, Option, refl, ◌∙◌, inl, inr, arith}
use Rattle.std.proofs.lemmas.List.Sums.{sum_by-set}
use Rattle.std.proofs.lemmas.List.{length-set}
use Rattle.cards.specs.declared.card.Card.{Card}
use Rattle.cards.specs.declared.draft.Draft.{Draft}
use Rattle.rules.specs.Account.{Desk, Account}
use Rattle.rules.specs.Rows.{row_at}
use Rattle.rules.specs.Seat.{Seat, idle, unput_of}
use Rattle.rules.specs.State.{State, seat, ready, ready_of, with_seat, with_rows}
use Rattle.rules.specs.declared.limits.TheConstants.{SEATS}
use Rattle.rules.specs.declared.row.Row.{Row}
use Rattle.rules.specs.declared.stage.Stage.TheVariants as stage
use Rattle.rules.specs.declared.stage.Stage.{Stage}
use Rattle.rules.proofs.Drafts.{all_set, count}
use Rattle.rules.proofs.Inv.{Env, Edits, Stamps, SeatAt, SeatOk, Waits, WaitsAt, Gone, env, Shape, Seats, Clauses}
use Rattle.rules.proofs.Latest.{card_same}
use Rattle.rules.proofs.Ready.{Late, Off, ready_le, ready_late, ready_most}
use Rattle.rules.proofs.Rows.{RowsKept}

-- ---- a seat that is left alone

-- what seats look at, later on
pub record Later (e f : Env) : Type 0 where
  pub total : f.total ≡ e.total
  pub clock : e.clock ≤ f.clock
  pub ready : e.ready ≤ f.ready
  pub wrote : (t n : ℕ) → t ≤ e.clock → f.wrote t n ≡ e.wrote t n

-- the rows that the seat j has locked stay, and so does whether the time of its stage is settled
abbrev pub Alone : ℕ → Stage → Env → Env → Type 0
Alone j g e f =
    ((n : ℕ) → (e.rows n).lock ≡ Some j → ((f.rows n).lock ≡ Some j) × ((f.rows n).time ≡ (e.rows n).time))
    × ((t : ℕ) → Stamps t g → f.settled t ≡ e.settled t)

module _ (e f : Env) (o : Later e f) (j : ℕ) (seen : List Draft) (d : Desk) (reads : List ℕ) (ds : List Draft) where
  edits_later : (t : ℕ) → Edits e seen d reads ds t → Edits f seen d reads ds t
  edits_later t h = (
    h.0,
    h.1,
    h.2,
    rw o.total h.3,
    (let c = o.clock in let l = h.4 in omega arith),
    λ m x l. let q = h.5 m x l in (q.0, card_same f.wrote e.wrote t (get_or seen m x).entry (λ u b. o.wrote u _ (let z = h.4 in omega arith)) ∙ q.1),
  )

  seat_later : (g : Stage) → Alone j g e f → SeatAt e j seen d reads ds g → SeatAt f j seen d reads ds g
  seat_later stage.Idle r h = h
  seat_later (stage.Proof t) r h = (h.0, (let l = h.1 in let m = o.ready in omega arith))
  seat_later (stage.Edit t) r h = edits_later t h
  seat_later (stage.Locked t) r h = (edits_later t h.0, λ n c q. (r.0 n (h.1 n c q)).0)
  seat_later (stage.Stamped t p) r h = (
    h.0,
    r.1 t refl ∙ h.1,
    h.2,
    (let c = o.clock in let l = h.3 in omega arith),
    (λ n. o.wrote t n h.3 ∙ h.4 n),
    rw o.total h.5,
    (λ n c q. (r.0 n (h.6 n c q)).0),
    λ n c q. let w = (r.0 n (h.6 n c q)).1 in let l = h.7 n c q in omega arith,
  )

-- ---- a seat that is not stamped

abbrev pub Plain : Stage → Type 0
Plain (stage.Stamped t p) = ⊥
Plain g = Unit {0}

count_plain : (ds : List Draft) (g : Stage) → Plain g → length (unput_of ds g) ≡ 0
count_plain ds g h = grind arith

module _ {a : Account} {saw : ℕ → List Draft} {s : State} (i : Clauses a saw s) (k : ℕ) where
  pub calm_at : (g : Stage) → (seat s k).stage ≡ g → Plain g → (n t : ℕ) → Waits n t (seat s k) → ⊥
  calm_at g e p n t w = let v : WaitsAt n t (seat s k).drafts g = rw e at w in grind arith

  pub in_list : k < SEATS → k < length s.seats
  in_list inside = rw i.shape.sixteen inside

-- ---- the seat k becomes y

module _ {a : Account} {saw : ℕ → List Draft} {s : State} (i : Clauses a saw s) (k : ℕ) (inside : k < SEATS) (y : Seat) where
  -- the ready point does not fall, if the clock does not and nothing up to it is left to put
  pub rises : (c : ℕ) → s.clock ≤ c → Late (ready s) y → ready s ≤ ready_of c (set s.seats k y)
  rises c l late = ready_most (ready s) c (set s.seats k y) (let r = ready_le s.clock s.seats in omega arith)
      (all_set (λ (j : ℕ) (x : Seat). Late (ready s) x) s.seats k y (in_list i k inside) (λ j ne. ready_late s.clock s.seats j) late)

  pub shaped : (last c : ℕ) (rs : List Row) → last ≡ c → length rs ≡ length s.rows → Shape last s.sizes (set s.seats k y) rs c
  shaped last c rs e l = record { small = i.shape.small; sixteen = length-set s.seats k y ∙ i.shape.sixteen; rowed = l ∙ i.shape.rowed; clock = e }

  -- the others are left alone, k is as its new stage wants it, and has a time that no other has
  pub seats_changed : (f : Env) (saw' : ℕ → List Draft) (desk' : ℕ → Desk) → Later (env a s) f → ((t : ℕ) → f.settled t ≡ true → t ≤ ready s) →
      ((j : ℕ) → (j ≡ k → ⊥) → (desk' j ≡ a.desk j) × (saw' j ≡ saw j) × Alone j (seat s j).stage (env a s) f) →
      ((j t : ℕ) → (j ≡ k → ⊥) → Stamps t y.stage → Stamps t (seat s j).stage → ⊥) → SeatOk f k (saw' k) (desk' k) y → Seats f saw' desk' (set s.seats k y)
  seats_changed f saw' desk' later settled others alone here = record {
    seated = all_set (λ (j : ℕ) (x : Seat). SeatOk f j (saw' j) (desk' j) x) s.seats k y (in_list i k inside)
        (λ j ne. let o = others j ne in rw (o.0, o.1) (seat_later (env a s) f later j (saw j) (a.desk j) (seat s j).reads (seat s j).drafts (seat s j).stage o.2 (i.seats.seated j))) here;
    apart = λ j l t u v. both j l t (which j t u) (which l t v);
    settled = λ t u. let l = settled t u in let m = later.ready in omega arith;
  }
    where
      Which : ℕ → ℕ → Type 0
      Which j t = ((j ≡ k) × Stamps t y.stage) ⊎ ((j ≡ k → ⊥) × Stamps t (seat s j).stage)

      which : (j t : ℕ) → Stamps t (get_or (set s.seats k y) j idle).stage → Which j t
      which j t = all_set (λ (j : ℕ) (x : Seat). Stamps t x.stage → Which j t) s.seats k y (in_list i k inside) (λ j ne w. inr (ne, w)) (λ w. inl (refl, w)) j

      both : (j l t : ℕ) → Which j t → Which l t → j ≡ l
      both j l t (inl u) (inl v) = omega (arith, u.0, v.0)
      both j l t (inl u) (inr v) = absurd (alone l t v.0 u.1 v.1)
      both j l t (inr u) (inl v) = absurd (alone j t u.0 v.1 u.1)
      both j l t (inr u) (inr v) = i.seats.apart j l t u.1 v.1

  -- what waited at a seat waits there, if k lets it
  pub waits_changed : (n t : ℕ) → (Waits n t (seat s k) → Waits n t y) → (j : ℕ) × Waits n t (seat s j) → (j : ℕ) × Waits n t (get_or (set s.seats k y) j idle)
  waits_changed n t here w = (w.0, all_set (λ (j : ℕ) (x : Seat). Waits n t (seat s j) → Waits n t x) s.seats k y (in_list i k inside) (λ j ne v. v) here w.0 w.1)

  -- a version that may go still may, if k opens no proof from its time up to just before its follower's
  pub gone_changed : (m : ℕ → Option Card) (r t : ℕ) → ready s ≤ r → (g : Gone m (ready s) s.seats t) → Off t g.0 y.stage → Gone m r (set s.seats k y) t
  gone_changed m r t l g off = (g.0, g.1, g.2, (let z = g.3 in omega arith), all_set (λ (j : ℕ) (x : Seat). Off t g.0 x.stage) s.seats k y (in_list i k inside) (λ j ne. g.4 j) off)

  -- nothing waits at k, before or after; a proof opens below no version that is gone
  pub reseat : (rs : List Row) (settled' : ℕ → Bool) (desk' : ℕ → Desk) (saw' : ℕ → List Draft) → Plain y.stage → ((n t : ℕ) → Waits n t (seat s k) → ⊥) →
      RowsKept k s.rows rs → ((j : ℕ) → (j ≡ k → ⊥) → (desk' j ≡ a.desk j) × (saw' j ≡ saw j)) →
      ((r : ℕ) → ready s ≤ r → SeatOk (record (env a s) { ready = r; rows = row_at rs; settled = settled' }) k (saw' k) (desk' k) y) →
      ((t g : ℕ) → g ≤ ready s → ((j : ℕ) → Off t g (seat s j).stage) → Off t g y.stage) →
      ((t : ℕ) → settled' t ≡ true → t ≤ ready s) → ((j t : ℕ) → (j ≡ k → ⊥) → Stamps t (seat s j).stage → settled' t ≡ a.settled t) →
      Clauses (record a { settled = settled'; desk = desk' }) saw' (with_rows (with_seat s k y) rs)
  reseat rs settled' desk' saw' plain calm rows others here off settled unsettled = record {
    put = i.put;
    shape = shaped a.last s.clock rs i.shape.clock rows.rowed;
    seats = seats_changed (env (record a { settled = settled'; desk = desk' }) (with_rows (with_seat s k y) rs)) saw' desk'
        (record { total = refl; clock = omega arith; ready = more; wrote = λ t n l. refl }) settled
        (λ j ne. let o = others j ne in (o.0, o.1, ((λ n l. (rows.locks n j ne l, rows.times n)), λ t. unsettled j t ne)))
        (λ j t ne w v. grind arith) (here _ more);
    history = record {
      wrote_in = i.history.wrote_in;
      put_wrote = i.history.put_wrote;
      wrote_put = λ n t c u v. waits_changed n t (λ w. absurd (calm n t w)) (i.history.wrote_put n t c u v);
      row_top = λ n t c u. rw (rows.times n) (i.history.row_top n t c u);
      row_in = λ n. rw (rows.times n) (i.history.row_in n);
    };
    keeper = record {
      lawful = i.keeper.lawful;
      only = i.keeper.only;
      keeps = λ n t c u v. let g = i.keeper.keeps n t c u v in gone_changed (i.put n) _ t more g (off t g.0 g.3 g.4);
      room = let z = sum_by-set count s.seats k y idle (in_list i k inside) in let w = count_plain y.drafts y.stage plain in let l = i.keeper.room in omega arith;
    };
  }
    where
      more : ready s ≤ ready_of s.clock (set s.seats k y)
      more = rises s.clock (omega arith) (grind arith)
