-- Proof, edit, write, lock, settle, drop, end and read keep the invariant: they change a seat, and put nothing.
use Rattle.std.proofs.Common.{◌≡◌, ℕ, ◌<◌, Bool, true, false, if◌then◌else◌, ◌==◌, ◌||◌, nat_lt, List, map, length, is_some, Some, None, Ok, Err, Option, sym, refl, ap, ◌∙◌, arith, [], ◌∷◌, ◌++◌, subst}
use mathlib.Core.Path.{fun_ext}
use Rattle.std.proofs.lemmas.Bool.{eq-eqb, ne_eqb, ltb-true, ltb-false}
use Rattle.std.proofs.lemmas.List.Elements.{All-cons}
use Rattle.std.proofs.lemmas.List.{drop_all}
use Rattle.cards.specs.declared.card.Card.{Card}
use Rattle.cards.specs.declared.draft.Draft.{Draft}
use Rattle.cards.specs.declared.refusal.Refusal.TheVariants as why
use Rattle.cards.specs.declared.refusal.Refusal.{Refusal}
use Rattle.rules.specs.Account.{account, card_after}
use Rattle.rules.specs.Rows.{any_locked_by_other, take_locks, release_locks, locked_by_other}
use Rattle.rules.specs.Rules.{Outcome, in_seat, at_seat, proof_at, edit_at, fits, write_at, entry_of, lock_at, settle_at, dropped, drop_at, end_at, newest, read_edit, read_at}
use Rattle.rules.specs.Runs.{Event, answering, done}
use Rattle.rules.specs.Seat.{idle, begin, go_on, draft_of, with_draft, has_read}
use Rattle.rules.specs.State.{State, size, seat, ready, row}
use Rattle.rules.specs.declared.answer.Answer.TheVariants as answer
use Rattle.rules.specs.declared.answer.Answer.{Answer}
use Rattle.rules.specs.declared.call.Call.TheVariants as call
use Rattle.rules.specs.declared.call.Call.{Call}
use Rattle.rules.specs.declared.limits.TheConstants.{SEATS, MOST_DRAFTS, MOST_READS}
use Rattle.rules.specs.declared.stage.Stage.TheVariants as stage
use Rattle.rules.specs.declared.stage.Stage.{Stage}
use Rattle.rules.proofs.Drafts.{draft_of_with, once_with}
use Rattle.rules.proofs.Inv.{WaitsAt, Inv, Keeps, at_stage, Seen, Clauses, unlocked_put, newest_card}
use Rattle.rules.proofs.Rows.{rows_same, rows_taken, rows_released, taken_mine, has_more, has_new}
use Rattle.rules.proofs.SeatChanged.{Plain, calm_at, reseat}
use Rattle.rules.proofs.Seen.{saw, saw_desk, saw_undrafted}

module _ (h : List Event) (s : State) (i : Inv h s) where
  -- a test declines, or the rest of the rule keeps it
  pub if_passed : {X : Type 0} (c : Call) (f : X → Answer) (r : Refusal) (o : Outcome X) (b : Bool) → (b ≡ true → Keeps h s c (answering f o)) → Keeps h s c (answering f (if b then o else Err r))
  if_passed c f r o true keeps = keeps refl
  if_passed c f r o false keeps = i

  pub if_failed : {X : Type 0} (c : Call) (f : X → Answer) (r : Refusal) (o : Outcome X) (b : Bool) → (b ≡ false → Keeps h s c (answering f o)) → Keeps h s c (answering f (if b then Err r else o))
  if_failed c f r o true keeps = i
  if_failed c f r o false keeps = keeps refl

  -- a rule that names a seat keeps it if it does at the stage of a seat below 16
  pub seat_keeps : {X : Type 0} (k : ℕ) (c : Call) (f : X → Answer) (rule : Stage → Outcome X) → ((g : Stage) → (seat s k).stage ≡ g → k < SEATS → Keeps h s c (answering f (rule g))) →
      Keeps h s c (answering f (in_seat k (rule (seat s k).stage)))
  seat_keeps k c f rule keeps = if_passed c f why.Seat (rule (seat s k).stage) (nat_lt k SEATS) (λ e. keeps (seat s k).stage refl (ltb-true k SEATS e))

module _ (h : List Event) (s : State) (i : Inv h s) (k : ℕ) where
  pub proof_keeps : (g : Stage) → (seat s k).stage ≡ g → k < SEATS → Keeps h s (call.Proof k) (answering answer.Number (proof_at k s g))
  proof_keeps stage.Idle at lt =
      reseat i k lt (begin (stage.Proof (ready s))) s.rows (account h).settled _ (saw h) tt (calm_at i k stage.Idle at tt) (rows_same k s.rows) (λ j ne. rw (ne_eqb j k ne) (refl, refl))
      (λ r l. rw (eq-eqb k k refl) (refl, l)) (λ t g l o m. l) i.seats.settled (λ j t ne w. refl)
  proof_keeps g at lt = i

  pub edit_keeps : (g : Stage) → (seat s k).stage ≡ g → k < SEATS → Keeps h s (call.Edit k) (answering answer.Number (edit_at k s g))
  edit_keeps stage.Idle at lt =
      reseat i k lt (begin (stage.Edit s.clock)) s.rows (account h).settled _ _ tt (calm_at i k stage.Idle at tt) (rows_same k s.rows) (λ j ne. rw (ne_eqb j k ne) (refl, refl))
      (λ r l. rw (eq-eqb k k refl) ((λ n. None), rw i.shape.clock, (λ n. refl), tt, omega arith, λ m d l. absurd (omega arith)))
      (λ t g l o. tt) i.seats.settled (λ j t ne w. refl)
  edit_keeps g at lt = i

  pub write_keeps : (n : ℕ) (c : Card) (g : Stage) → (seat s k).stage ≡ g → k < SEATS → Keeps h s (call.Write k n c) (answering done (write_at k n c s g))
  write_keeps n c (stage.Edit t) at lt =
      if_passed h s i (call.Write k n c) done why.Entry _ (nat_lt n (size s)) (λ e. if_passed h s i (call.Write k n c) done why.Misfit _ (fits s n c) (λ fit. drafted e (is_some (draft_of (seat s k).drafts n) || nat_lt (length (seat s k).drafts) MOST_DRAFTS)))
    where
      drafted : nat_lt n (size s) ≡ true → (b : Bool) →
          Keeps h s (call.Write k n c) (answering done (at_seat s k (if b then Ok (record (seat s k) { drafts = with_draft (seat s k).drafts n c }) else Err why.List) tt))
      drafted e true =
          let o = at_stage i k (stage.Edit t) at in
          reseat i k lt (record (seat s k) { drafts = with_draft (seat s k).drafts n c }) s.rows (account h).settled _ (saw h) (rw at tt) (calm_at i k (stage.Edit t) at tt) (rows_same k s.rows)
          (λ j ne. rw (ne_eqb j k ne) (refl, refl))
          (λ r l. rw at (
            (λ m. if m == n then Some c else o.0 m),
            rw (eq-eqb k k refl, o.1),
            (λ m. draft_of_with (seat s k).drafts n c m ∙ ap (λ (d : Option Card). if m == n then Some c else d) (o.2 m)),
            once_with (size s) (seat s k).drafts n c (ltb-true n (size s) e) o.3,
            o.4,
            o.5,
          ))
          (λ u g l o. rw at tt) i.seats.settled (λ j t ne w. refl)
      drafted e false = i
  write_keeps n c g at lt = i

  pub lock_keeps : (g : Stage) → (seat s k).stage ≡ g → k < SEATS → Keeps h s (call.Lock k) (answering answer.Number (lock_at k s g))
  lock_keeps (stage.Edit t) at lt =
      let o = at_stage i k (stage.Edit t) at in
      if_failed h s i (call.Lock k) answer.Number why.Held _ (any_locked_by_other s.rows k (map entry_of (seat s k).drafts)) (λ e.
      reseat i k lt (go_on (stage.Locked t) (seat s k)) (take_locks s.rows k (seat s k).drafts) (account h).settled (account h).desk (saw h) tt (calm_at i k (stage.Edit t) at tt)
      (rows_taken k s.rows (seat s k).drafts e) (λ j ne. (refl, refl)) (λ r l. (o, taken_mine s.rows k (seat s k).drafts (rw i.shape.rowed o.3))) (λ u g l o. tt) i.seats.settled (λ j t ne w. refl))
  lock_keeps g at lt = i

  -- what settles is on no other seat
  pub settle_keeps : (g : Stage) → (seat s k).stage ≡ g → k < SEATS → Keeps h s (call.Settle k) (answering answer.Number (settle_at k s g))
  settle_keeps (stage.Stamped t p) at lt =
      if_failed h s i (call.Settle k) answer.Number why.Unput _ (nat_lt p (length (seat s k).drafts)) (λ e. if_failed h s i (call.Settle k) answer.Number why.Waiting _ (nat_lt (ready s) t) (λ f.
      rw (at_stage i k (stage.Stamped t p) at).0
      (reseat i k lt idle s.rows (λ u. if u == t then true else (account h).settled u) _ (saw h) tt (λ n u w. none e n u (rw at at w)) (rows_same k s.rows) (λ j ne. rw (ne_eqb j k ne) (refl, refl))
      (λ r l. rw (eq-eqb k k refl)) (λ u g l o. tt) (λ u w. let l = i.seats.settled u in let m = ltb-false (ready s) t f in grind arith)
      (λ j u ne w. rw (ne_eqb u t (λ q. ne (i.seats.apart j k u w (rw at (sym q)))))))))
    where
      none : nat_lt p (length (seat s k).drafts) ≡ false → (n u : ℕ) → WaitsAt n u (seat s k).drafts (stage.Stamped t p) → ⊥
      none e n u w = let z = drop_all p (seat s k).drafts (ltb-false p (length (seat s k).drafts) e) in grind arith
  settle_keeps g at lt = i

  drop_granted : k < SEATS → (g : Stage) → (seat s k).stage ≡ g → Plain g → Keeps h s (call.Drop k) (answering done (dropped k s))
  drop_granted lt g at was =
      reseat i k lt idle (release_locks s.rows k (seat s k).drafts) (account h).settled _ (saw h) tt (calm_at i k g at was) (rows_released k s.rows (seat s k).drafts)
      (λ j ne. rw (ne_eqb j k ne) (refl, refl)) (λ r l. rw (eq-eqb k k refl)) (λ t g l o. tt) i.seats.settled (λ j t ne w. refl)

  pub drop_keeps : (g : Stage) → (seat s k).stage ≡ g → k < SEATS → Keeps h s (call.Drop k) (answering done (drop_at k s g))
  drop_keeps (stage.Edit t) at lt = drop_granted lt (stage.Edit t) at tt
  drop_keeps (stage.Locked t) at lt = drop_granted lt (stage.Locked t) at tt
  drop_keeps g at lt = i

  pub end_keeps : (g : Stage) → (seat s k).stage ≡ g → k < SEATS → Keeps h s (call.End k) (answering done (end_at k s g))
  end_keeps (stage.Proof u) at lt =
      reseat i k lt idle s.rows (account h).settled _ (saw h) tt (calm_at i k (stage.Proof u) at tt) (rows_same k s.rows) (λ j ne. rw (ne_eqb j k ne) (refl, refl))
      (λ r l. rw (eq-eqb k k refl)) (λ t g l o. tt) i.seats.settled (λ j t ne w. refl)
  end_keeps g at lt = i

-- ---- read

module _ (h : List Event) (s : State) (i : Inv h s) (k n : ℕ) where
  -- the newest card is the card after the start, where the row is not held and not stale
  pub read_card : (t : ℕ) → (seat s k).stage ≡ stage.Edit t → locked_by_other (row s n).lock k ≡ false → nat_lt t (row s n).time ≡ false → newest s n ≡ card_after (account h).wrote t n
  read_card t at free fresh = newest_card i n t (unlocked_put i n k own (calm_at i k (stage.Edit t) at tt n)) (ltb-false t (row s n).time fresh)
    where
      own : (j : ℕ) → (row s n).lock ≡ Some j → j ≡ k
      own j e = grind arith

  -- a seat's reading list grows by what it has read
  noted : (t : ℕ) → k < SEATS → (seat s k).stage ≡ stage.Edit t → draft_of (seat s k).drafts n ≡ None → newest s n ≡ card_after (account h).wrote t n →
      (rs : List ℕ) → ((m : ℕ) → has_read (seat s k).reads m ≡ true → has_read rs m ≡ true) → has_read rs n ≡ true →
      Keeps h s (call.Read k n) (answering answer.Card (at_seat s k (Ok (record (seat s k) { reads = rs })) (newest s n)))
  noted t lt at undrafted right rs more new =
      let o = at_stage i k (stage.Edit t) at in
      let seen : saw_desk n (newest s n) (saw h k) ((account h).desk k) ≡ record { entry = n; card = newest s n } ∷ saw h k =
      rw o.1 (ap (saw_undrafted n (newest s n) (saw h k)) (sym (o.2 n) ∙ undrafted)) in
      reseat i k lt (record (seat s k) { reads = rs }) s.rows (account h).settled (account h).desk _ (rw at tt) (calm_at i k (stage.Edit t) at tt) (rows_same k s.rows)
      (λ j ne. (refl, rw (ne_eqb j k ne)))
      (λ r l. rw at (
        o.0,
        o.1,
        o.2,
        o.3,
        o.4,
        rw (eq-eqb k k refl, seen) (All-cons (Seen (account h).wrote t rs) _ _ (new, sym right) (λ m d l. let q = o.5 m d l in (more _ q.0, q.1))),
      ))
      (λ u g l o. rw at tt) i.seats.settled (λ j t ne w. refl)

  -- without a draft: it is noted once
  undrafted_kept : (t : ℕ) → k < SEATS → (seat s k).stage ≡ stage.Edit t → draft_of (seat s k).drafts n ≡ None → newest s n ≡ card_after (account h).wrote t n →
      (b : Bool) → has_read (seat s k).reads n ≡ b → (w : Bool) → Keeps h s (call.Read k n)
      (answering answer.Card (at_seat s k (if b then Ok (seat s k) else if w then Ok (record (seat s k) { reads = (seat s k).reads ++ n ∷ [] }) else Err why.List) (newest s n)))
  undrafted_kept t lt at un right true e w = noted t lt at un right (seat s k).reads (λ m q. q) e
  undrafted_kept t lt at un right false e true = noted t lt at un right ((seat s k).reads ++ n ∷ []) (has_more (seat s k).reads n) (has_new (seat s k).reads n)
  undrafted_kept t lt at un right false e false = i

  -- what was read is the same where no undrafted entry is
  saw_kept : (c : Card) → saw_desk n c (saw h k) ((account h).desk k) ≡ saw h k → Keeps h s (call.Read k n) (Ok (s, answer.Card c))
  saw_kept c e = subst (λ (f : ℕ → List Draft). Clauses (account h) f s) (sym (fun_ext same)) i
    where
      same : (j : ℕ) → (if j == k then saw_desk n c (saw h j) ((account h).desk j) else saw h j) ≡ saw h j
      same j = grind arith

  editing : (t : ℕ) → k < SEATS → (seat s k).stage ≡ stage.Edit t → (d : Option Card) → draft_of (seat s k).drafts n ≡ d → Keeps h s (call.Read k n) (answering answer.Card (read_edit k n t s d))
  editing t lt at None e =
      if_failed h s i (call.Read k n) answer.Card why.Held _ (locked_by_other (row s n).lock k) (λ a. if_failed h s i (call.Read k n) answer.Card why.Stale _ (nat_lt t (row s n).time) (λ b.
      undrafted_kept t lt at e (read_card t at a b) (has_read (seat s k).reads n) refl (nat_lt (length (seat s k).reads) MOST_READS)))
  editing t lt at (Some c) e = let o = at_stage i k (stage.Edit t) at in saw_kept c (rw o.1 (ap (saw_undrafted n c (saw h k)) (sym (o.2 n) ∙ e)))

  pub read_keeps : (g : Stage) → (seat s k).stage ≡ g → k < SEATS → Keeps h s (call.Read k n) (answering answer.Card (read_at k n s g))
  read_keeps (stage.Proof t) at lt = if_passed h s i (call.Read k n) answer.Card why.Entry _ (nat_lt n (size s)) (λ b. saw_kept _ (rw (at_stage i k (stage.Proof t) at).0))
  read_keeps (stage.Edit t) at lt = if_passed h s i (call.Read k n) answer.Card why.Entry _ (nat_lt n (size s)) (λ b. editing t lt at (draft_of (seat s k).drafts n) refl)
  read_keeps g at lt = i
