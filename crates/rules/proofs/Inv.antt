-- The invariant: state beside account, with what was ever put.
use Rattle.std.proofs.Common.{◌≡◌, ℕ, ◌<◌, ◌≤◌, Bool, true, false, ◌⊎◌, All, List, ◌∷◌, length, get_or, drop, is_some, Some, None, Option, unwrap_or, sym, ◌∙◌, arith}
use Rattle.std.proofs.lemmas.List.{length-drop}
use Rattle.cards.specs.Cards.{blank_card}
use Rattle.cards.specs.Holding.{Holding, Lawful, spare_now, with_kept}
use Rattle.cards.specs.Versions.{Kept}
use Rattle.cards.specs.declared.card.Card.{Card}
use Rattle.cards.specs.declared.draft.Draft.{Draft}
use Rattle.cards.specs.declared.entry.TheConstants.{ENTRIES}
use Rattle.rules.specs.Account.{Desk, Free, Reading, Drafting, Given, Account, account, card_after}
use Rattle.rules.specs.Rules.{Outcome}
use Rattle.rules.specs.Runs.{Event, event, stepped}
use Rattle.rules.specs.Seat.{Seat, idle, draft_of, has_read}
use Rattle.rules.specs.State.{State, entries, size, seat, row, versions, latest, ready, unput_all}
use Rattle.rules.specs.declared.answer.Answer.{Answer}
use Rattle.rules.specs.declared.call.Call.{Call}
use Rattle.rules.specs.declared.limits.TheConstants.{SEATS}
use Rattle.rules.specs.declared.row.Row.{Row}
use Rattle.rules.specs.declared.sizes.Sizes.{Sizes}
use Rattle.rules.specs.declared.stage.Stage.TheVariants as stage
use Rattle.rules.specs.declared.stage.Stage.{Stage}
use Rattle.rules.proofs.Drafts.{Once, drafts_some}
use Rattle.rules.proofs.Latest.{same_latest, latest_card, card_flat}
use Rattle.rules.proofs.Options.{nothing, same_option}
use Rattle.rules.proofs.Ready.{LateAt, Off, ready_late}
use Rattle.rules.proofs.Seen.{saw}

-- ---- one seat beside its desk

-- what the clauses of a seat look at
pub record Env : Type 0 where
  pub total : ℕ
  pub clock : ℕ
  pub ready : ℕ
  pub rows : ℕ → Row
  pub wrote : ℕ → ℕ → Option Card
  pub settled : ℕ → Bool

abbrev pub env : Account → State → Env
env a s = record { total = size s; clock = s.clock; ready = ready s; rows = row s; wrote = a.wrote; settled = a.settled }

-- the seat k has what is drafted locked; its rows are below the time t; what was read is the card after t
abbrev pub Locks : (ℕ → Row) → ℕ → List Draft → Type 0
Locks r k ds = (n : ℕ) (c : Card) → draft_of ds n ≡ Some c → (r n).lock ≡ Some k

abbrev pub Above : (ℕ → Row) → ℕ → List Draft → Type 0
Above r t ds = (n : ℕ) (c : Card) → draft_of ds n ≡ Some c → (r n).time < t

abbrev pub Seen : (ℕ → ℕ → Option Card) → ℕ → List ℕ → Draft → Type 0
Seen w t reads e = (has_read reads e.entry ≡ true) × (card_after w t e.entry ≡ e.card)

-- an edit with the start t has the desk's drafts, and what it saw is so
abbrev pub Edits : Env → List Draft → Desk → List ℕ → List Draft → ℕ → Type 0
Edits e seen d reads ds t =
    (f : ℕ → Option Card) × (d ≡ Drafting t f) × ((n : ℕ) → draft_of ds n ≡ f n) × Once e.total ds × (t ≤ e.clock) × All (Seen e.wrote t reads) seen

-- a stage has the time t
abbrev pub Stamps : ℕ → Stage → Type 0
Stamps t (stage.Stamped u p) = u ≡ t
Stamps t g = ⊥

-- a seat beside its desk, by its stage; a stamped one has what is not put yet locked, and not put later
abbrev pub SeatAt : Env → ℕ → List Draft → Desk → List ℕ → List Draft → Stage → Type 0
SeatAt e k seen d reads ds stage.Idle = d ≡ Free
SeatAt e k seen d reads ds (stage.Proof t) = (d ≡ Reading t) × (t ≤ e.ready)
SeatAt e k seen d reads ds (stage.Edit t) = Edits e seen d reads ds t
SeatAt e k seen d reads ds (stage.Locked t) = Edits e seen d reads ds t × Locks e.rows k ds
SeatAt e k seen d reads ds (stage.Stamped t p) =
    (d ≡ Given t) × (e.settled t ≡ false) × (0 < t) × (t ≤ e.clock) × ((n : ℕ) → e.wrote t n ≡ draft_of ds n) × Once e.total ds
    × Locks e.rows k (drop p ds) × Above e.rows t (drop p ds)

abbrev pub SeatOk : Env → ℕ → List Draft → Desk → Seat → Type 0
SeatOk e k seen d x = SeatAt e k seen d x.reads x.drafts x.stage

-- n waits at a seat to be put with the time t
abbrev pub WaitsAt : ℕ → ℕ → List Draft → Stage → Type 0
WaitsAt n t ds (stage.Stamped u p) = (u ≡ t) × ((c : Card) × (draft_of (drop p ds) n ≡ Some c))
WaitsAt n t ds g = ⊥

abbrev pub Waits : ℕ → ℕ → Seat → Type 0
Waits n t x = WaitsAt n t x.drafts x.stage

-- a version may go where the ready point has passed its follower and no open proof starts between them
abbrev pub Gone : (ℕ → Option Card) → ℕ → List Seat → ℕ → Type 0
Gone m r xs t = (g : ℕ) × (is_some (m g) ≡ true) × (t < g) × (g ≤ r) × ((k : ℕ) → Off t g (get_or xs k idle).stage)

-- ---- the clauses, by what they read

-- sizes and lengths, and the clock beside the last time given
pub record Shape (last : ℕ) (z : Sizes) (xs : List Seat) (rs : List Row) (now : ℕ) : Type 0 where
  pub small : entries z ≤ ENTRIES
  pub sixteen : length xs ≡ SEATS
  pub rowed : length rs ≡ entries z
  pub clock : last ≡ now

-- each seat beside its desk; no two with one time; what is settled is up to the ready point
pub record Seats (e : Env) (saw : ℕ → List Draft) (desk : ℕ → Desk) (xs : List Seat) : Type 0 where
  pub seated : (k : ℕ) → SeatOk e k (saw k) (desk k) (get_or xs k idle)
  pub apart : (j k t : ℕ) → Stamps t (get_or xs j idle).stage → Stamps t (get_or xs k idle).stage → j ≡ k
  pub settled : (t : ℕ) → e.settled t ≡ true → t ≤ e.ready

-- what was stamped is what was put and what waits; a row has the newest time that was put
pub record History (e : Env) (put : Kept) (xs : List Seat) : Type 0 where
  pub wrote_in : (t n : ℕ) (c : Card) → e.wrote t n ≡ Some c → (0 < t) × (t ≤ e.clock) × (n < e.total)
  pub put_wrote : (n t : ℕ) (c : Card) → put n t ≡ Some c → e.wrote t n ≡ Some c
  pub wrote_put : (n t : ℕ) (c : Card) → e.wrote t n ≡ Some c → put n t ≡ None → (k : ℕ) × Waits n t (get_or xs k idle)
  pub row_top : (n t : ℕ) (c : Card) → put n t ≡ Some c → t ≤ (e.rows n).time
  pub row_in : (n : ℕ) → ((e.rows n).time ≡ 0) ⊎ ((c : Card) × (put n (e.rows n).time ≡ Some c))

-- the keeper holds what was put, but for versions that may go, and has a place for each draft that waits
pub record Keeper (put : Kept) (h : Holding) (r : ℕ) (xs : List Seat) : Type 0 where
  pub lawful : Lawful h
  pub only : (n t : ℕ) (c : Card) → h.kept n t ≡ Some c → put n t ≡ Some c
  pub keeps : (n t : ℕ) (c : Card) → put n t ≡ Some c → h.kept n t ≡ None → Gone (put n) r xs t
  pub room : unput_all xs ≤ spare_now h

pub record Clauses (a : Account) (saw : ℕ → List Draft) (s : State) : Type 0 where
  -- every version that was ever put
  pub put : Kept
  pub shape : Shape a.last s.sizes s.seats s.rows s.clock
  pub seats : Seats (env a s) saw a.desk s.seats
  pub history : History (env a s) put s.seats
  pub keeper : Keeper put s.holding (ready s) s.seats

-- what a keeper owes it owes with any versions
pub lawful_with : (h : Holding) (m : Kept) → Lawful h → Lawful (with_kept h m)
lawful_with h m l = record { adds = l.adds; removes = l.removes; takes = l.takes }

-- ---- the invariant of a run, and that a call keeps it

-- of the events h, which led to the state s
abbrev pub Inv : List Event → State → Type 0
Inv h s = Clauses (account h) (saw h) s

-- of the events and the state after the call c, whose rule gives o
abbrev pub Keeps : List Event → State → Call → Outcome Answer → Type 0
Keeps h s c o = Inv (event c (stepped s o).1 ∷ h) (stepped s o).0

-- ---- what the clauses say together

-- a draft that waits is above the ready point
late_waits : (n t r : ℕ) (ds : List Draft) (g : Stage) → LateAt r ds g → WaitsAt n t ds g → 0 < t → r < t
late_waits n t r ds (stage.Stamped u p) l w z =
    let m = drafts_some (drop p ds) n w.1.0 w.1.1 in let d = length-drop p ds in let q = l (omega arith) in let e = w.0 in omega arith
late_waits n t r ds g l w z = absurd w

module _ {a : Account} {saw : ℕ → List Draft} {s : State} (i : Clauses a saw s) where
  -- all drafts up to the ready point are put
  pub all_put : (n t : ℕ) → t ≤ ready s → i.put n t ≡ a.wrote t n
  all_put n t l = same_option (i.put n t) (a.wrote t n) (i.history.put_wrote n t) (λ c q p.
      let w = i.history.wrote_put n t c q p in
      let z = late_waits n t (ready s) (seat s w.0).drafts (seat s w.0).stage (ready_late s.clock s.seats w.0) w.1 (i.history.wrote_in t n c q).0 in
      omega arith)

  pub put_zero : (n : ℕ) → i.put n 0 ≡ None
  put_zero n = nothing (i.put n 0) (λ c p. let z = (i.history.wrote_in 0 n c (i.history.put_wrote n 0 c p)).0 in omega arith)

  -- what was put and may not go is kept
  stays : (n t : ℕ) (c : Card) → i.put n t ≡ Some c → (Gone (i.put n) (ready s) s.seats t → ⊥) → versions s n t ≡ Some c
  stays n t c p may_not = same_option (versions s n t) (i.put n t) (i.keeper.only n t) (λ d r q. may_not (i.keeper.keeps n t d r q)) ∙ p

  -- a proof's find gives the card after its start
  pub proof_card : (n k T : ℕ) → (seat s k).stage ≡ stage.Proof T → T ≤ ready s → unwrap_or (latest (versions s n) T) blank_card ≡ card_after a.wrote T n
  proof_card n k T at l =
      rw (same_latest (versions s n) (i.put n) T (i.keeper.only n) top) (latest_card a.wrote n (i.put n) T (put_zero n) (λ t u. all_put n t (omega arith)))
    where
      top : (t : ℕ) (c : Card) → t ≤ T → i.put n t ≡ Some c → ((u : ℕ) → t < u → u ≤ T → i.put n u ≡ None) → versions s n t ≡ Some c
      top t c l p none = stays n t c p (λ g. let o = none g.0 g.2 ((rw at at (g.4 k)) l) in grind arith)

  -- the newest of a row is kept
  pub newest_kept : (n : ℕ) (c : Card) → i.put n (row s n).time ≡ Some c → versions s n (row s n).time ≡ Some c
  newest_kept n c p = stays n (row s n).time c p (λ g. let b = i.history.row_top n g.0 in grind arith)

  -- no draft of n waits where its row is not locked by a stamped seat
  pub unlocked_put : (n k : ℕ) → ((j : ℕ) → (row s n).lock ≡ Some j → j ≡ k) → ((t : ℕ) → Waits n t (seat s k) → ⊥) → (t : ℕ) → i.put n t ≡ a.wrote t n
  unlocked_put n k own calm t = same_option (i.put n t) (a.wrote t n) (i.history.put_wrote n t) (λ c q p.
      let w = i.history.wrote_put n t c q p in
      let e : w.0 ≡ k = own w.0 (here w.0 w.1) in
      calm t (rw e at w.1))
    where
      here : (j : ℕ) → Waits n t (seat s j) → (row s n).lock ≡ Some j
      here j w = let o = i.seats.seated j in grind arith

  -- and then no draft has a time above the row's
  pub flat : (n : ℕ) → ((t : ℕ) → i.put n t ≡ a.wrote t n) → (t : ℕ) → (row s n).time < t → a.wrote t n ≡ None
  flat n same t l = nothing (a.wrote t n) (λ c p. let b = i.history.row_top n t c (same t ∙ p) in omega arith)

  -- the newest card is the card after any time from the row's on
  pub newest_card : (n T : ℕ) → ((t : ℕ) → i.put n t ≡ a.wrote t n) → (row s n).time ≤ T → unwrap_or (latest (versions s n) (row s n).time) blank_card ≡ card_after a.wrote T n
  newest_card n T same l =
      rw (same_latest (versions s n) (i.put n) (row s n).time (i.keeper.only n) top)
      (latest_card a.wrote n (i.put n) (row s n).time (put_zero n) (λ t u. same t) ∙ sym (card_flat a.wrote (row s n).time T n l (λ t u v. flat n same t u)))
    where
      top : (t : ℕ) (c : Card) → t ≤ (row s n).time → i.put n t ≡ Some c → ((u : ℕ) → t < u → u ≤ (row s n).time → i.put n u ≡ None) → versions s n t ≡ Some c
      top t c u p none = let r = i.history.row_in n in let e = put_zero n in let k = newest_kept n in let m = none (row s n).time in grind arith

  -- ---- at a seat, by its stage

  pub at_stage : (k : ℕ) (g : Stage) → (seat s k).stage ≡ g → SeatAt (env a s) k (saw k) (a.desk k) (seat s k).reads (seat s k).drafts g
  at_stage k g e = rw e at (i.seats.seated k)
