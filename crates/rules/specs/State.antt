-- What a store is, and what its rules ask of it.
use Rattle.std.specs.Prelude.{ℕ, zero, suc, ◌+◌, ◌-◌, min, ◌&&◌, List, length, is_some, Some, None, Option, nat_lt, if◌then◌else◌, fold, sum_by, slice_index_or, slice_set}
use Rattle.std.specs.Option.{option_or}
use Rattle.cards.specs.Holding.{Holding, with_kept}
use Rattle.cards.specs.Versions.{Kept}
use Rattle.cards.specs.declared.card.Card.{Card}
use Rattle.cards.specs.declared.draft.Draft.{Draft}
use Rattle.rules.specs.Rows.{row_at}
use Rattle.rules.specs.Seat.{Seat, idle, unput_of}
use Rattle.rules.specs.declared.row.Row.{Row}
use Rattle.rules.specs.declared.sizes.Sizes.{Sizes}
use Rattle.rules.specs.declared.stage.Stage.{Stage}
use Rattle.rules.specs.declared.stage.Stage.TheVariants as stage

-- a store: its sizes, sixteen seats, a row for each entry, the clock, which is the last time given, and what its keeper means
pub record State : Type 0 where
  pub sizes : Sizes
  pub seats : List Seat
  pub rows : List Row
  pub clock : ℕ
  pub holding : Holding

-- how many entries there are, N
abbrev pub entries : Sizes → ℕ
entries z = z.letters + z.marks + z.pairs

abbrev pub size : State → ℕ
size s = entries s.sizes

-- the seat k, and the row of the entry n
abbrev pub seat : State → ℕ → Seat
seat s k = slice_index_or s.seats k idle

abbrev pub row : State → ℕ → Row
row s n = row_at s.rows n

-- the versions of the entry n that the keeper holds
abbrev pub versions : State → ℕ → ℕ → Option Card
versions s n = s.holding.kept n

-- ---- what a keeper is asked, of the versions m of one entry

-- the card of the newest version up to a time
abbrev pub latest : (ℕ → Option Card) → ℕ → Option Card
latest m zero = m zero
latest m (suc t) = if is_some (m (suc t)) then m (suc t) else latest m t

-- the least time above t and up to u that has a version: after the time of a version, its follower
abbrev pub next_time : (ℕ → Option Card) → ℕ → ℕ → Option ℕ
next_time m t zero = None
next_time m t (suc u) = option_or (next_time m t u) (if nat_lt t (suc u) && is_some (m (suc u)) then Some (suc u) else None)

-- ---- the ready point and the floor

-- while a stamped edit has drafts left to put, the ready point stays below its time
abbrev pub lower_ready : ℕ → List Draft → Stage → ℕ
lower_ready r ds (stage.Stamped t p) = if nat_lt p (length ds) then min r (t - 1) else r
lower_ready r ds g = r

-- the clock, lowered by each seat
abbrev pub ready_of : ℕ → List Seat → ℕ
ready_of clock xs = fold (λ r x. lower_ready r x.drafts x.stage) clock xs

-- the ready point: up to it everything that was stamped is put
abbrev pub ready : State → ℕ
ready s = ready_of s.clock s.seats

-- an open proof keeps the floor at its start or below
abbrev pub lower_floor : ℕ → Stage → ℕ
lower_floor f (stage.Proof t) = min f t
lower_floor f g = f

-- r, lowered to the start of each proof that is open
abbrev pub floor_of : ℕ → List Seat → ℕ
floor_of r xs = fold (λ f x. lower_floor f x.stage) r xs

-- the floor: nothing reads below it
abbrev pub floor : State → ℕ
floor s = floor_of (ready s) s.seats

-- how many drafts all seats have not yet put
abbrev pub unput_all : List Seat → ℕ
unput_all xs = sum_by (λ x. length (unput_of x.drafts x.stage)) xs

-- ---- a state with a part changed

abbrev pub with_seat : State → ℕ → Seat → State
with_seat s k x = record s { seats = slice_set s.seats k x }

abbrev pub with_rows : State → List Row → State
with_rows s rs = record s { rows = rs }

abbrev pub with_clock : State → ℕ → State
with_clock s t = record s { clock = t }

abbrev pub with_versions : State → Kept → State
with_versions s m = record s { holding = with_kept s.holding m }
