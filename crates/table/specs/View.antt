-- The state that a table and what its keeper means stand for.
use Rattle.std.specs.Prelude.{ℕ, ◌+◌, length, None}
use Rattle.cards.specs.Holding.{Holding, holding}
use Rattle.rules.specs.State.{State, seat, unput_all}
use Rattle.table.specs.declared.table.Table.{Table}

-- its sizes, its seats, its rows and its clock
abbrev pub view_table : Table → Holding → State
view_table t h = record {
  sizes = t.counts.sizes;
  seats = t.seats;
  rows = t.rows;
  clock = t.clock;
  holding = h;
}

-- the state of a table by itself, over a keeper that has no place
abbrev pub alone : Table → State
alone t = view_table t (holding 0 (λ e u. None))

-- how many places want the drafts that are not put yet, and those of the seat k
abbrev pub places_wanted : Table → ℕ → ℕ
places_wanted t k = unput_all t.seats + length (seat (alone t) k).drafts
