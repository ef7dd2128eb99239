-- A new store, by the sizes asked for and what its keeper means.
use Rattle.std.specs.Prelude.{◌≡◌, ℕ, ◌≤◌, None, Bool, ◌&&◌, replicate, ◌==◌, nat_lt, nat_le, if◌then◌else◌}
use Rattle.cards.specs.Holding.{Holding, Lawful, holding}
use Rattle.cards.specs.Versions.{Empty, held_in}
use Rattle.cards.specs.declared.entry.TheConstants.{ENTRIES}
use Rattle.rules.specs.Rows.{free_row}
use Rattle.rules.specs.Seat.{idle}
use Rattle.rules.specs.State.{State, entries, size}
use Rattle.rules.specs.declared.limits.TheConstants.{SEATS}
use Rattle.rules.specs.declared.sizes.Sizes.{Sizes}

-- a store may have these sizes: one entry at least, and 1,024 at most
abbrev pub suits : Sizes → Bool
suits z = nat_lt 0 (entries z) && nat_le (entries z) ENTRIES

-- no entries
abbrev pub no_sizes : Sizes
no_sizes = record { letters = 0; marks = 0; pairs = 0 }

-- the sizes asked for, if a store may have them; else none
abbrev pub suited : Sizes → Sizes
suited z = if suits z then z else no_sizes

-- a store with these sizes on which no call was made
abbrev pub unused : Sizes → Holding → State
unused z h = record { sizes = z; seats = replicate SEATS idle; rows = replicate (entries z) free_row; clock = 0; holding = h }

-- a new store over a keeper
abbrev pub new_store : Sizes → Holding → State
new_store z h = unused (suited (if held_in h.kept == 0 then z else no_sizes)) h

-- how a store stands when it is new, over an empty keeper
pub record Fresh (s : State) : Type 0 where
  pub small : size s ≤ ENTRIES
  pub seats : s.seats ≡ replicate SEATS idle
  pub rows : s.rows ≡ replicate (size s) free_row
  pub clock : s.clock ≡ 0
  pub empty : Empty s.holding.kept
  pub lawful : Lawful s.holding

-- a new store over an empty keeper stands so, whatever sizes are asked for
abbrev pub NewStoresStand : Type 0
NewStoresStand = (z : Sizes) (h : Holding) → Empty h.kept → Lawful h → Fresh (new_store z h)

-- a new store over a keeper of so many places, one version a place, that holds none
abbrev pub opened : Sizes → ℕ → State
opened z places = unused z (holding places (λ n t. None))

-- and such stores there are: it stands so, whatever its sizes up to 1,024 entries and its places
abbrev pub OpenedStoresStand : Type 0
OpenedStoresStand = (z : Sizes) (places : ℕ) → entries z ≤ ENTRIES → Fresh (opened z places)
