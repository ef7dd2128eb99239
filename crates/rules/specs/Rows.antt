-- The rows of a store, one for each entry: the time of its newest version, and the seat that has it locked.
use Rattle.std.specs.Prelude.{ℕ, Bool, false, not, List, Some, None, Option, ◌==◌, nat_lt, if◌then◌else◌, fold, slice_index_or, slice_set}
use Rattle.std.specs.List.{list_any}
use Rattle.cards.specs.declared.draft.Draft.{Draft}
use Rattle.rules.specs.declared.row.Row.{Row}

-- the row of an entry at first: none was put and none has it locked
abbrev pub free_row : Row
free_row = record { time = 0; lock = None }

-- the row of an entry, a free one past the last
abbrev pub row_at : List Row → ℕ → Row
row_at rows n = slice_index_or rows n free_row

-- ---- asking

-- another seat than k has the lock
abbrev pub locked_by_other : Option ℕ → ℕ → Bool
locked_by_other None k = false
locked_by_other (Some j) k = not (j == k)

-- another seat than k has one of these entries locked
abbrev pub any_locked_by_other : List Row → ℕ → List ℕ → Bool
any_locked_by_other rows k ns = list_any (λ n. locked_by_other (row_at rows n).lock k) ns

-- one of these entries has a row time above the start
abbrev pub any_stale : List Row → ℕ → List ℕ → Bool
any_stale rows start ns = list_any (λ n. nat_lt start (row_at rows n).time) ns

-- ---- changing

-- the rows of the drafted entries, each changed by f
abbrev pub each : (Row → Row) → List Row → List Draft → List Row
each f rows ds = fold (λ rs d. slice_set rs d.entry (f (row_at rs d.entry))) rows ds

-- a row that the seat k has locked
abbrev pub locked : ℕ → Row → Row
locked k r = record r { lock = Some k }

-- a lock, unless the seat k has it
abbrev pub unless : ℕ → Option ℕ → Option ℕ
unless k None = None
unless k (Some j) = if j == k then None else Some j

-- a row that the seat k has not locked any more
abbrev pub freed : ℕ → Row → Row
freed k r = record r { lock = unless k r.lock }

-- the rows after the seat k has locked its drafted entries, and after it has released those that it had locked
abbrev pub take_locks : List Row → ℕ → List Draft → List Row
take_locks rows k ds = each (locked k) rows ds

abbrev pub release_locks : List Row → ℕ → List Draft → List Row
release_locks rows k ds = each (freed k) rows ds
