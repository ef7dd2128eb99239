-- What lock, drop and the tests do to rows and reading lists.
use Rattle.std.proofs.Common.{◌≡◌, ℕ, zero, suc, ◌-◌, ◌≤◌, true, false, if◌then◌else◌, ◌==◌, ◌⊎◌, List, [], ◌∷◌, ◌++◌, map, length, set, Some, None, Option, refl, ap, ◌∙◌, inl, inr, arith}
use Rattle.std.proofs.lemmas.Bool.{cases_eq}
use Rattle.std.proofs.lemmas.List.Folds.{list_any-append}
use Rattle.std.proofs.lemmas.List.{get_or-set_same, get_or-set_other, length-set, set_past}
use Rattle.std.proofs.lemmas.Option.{none-some}
use Rattle.cards.specs.declared.card.Card.{Card}
use Rattle.cards.specs.declared.draft.Draft.{Draft}
use Rattle.rules.specs.Rows.{free_row, row_at, any_locked_by_other, any_stale, each, locked, unless, freed, take_locks, release_locks}
use Rattle.rules.specs.Rules.{entry_of}
use Rattle.rules.specs.Seat.{draft_of, has_read}
use Rattle.rules.specs.declared.row.Row.{Row}
use Rattle.rules.proofs.Drafts.{Once}

-- ---- asking

-- an entry that another seat has locked is none of these
pub not_held : (rs : List Row) (k : ℕ) (ns : List ℕ) (n j : ℕ) → any_locked_by_other rs k ns ≡ false → (j ≡ k → ⊥) → (row_at rs n).lock ≡ Some j → has_read ns n ≡ false
not_held rs k [] n j h ne e = refl
not_held rs k (m ∷ ns) n j h ne e = let r = not_held rs k ns n j in grind arith

pub not_stale : (rs : List Row) (t : ℕ) (ns : List ℕ) (n : ℕ) → any_stale rs t ns ≡ false → has_read ns n ≡ true → (row_at rs n).time ≤ t
not_stale rs t [] n h e = grind arith
not_stale rs t (m ∷ ns) n h e = let r = not_stale rs t ns n in grind arith

read_undrafted : (ds : List Draft) (n : ℕ) → has_read (map entry_of ds) n ≡ false → draft_of ds n ≡ None
read_undrafted [] n h = refl
read_undrafted (d ∷ ds) n h = let r = read_undrafted ds n in grind arith

pub has_more : (ns : List ℕ) (n m : ℕ) → has_read ns m ≡ true → has_read (ns ++ n ∷ []) m ≡ true
has_more ns n m h = rw (list_any-append (λ x. m == x) ns (n ∷ []), h)

pub has_new : (ns : List ℕ) (n : ℕ) → has_read (ns ++ n ∷ []) n ≡ true
has_new ns n = rw (list_any-append (λ x. n == x) ns (n ∷ [])) (grind arith)

-- ---- one row set

set_row : (P : Row → Type 0) (rs : List Row) (m : ℕ) (r : Row) (n : ℕ) → P (row_at rs n) → (n ≡ m → P r) → P (row_at (set rs m r) n)
set_row P rs m r n old new = go (cases_eq n m) (cases_eq (length rs - n) 0)
  where
    go : (n ≡ m) ⊎ (n ≡ m → ⊥) → (length rs - n ≡ 0) ⊎ (length rs - n ≡ 0 → ⊥) → P (row_at (set rs m r) n)
    go (inl e) (inl z) = rw (set_past rs m r (omega arith)) old
    go (inl e) (inr z) = rw (e, get_or-set_same rs m r free_row (omega arith)) (new e)
    go (inr e) z = rw (get_or-set_other rs m n r free_row e) old

-- free of all locks, and of the lock of one seat
pub set_free : (rs : List Row) (m t n : ℕ) → (row_at (set rs m (record { time = t; lock = None })) n).lock ≡ (if n == m then None else (row_at rs n).lock)
set_free [] m t n = grind arith
set_free (r ∷ rs) m t n = let h : (k : ℕ) → _ = λ k. set_free rs k t in grind arith

freed_here : (rs : List Row) (k m : ℕ) → (row_at (set rs m (freed k (row_at rs m))) m).lock ≡ Some k → ⊥
freed_here [] k m e = grind arith
freed_here (r ∷ rs) k zero e = grind arith
freed_here (r ∷ rs) k (suc m) e = freed_here rs k m e

-- ---- the rows of drafted entries, each changed by f

each_length : (f : Row → Row) (rs : List Row) (ds : List Draft) → length (each f rs ds) ≡ length rs
each_length f rs [] = refl
each_length f rs (d ∷ ds) = each_length f _ ds ∙ length-set rs d.entry _

-- what f keeps of a row stays
each_keeps : (f : Row → Row) (P : Row → Type 0) → ((r : Row) → P r → P (f r)) → (rs : List Row) (ds : List Draft) (n : ℕ) → P (row_at rs n) → P (row_at (each f rs ds) n)
each_keeps f P keep rs [] n h = h
each_keeps f P keep rs (d ∷ ds) n h = each_keeps f P keep _ ds n (set_row P rs d.entry (f (row_at rs d.entry)) n h (λ e. keep _ (rw e at h)))

each_time : (f : Row → Row) → ((r : Row) → (f r).time ≡ r.time) → (rs : List Row) (ds : List Draft) (n : ℕ) → (row_at (each f rs ds) n).time ≡ (row_at rs n).time
each_time f same rs ds n = each_keeps f (λ (r : Row). r.time ≡ (row_at rs n).time) (λ r e. same r ∙ e) rs ds n refl

-- an entry that is not drafted keeps its row
pub taken_free : (rs : List Row) (k : ℕ) (ds : List Draft) (n : ℕ) → draft_of ds n ≡ None → row_at (take_locks rs k ds) n ≡ row_at rs n
taken_free rs k [] n h = refl
taken_free rs k (d ∷ ds) n h = let r = taken_free (set rs d.entry (locked k (row_at rs d.entry))) k ds n in grind (arith, get_or-set_other)

module _ (rs : List Row) (k : ℕ) (ds : List Draft) (n : ℕ) where
  -- a lock of another seat was there before; after a release, any lock
  pub taken_before : (j : ℕ) → (j ≡ k → ⊥) → (row_at (take_locks rs k ds) n).lock ≡ Some j → (row_at rs n).lock ≡ Some j
  taken_before j ne = each_keeps (locked k) (λ (r : Row). r.lock ≡ Some j → (row_at rs n).lock ≡ Some j) (λ r l e. absurd (ne cc)) rs ds n (λ e. e)

  pub released_before : (j : ℕ) → (row_at (release_locks rs k ds) n).lock ≡ Some j → (row_at rs n).lock ≡ Some j
  released_before j = each_keeps (freed k) (λ (r : Row). r.lock ≡ Some j → (row_at rs n).lock ≡ Some j) (λ r l e. l (before r.lock e)) rs ds n (λ e. e)
    where
      before : (o : Option ℕ) → unless k o ≡ Some j → o ≡ Some j
      before o e = grind arith

-- the locks of what it drafted are a seat's after a lock, and not after a release
pub taken_mine : (rs : List Row) (k : ℕ) (ds : List Draft) → Once (length rs) ds → (n : ℕ) (c : Card) → draft_of ds n ≡ Some c → (row_at (take_locks rs k ds) n).lock ≡ Some k
taken_mine rs k [] o n c h = absurd (none-some c h)
taken_mine rs k (d ∷ ds) o n c h =
    let rs' = set rs d.entry (locked k (row_at rs d.entry)) in
    let r = taken_mine rs' k ds (rw (length-set rs d.entry (locked k (row_at rs d.entry))) o.2) n c in
    let q = each_keeps (locked k) (λ (r : Row). r.lock ≡ Some k) (λ r e. refl) rs' ds n in grind (arith, get_or-set_same)

pub released_mine : (rs : List Row) (k : ℕ) (ds : List Draft) (n : ℕ) (c : Card) → draft_of ds n ≡ Some c → (row_at (release_locks rs k ds) n).lock ≡ Some k → ⊥
released_mine rs k [] n c h e = absurd (none-some c h)
released_mine rs k (d ∷ ds) n c h e =
    let rs' = set rs d.entry (freed k (row_at rs d.entry)) in
    let r = released_mine rs' k ds n c in
    let q = released_before rs' k ds n k e in
    let z = freed_here rs k d.entry in grind arith

-- ---- what a change of rows by the seat k leaves

pub record RowsKept (k : ℕ) (rs rs' : List Row) : Type 0 where
  pub rowed : length rs' ≡ length rs
  pub times : (n : ℕ) → (row_at rs' n).time ≡ (row_at rs n).time
  pub locks : (n j : ℕ) → (j ≡ k → ⊥) → (row_at rs n).lock ≡ Some j → (row_at rs' n).lock ≡ Some j

pub rows_same : (k : ℕ) (rs : List Row) → RowsKept k rs rs
rows_same k rs = record { rowed = refl; times = λ n. refl; locks = λ n j ne l. l }

pub rows_taken : (k : ℕ) (rs : List Row) (ds : List Draft) → any_locked_by_other rs k (map entry_of ds) ≡ false → RowsKept k rs (take_locks rs k ds)
rows_taken k rs ds free = record {
  rowed = each_length (locked k) rs ds;
  times = each_time (locked k) (λ r. refl) rs ds;
  locks = λ n j ne l. ap (λ (r : Row). r.lock) (taken_free rs k ds n (read_undrafted ds n (not_held rs k (map entry_of ds) n j free ne l))) ∙ l;
}

pub rows_released : (k : ℕ) (rs : List Row) (ds : List Draft) → RowsKept k rs (release_locks rs k ds)
rows_released k rs ds = record {
  rowed = each_length (freed k) rs ds;
  times = each_time (freed k) (λ r. refl) rs ds;
  locks = λ n j ne. each_keeps (freed k) (λ (r : Row). r.lock ≡ Some j) (λ r e. stays j r.lock ne e) rs ds n;
}
  where
    stays : (j : ℕ) (o : Option ℕ) → (j ≡ k → ⊥) → o ≡ Some j → unless k o ≡ Some j
    stays j o ne e = grind arith
