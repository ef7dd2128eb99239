-- Lists of drafts, and a list of seats with one changed.
use Rattle.std.proofs.Common.{◌≡◌, ℕ, zero, suc, ◌<◌, false, if◌then◌else◌, ◌==◌, ◌⊎◌, List, [], ◌∷◌, length, get_or, drop, set, Some, None, refl, inl, inr, arith}
use Rattle.std.proofs.lemmas.Bool.{cases_eq}
use Rattle.std.proofs.lemmas.List.{get_or-set_same, get_or-set_other}
use Rattle.std.proofs.lemmas.Option.{none-some}
use Rattle.cards.specs.declared.card.Card.{Card}
use Rattle.cards.specs.declared.draft.Draft.{Draft}
use Rattle.rules.specs.Seat.{Seat, idle, draft_of, with_draft, unput_of}

pub draft_of_with : (ds : List Draft) (n : ℕ) (c : Card) (m : ℕ) → draft_of (with_draft ds n c) m ≡ (if m == n then Some c else draft_of ds m)
draft_of_with [] n c m = refl
draft_of_with (d ∷ ds) n c m = let h = draft_of_with ds n c m in grind arith

-- no entry twice, and each below N
abbrev pub Once : ℕ → List Draft → Type 0
Once N [] = Unit {0}
Once N (d ∷ ds) = (d.entry < N) × (draft_of ds d.entry ≡ None) × Once N ds

pub once_with : (N : ℕ) (ds : List Draft) (n : ℕ) (c : Card) → n < N → Once N ds → Once N (with_draft ds n c)
once_with N [] n c l o = (l, refl, tt)
once_with N (d ∷ ds) n c l o = let r = once_with N ds n c l o.2 in grind (arith, draft_of_with)

pub once_drop : (N p : ℕ) (ds : List Draft) → Once N ds → Once N (drop p ds)
once_drop N zero ds o = o
once_drop N (suc p) [] o = tt
once_drop N (suc p) (d ∷ ds) o = once_drop N p ds o.2

-- an entry that is drafted is not the first of the list, where that one stands once
pub draft_of_tail : (d : Draft) (ds : List Draft) (n : ℕ) (c : Card) → draft_of ds d.entry ≡ None → draft_of ds n ≡ Some c → ((n == d.entry) ≡ false) × (draft_of (d ∷ ds) n ≡ Some c)
draft_of_tail d ds n c free h = grind arith

pub draft_of_drop : (N p : ℕ) (ds : List Draft) → Once N ds → (n : ℕ) (c : Card) → draft_of (drop p ds) n ≡ Some c → draft_of ds n ≡ Some c
draft_of_drop N zero ds o n c h = h
draft_of_drop N (suc p) [] o n c h = h
draft_of_drop N (suc p) (d ∷ ds) o n c h = (draft_of_tail d ds n c o.1 (draft_of_drop N p ds o.2 n c h)).1

pub drafts_some : (ds : List Draft) (n : ℕ) (c : Card) → draft_of ds n ≡ Some c → 0 < length ds
drafts_some [] n c h = absurd (none-some c h)
drafts_some (d ∷ ds) n c h = omega arith

pub drafts_below : (N : ℕ) (ds : List Draft) → Once N ds → (n : ℕ) (c : Card) → draft_of ds n ≡ Some c → n < N
drafts_below N [] o n c h = absurd (none-some c h)
drafts_below N (d ∷ ds) o n c h = let r = drafts_below N ds o.2 n c in grind arith

-- ---- a list of seats with one changed

pub all_set : (P : ℕ → Seat → Type 0) (xs : List Seat) (k : ℕ) (y : Seat) → k < length xs → ((j : ℕ) → (j ≡ k → ⊥) → P j (get_or xs j idle)) → P k y →
    (j : ℕ) → P j (get_or (set xs k y) j idle)
all_set P xs k y l others here j = go (cases_eq j k)
  where
    go : (j ≡ k) ⊎ (j ≡ k → ⊥) → P j (get_or (set xs k y) j idle)
    go (inl e) = rw (e, get_or-set_same xs k y idle l) here
    go (inr e) = rw (get_or-set_other xs k j y idle e) (others j e)

-- how many drafts a seat has not put yet
abbrev pub count : Seat → ℕ
count x = length (unput_of x.drafts x.stage)
