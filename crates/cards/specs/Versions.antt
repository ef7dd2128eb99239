-- A set of versions: what is in it, how many, and its newest.
use Rattle.std.specs.Prelude.{◌≡◌, ℕ, zero, suc, ◌+◌, ◌^◌, is_some, Some, None, Option, ◌==◌, if◌then◌else◌}
use Rattle.cards.specs.declared.card.Card.{Card}
use Rattle.cards.specs.declared.entry.TheConstants.{ENTRIES}

-- the card of an entry at a time, where there is one. So one entry has one version of a time at most
abbrev pub Kept : Type 0
Kept = ℕ → ℕ → Option Card

-- no version at all
abbrev pub Empty : Kept → Type 0
Empty m = (e t : ℕ) → m e t ≡ None

-- the set m, and the card c for the entry e at the time t
abbrev pub with_card : Kept → ℕ → ℕ → Card → Kept
with_card m e t c f u = if f == e then (if u == t then Some c else m f u) else m f u

-- the set m, less the version of the entry e at the time t
abbrev pub without : Kept → ℕ → ℕ → Kept
without m e t f u = if f == e then (if u == t then None else m f u) else m f u

-- f 0 + .. + f (n - 1)
unfoldable pub sum_below : (ℕ → ℕ) → ℕ → ℕ
sum_below f zero = 0
sum_below f (suc n) = f n + sum_below f n

-- the number of versions, over every entry and every time of 32 bits
unfoldable pub held_in : Kept → ℕ
held_in m = sum_below (λ e. sum_below (λ t. if is_some (m e t) then 1 else 0) (2 ^ 32)) ENTRIES

-- the greatest time below n that is held, 0 where there is none
unfoldable pub last_below : (ℕ → Option Card) → ℕ → ℕ
last_below f zero = 0
last_below f (suc t) = if is_some (f t) then t else last_below f t

-- the time of an entry's newest version, 0 where it has none
abbrev pub newest_time : Kept → ℕ → ℕ
newest_time m e = last_below (m e) (2 ^ 32)
