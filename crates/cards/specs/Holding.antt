-- What a keeper means to what stands above it: the versions that it holds, how many more have a place, and why one more is declined.
use Rattle.std.specs.Prelude.{◌≡◌, ℕ, ◌+◌, ◌-◌, ◌<◌, ◌≤◌, Some, None, Option, ◌==◌, nat_le, if◌then◌else◌}
use Rattle.cards.specs.Versions.{Kept, with_card, without, held_in, newest_time}
use Rattle.cards.specs.declared.card.Card.{Card}
use Rattle.cards.specs.declared.entry.TheConstants.{ENTRIES}
use Rattle.cards.specs.declared.refusal.Refusal.{Refusal}
use Rattle.cards.specs.declared.refusal.Refusal.TheVariants as why

pub record Holding : Type 0 where
  -- the versions that are held
  pub kept : Kept
  -- how many more have a place where a set of versions is held
  pub spare : Kept → ℕ
  -- why a version of an entry at a time is not taken into a set, if it is not
  pub refuses : Kept → ℕ → ℕ → Option Refusal

-- the same memory with these versions
abbrev pub with_kept : Holding → Kept → Holding
with_kept h m = record h { kept = m }

-- how many more have a place as it is
abbrev pub spare_now : Holding → ℕ
spare_now h = h.spare h.kept

-- why it takes no version of the entry e at the time t, if it does not
abbrev pub refusal_of : Holding → ℕ → ℕ → Option Refusal
refusal_of h e t = h.refuses h.kept e t

-- what every keeper's memory owes: one add takes one spare place or none, a remove takes none, and where a place is spare, a version is
-- taken that is later than every one of its entry
pub record Lawful (h : Holding) : Type 0 where
  pub adds : (m : Kept) (e t : ℕ) (c : Card) → h.spare m ≤ h.spare (with_card m e t c) + 1
  pub removes : (m : Kept) (e t : ℕ) → h.spare m ≤ h.spare (without m e t)
  pub takes : (m : Kept) (e t : ℕ) → e < ENTRIES → 0 < h.spare m → 0 < t → ((u : ℕ) (c : Card) → m e u ≡ Some c → u < t) → h.refuses m e t ≡ None

-- why no version of the entry e at the time t goes into the set m, by the places that are spare: it is no entry, no place is spare, or the
-- time is not later than the newest of the entry (which is 0 where it has none)
abbrev pub verdict : (Kept → ℕ) → Kept → ℕ → ℕ → Option Refusal
verdict spare m e t =
    if nat_le ENTRIES e then Some why.Entry
    else if spare m == 0 then Some why.Full
    else if nat_le t (newest_time m e) then Some why.Order
    else None

-- so many places, less those that hold a version
abbrev pub places_less_held : ℕ → Kept → ℕ
places_less_held places m = places - held_in m

-- what a keeper means that holds one version a place
abbrev pub holding : ℕ → Kept → Holding
holding places m = record { kept = m; spare = places_less_held places; refuses = verdict (places_less_held places) }
