-- Versions in their order of arrival, in the front of a list of places.
use Rattle.std.specs.Prelude.{◌≡◌, ℕ, ◌^◌, ◌<◌, ◌≤◌, List, length, take}
use Rattle.std.specs.List.{All, AllPairs}
use Rattle.cards.specs.Versions.{Kept, held_in}
use Rattle.cards.specs.declared.entry.TheConstants.{ENTRIES}
use Rattle.keepers.specs.declared.memory.TheConstants.{MOST_PLACES}
use Rattle.keepers.specs.SetOf.{set_of}
use Rattle.keepers.specs.declared.version.Version.{Version}

-- a version that a keeper may hold: its entry is below 1,024, and its time has 32 bits and is not 0
abbrev pub Proper : Version → Type 0
Proper v = (v.entry < ENTRIES) × (0 < v.time) × (v.time < 2 ^ 32)

-- w is later than v, if they are of one entry
abbrev pub Rising : Version → Version → Type 0
Rising v w = v.entry ≡ w.entry → v.time < w.time

-- what the versions in a list mean together
abbrev pub kept_in : List Version → Kept
kept_in vs = set_of (λ v. v) vs

-- every version is proper, and of two of one entry the one that arrived first has the earlier time
pub record Arrived (vs : List Version) : Type 0 where
  pub each : All Proper vs
  pub rising : AllPairs Rising vs

-- the first places of xs, `held` of them, hold a version each; they are 65,536 at most
pub record Rolled (xs : List Version) (held : ℕ) : Type 0 where
  pub within : held ≤ length xs
  pub few : held ≤ MOST_PLACES
  pub arrived : Arrived (take held xs)
  pub counted : held ≡ held_in (kept_in (take held xs))
