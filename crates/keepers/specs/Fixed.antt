-- That the contracts of find and after leave no choice, and what add's order test says in words.
use Rattle.std.specs.Prelude.{◌≡◌, ℕ, ◌^◌, ◌<◌, ◌≤◌, ◌↔◌, IsTrue, is_some, None, Option}
use Rattle.cards.specs.Versions.{Kept, newest_time}
use Rattle.keepers.specs.Kept.{Newest, Follows}
use Rattle.keepers.specs.declared.version.Version.{Version}

-- of one set, entry and time there is one newest version
abbrev pub FindFixed : Type 0
FindFixed = (m : Kept) (e u : ℕ) (r s : Option Version) → Newest m e u r → Newest m e u s → r ≡ s

-- and one next time
abbrev pub AfterFixed : Type 0
AfterFixed = (m : Kept) (e u : ℕ) (r s : Option ℕ) → Follows m e u r → Follows m e u s → r ≡ s

-- a time that is not 0, and above every time held for the entry
abbrev pub AboveAll : Kept → ℕ → ℕ → Type 0
AboveAll m e t = (0 < t) × ((u : ℕ) → IsTrue (is_some (m e u)) → u < t)

-- a time is above the entry's newest time exactly if it is such a time
abbrev pub OrderWords : Type 0
OrderWords = (m : Kept) (e t : ℕ) → ((u : ℕ) → 2 ^ 32 ≤ u → m e u ≡ None) → (newest_time m e < t) ↔ AboveAll m e t
