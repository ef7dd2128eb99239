-- What a keeper's calls mean of what it holds.
use Rattle.std.specs.Prelude.{◌≡◌, ℕ, ◌^◌, ◌<◌, ◌≤◌, IsTrue, is_some, Some, None, Ok, Err, Option, Result}
use Rattle.cards.specs.Holding.{Holding, with_kept, refusal_of, verdict, places_less_held}
use Rattle.cards.specs.Versions.{Kept, with_card, without, held_in}
use Rattle.cards.specs.declared.entry.TheConstants.{ENTRIES}
use Rattle.cards.specs.declared.refusal.Refusal.{Refusal}
use Rattle.keepers.specs.declared.version.Version.{Version}

-- ---- find and after

-- r is the version of the entry e with the greatest time up to u; there is none where r is None
abbrev pub Newest : Kept → ℕ → ℕ → Option Version → Type 0
Newest m e u None = (t : ℕ) → t ≤ u → m e t ≡ None
Newest m e u (Some v) = (v.entry ≡ e) × (v.time ≤ u) × (m e v.time ≡ Some v.card) × ((t : ℕ) → v.time < t → t ≤ u → m e t ≡ None)

-- r is the least time above u that is held for the entry e; there is none where r is None
abbrev pub Follows : Kept → ℕ → ℕ → Option ℕ → Type 0
Follows m e u None = (t : ℕ) → u < t → m e t ≡ None
Follows m e u (Some s) = (u < s) × IsTrue (is_some (m e s)) × ((t : ℕ) → u < t → t < s → m e t ≡ None)

-- ---- add and remove

-- why a version is not added, if it is not
abbrev pub add_refusal : Holding → Version → Option Refusal
add_refusal h v = refusal_of h v.entry v.time

-- what is held after a version is handed in, by why it is refused, if it is
abbrev pub added : Option Refusal → Holding → Version → Holding
added None h v = with_kept h (with_card h.kept v.entry v.time v.card)
added (Some r) h v = h

-- what is answered then
abbrev pub add_answer : Option Refusal → Result (Unit {0}) Refusal
add_answer None = Ok tt
add_answer (Some r) = Err r

-- what is held without the version of the entry e at the time t
abbrev pub removed : Holding → ℕ → ℕ → Holding
removed h e t = with_kept h (without h.kept e t)

-- ---- what every keeper promises of what it holds

-- only entries below 1,024, no time 0, and no time of more than 32 bits
pub record Bounded (m : Kept) : Type 0 where
  pub entries : (e t : ℕ) → ENTRIES ≤ e → m e t ≡ None
  pub starts : (e : ℕ) → m e 0 ≡ None
  pub times : (e t : ℕ) → 2 ^ 32 ≤ t → m e t ≡ None

-- it has a number of places, one for each version: what is spare is that number less the versions held, which are no more
abbrev pub OnePlaceEach : Holding → Type 0
OnePlaceEach h = (places : ℕ) × (h.spare ≡ places_less_held places) × (held_in h.kept ≤ places)
