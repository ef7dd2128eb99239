-- Places that are chained: the versions of each entry newest first, and the free places in a chain of their own.
use Rattle.std.specs.Prelude.{◌≡◌, ℕ, zero, suc, ◌+◌, ◌-◌, ◌^◌, ◌<◌, ◌≤◌, List, length, take, Some, None, Option, slice_index_or, slice_set}
use Rattle.cards.specs.Versions.{Kept, held_in}
use Rattle.cards.specs.declared.entry.TheConstants.{ENTRIES}
use Rattle.keepers.specs.Memory.{used_of}
use Rattle.keepers.specs.SetOf.{no_version, set_of, Of}
use Rattle.linked.specs.declared.place.Place.{Place}
use Rattle.linked.specs.declared.place.Link.{Link}
use Rattle.linked.specs.declared.place.Content.TheVariants as content
use Rattle.keepers.specs.declared.version.Version.{Version}

-- ---- what a place holds

-- a place that holds a link
abbrev pub held_place : Link → Place
held_place l = record { content = content.Held l }

-- a free place that leads to the place n, after which come so many free places
abbrev pub free_place : Option ℕ → ℕ → Place
free_place n below = record { content = content.Free (record { first = n; count = below }) }

-- a free place that leads nowhere
abbrev pub empty_place : Place
empty_place = free_place None 0

-- the version in a place
abbrev pub version_of : Place → Version
version_of p = elim p.content as (λ _. Version) [ content.Held l ↦ l.version | content.Free _ ↦ no_version ]

-- the place that a place leads to: the next older version's, or the next free one
abbrev pub next_of : Place → Option ℕ
next_of p = elim p.content as (λ _. Option ℕ) [ content.Held l ↦ l.older | content.Free others ↦ others.first ]

-- how many free places come after a free place; no number where it holds a version
abbrev pub below_of : Place → Option ℕ
below_of p = elim p.content as (λ _. Option ℕ) [ content.Held _ ↦ None | content.Free others ↦ Some others.count ]

-- a place that holds a link leads on to n
abbrev pub led_place : Place → Option ℕ → Place
led_place p n = elim p.content as (λ _. Place) [ content.Held l ↦ held_place (record { version = l.version; older = n }) | content.Free _ ↦ p ]

-- ---- the places together

-- the places of the memory that are used: the first 65,536 at most
abbrev pub used_places : List Place → List Place
used_places ps = take (used_of (length ps)) ps

-- what the places hold together
abbrev pub kept_in : List Place → Kept
kept_in ps = set_of version_of ps

-- ---- one place

-- the place p, or a free one past the end
abbrev pub place_at : List Place → ℕ → Place
place_at ps p = slice_index_or ps p empty_place

-- the time of the place p, 0 where it is free
abbrev pub time_at : List Place → ℕ → ℕ
time_at ps p = (version_of (place_at ps p)).time

-- the entry of the place p
abbrev pub entry_at : List Place → ℕ → ℕ
entry_at ps p = (version_of (place_at ps p)).entry

-- the place that the place p leads to
abbrev pub next_at : List Place → ℕ → Option ℕ
next_at ps p = next_of (place_at ps p)

-- how many free places come after the place p, if it is free
abbrev pub below_at : List Place → ℕ → Option ℕ
below_at ps p = below_of (place_at ps p)

-- the time of a place, 0 without one
abbrev pub time_or_zero : List Place → Option ℕ → ℕ
time_or_zero ps None = 0
time_or_zero ps (Some p) = time_at ps p

-- the place p holds a version of the entry e
abbrev pub OfEntry : List Place → ℕ → ℕ → Type 0
OfEntry ps e p = Of version_of empty_place ps e p

-- the place p is free, and so many free places come after it
abbrev pub Free : List Place → ℕ → ℕ → Type 0
Free ps p k = (p < length ps) × (below_at ps p ≡ Some k)

-- the place of the newest version of the entry e, by the heads
abbrev pub head_of : List (Option ℕ) → ℕ → Option ℕ
head_of hs e = slice_index_or hs e None

-- ---- what leads to a place

-- o is the place of the newest version of the entry e before the time t, or none, where there is no such version
pub record LeadsTo (ps : List Place) (e t : ℕ) (o : Option ℕ) : Type 0 where
  pub of : (q : ℕ) → o ≡ Some q → OfEntry ps e q
  pub below : time_or_zero ps o < t
  pub newest : (r : ℕ) → OfEntry ps e r → time_at ps r < t → time_at ps r ≤ time_or_zero ps o

-- o is the first of n free places, or none, where n is 0
pub record LeadsFree (ps : List Place) (n : ℕ) (o : Option ℕ) : Type 0 where
  pub some : (q : ℕ) → o ≡ Some q → Free ps q (n - 1) × (0 < n)
  pub none : o ≡ None → n ≡ 0

-- a walk along the chain of the entry e has come to a, from the place b, or else from the head: all before is later than t
pub record Walked (ps : List Place) (hs : List (Option ℕ)) (e t : ℕ) (b a : Option ℕ) : Type 0 where
  pub first : b ≡ None → a ≡ head_of hs e
  pub later : (q : ℕ) → b ≡ Some q → OfEntry ps e q × (t < time_at ps q) × (next_at ps q ≡ a)
  pub of : (q : ℕ) → a ≡ Some q → OfEntry ps e q
  pub newest : (r : ℕ) → OfEntry ps e r → time_at ps r ≤ t → time_at ps r ≤ time_or_zero ps a

-- ---- what holds of all places

-- the versions: no entry has two of one time, each place leads to the next older version of its entry, each head to the newest
pub record Chained (ps : List Place) (hs : List (Option ℕ)) : Type 0 where
  pub entries : (p : ℕ) → 0 < time_at ps p → entry_at ps p < ENTRIES
  pub times : (p : ℕ) → time_at ps p < 2 ^ 32
  pub once : (p q : ℕ) → 0 < time_at ps p → entry_at ps p ≡ entry_at ps q → time_at ps p ≡ time_at ps q → p ≡ q
  pub next : (p : ℕ) → 0 < time_at ps p → LeadsTo ps (entry_at ps p) (time_at ps p) (next_at ps p)
  pub head : (e : ℕ) → e < ENTRIES → LeadsTo ps e (2 ^ 32) (head_of hs e)
  pub heads : length hs ≡ ENTRIES

-- the free places: n of them, f the first, each known by how many come after it
pub record Freed (ps : List Place) (f : Option ℕ) (n : ℕ) : Type 0 where
  pub first : LeadsFree ps n f
  pub next : (p k : ℕ) → Free ps p k → LeadsFree ps k (next_at ps p)
  pub under : (p k : ℕ) → Free ps p k → k < n
  pub once : (p q k : ℕ) → Free ps p k → Free ps q k → p ≡ q

-- both, and the two counts
pub record Sound (ps : List Place) (hs : List (Option ℕ)) (f : Option ℕ) (n held : ℕ) : Type 0 where
  pub chained : Chained ps hs
  pub freed : Freed ps f n
  pub counted : held ≡ held_in (kept_in ps)
  pub total : held + n ≡ length ps

-- ---- changes

-- the place b, where there is one, leads on to n
abbrev pub led_places : List Place → Option ℕ → Option ℕ → List Place
led_places ps None n = ps
led_places ps (Some b) n = slice_set ps b (led_place (place_at ps b) n)

-- without a place b, the head of the entry e leads on to n
abbrev pub led_heads : List (Option ℕ) → ℕ → Option ℕ → Option ℕ → List (Option ℕ)
led_heads hs e None n = slice_set hs e n
led_heads hs e (Some b) n = hs

-- the number below k, where there is one
abbrev pub before : ℕ → Option ℕ
before zero = None
before (suc k) = Some k

-- each of the first n places is free, and leads to the one before it
abbrev pub AllFree : List Place → ℕ → Type 0
AllFree ps n = (k : ℕ) → k < n → place_at ps k ≡ free_place (before k) k
