-- What a search of the versions finds.
use Rattle.std.specs.Prelude.{◌≡◌, ℕ, ◌<◌, List, length, Some, None, Option, slice_index_or}
use Rattle.std.specs.List.{All, AllWithin, HoldsAt}
use Rattle.keepers.specs.SetOf.{no_version}
use Rattle.keepers.specs.declared.version.Version.{Version}
use Rattle.roll.specs.Arrivals.{kept_in}

-- r is the place of the version of the entry e at the time t; there is none where r is None
abbrev pub Placed : ℕ → ℕ → List Version → Option ℕ → Type 0
Placed e t vs None = kept_in vs e t ≡ None
Placed e t vs (Some p) = (p < length vs) × ((slice_index_or vs p no_version).entry ≡ e) × ((slice_index_or vs p no_version).time ≡ t) × (kept_in vs e t ≡ Some (slice_index_or vs p no_version).card)

-- v is of the entry e and later than u
abbrev pub After : ℕ → ℕ → Version → Type 0
After e u v = (v.entry ≡ e) × (u < v.time)

-- r is the time of the first version of the entry e that is later than u; there is none where r is None
abbrev pub First : ℕ → ℕ → List Version → Option ℕ → Type 0
First e u vs None = All (λ v. After e u v → ⊥) vs
First e u vs (Some t) = (i : ℕ) × (i < length vs) × HoldsAt (λ v. After e u v × (v.time ≡ t)) vs i × AllWithin (λ v. After e u v → ⊥) vs 0 i
