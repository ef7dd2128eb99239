-- What versions in their order of arrival do not hold, and that what they hold is bounded.
use Rattle.std.proofs.Common.{◌≡◌, ℕ, ◌<◌, List, length, get_or, None, refl}
use Rattle.std.specs.List.{All}
use Rattle.keepers.specs.Kept.{Bounded}
use Rattle.keepers.specs.SetOf.{no_version}
use Rattle.keepers.specs.declared.version.Version.{Version}
use Rattle.keepers.proofs.SetsOf.{set_of-none, set_of_bounded, filled_in}
use Rattle.roll.specs.Arrivals.{Proper, kept_in}

-- nothing is held for an entry at a time that none of its versions has
pub none_at : (vs : List Version) (e t : ℕ) → ((p : ℕ) → p < length vs → (get_or vs p no_version).entry ≡ e → (get_or vs p no_version).time ≡ t → ⊥) → kept_in vs e t ≡ None
none_at vs e t h = set_of-none (λ v. v) no_version vs e t (λ p o y. h p (filled_in (λ v. v) no_version vs p refl o.0) o.1 y)

pub bounded_in : (vs : List Version) → All Proper vs → Bounded (kept_in vs)
bounded_in vs each = set_of_bounded (λ v. v) no_version vs (λ p l. let z = each p no_version (filled_in (λ v. v) no_version vs p refl l) in (z.0, z.2))
