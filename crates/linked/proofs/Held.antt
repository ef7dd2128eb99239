-- What the places do not hold, and that what they hold is bounded.
use Rattle.std.proofs.Common.{◌≡◌, ℕ, List, None, Option}
use Rattle.std.specs.Prelude.{◌≢◌}
use Rattle.keepers.specs.Kept.{Bounded}
use Rattle.keepers.proofs.SetsOf.{set_of-none, set_of_bounded}
use Rattle.linked.specs.Chain.{Chained, OfEntry, empty_place, kept_in, time_at, version_of}
use Rattle.linked.specs.declared.place.Place.{Place}

-- no place has it
pub none_kept : (ps : List Place) (e t : ℕ) → ((r : ℕ) → OfEntry ps e r → time_at ps r ≢ t) → kept_in ps e t ≡ None
none_kept ps e t = set_of-none version_of empty_place ps e t

pub bounded_in : (ps : List Place) (hs : List (Option ℕ)) → Chained ps hs → Bounded (kept_in ps)
bounded_in ps hs ch = set_of_bounded version_of empty_place ps (λ p l. (ch.entries p l, ch.times p))
