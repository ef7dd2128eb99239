-- What add answers, of a keeper that declines by the verdict.
use Rattle.std.proofs.Common.{◌≡◌, ℕ, ◌<◌, ◌≤◌, Some, None, arith}
use Rattle.std.proofs.lemmas.Bool.Decides.{nat_tests}
use Rattle.cards.specs.Holding.{holding, places_less_held}
use Rattle.cards.specs.Versions.{Kept, newest_time}
use Rattle.cards.specs.declared.entry.TheConstants.{ENTRIES}
use Rattle.cards.specs.declared.refusal.Refusal.TheVariants as why
use Rattle.keepers.specs.Kept.{add_refusal}
use Rattle.keepers.specs.declared.version.Version.{Version}

module _ (places : ℕ) (m : Kept) (v : Version) where
  pub refuses_full : v.entry < ENTRIES → places_less_held places m ≡ 0 → add_refusal (holding places m) v ≡ Some why.Full
  refuses_full h z = grind (arith, nat_tests)

  pub refuses_order : v.entry < ENTRIES → 0 < places_less_held places m → v.time ≤ newest_time m v.entry → add_refusal (holding places m) v ≡ Some why.Order
  refuses_order h r l = grind (arith, nat_tests)

  pub takes : v.entry < ENTRIES → 0 < places_less_held places m → newest_time m v.entry < v.time → add_refusal (holding places m) v ≡ None
  takes h r l = grind (arith, nat_tests)
