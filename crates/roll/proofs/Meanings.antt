-- What versions in their order of arrival mean together.
use Rattle.std.specs.Prelude.{◌≡◌, ℕ, ◌-◌, ◌^◌, ◌<◌, ◌≤◌, List, length, is_some, Some, None, Option, MatchOption, ◌==◌, slice_index_or, refl}
use Rattle.std.specs.Bool.{then_some}
use Rattle.std.specs.Option.{option_map, option_map_or}
use Rattle.std.proofs.Common.{sym, ap, inl, inr, arith}
use Rattle.std.proofs.lemmas.Bool.{cases_eq, eq-eqb, ne_eqb}
use Rattle.cards.specs.Versions.{Kept, newest_time}
use Rattle.roll.specs.Arrivals.{kept_in, Arrived}
use Rattle.roll.specs.Searches.{Placed, First}
use Rattle.keepers.specs.Kept.{Newest, Follows}
use Rattle.keepers.specs.Lists.{Last}
use Rattle.keepers.specs.SetOf.{no_version}
use Rattle.roll.proofs.Held.{none_at}
use Rattle.keepers.specs.declared.version.Version.{Version}
use Rattle.cards.proofs.Newest.{newest_none, newest_is}
use Rattle.keepers.proofs.SetsOf.{set_of-some, filled_in}

module _ (vs : List Version) (a : Arrived vs) where
  abbrev item : ℕ → Version
  item p = slice_index_or vs p no_version

  -- every version is held, since no other has its entry and time
  pub kept_at : (p : ℕ) → p < length vs → kept_in vs (item p).entry (item p).time ≡ Some (item p).card
  kept_at p l =
      set_of-some (λ v. v) no_version vs _ _ p
      (λ q o y. let k = filled_in (λ v. v) no_version vs q refl o.0 in grind (arith, a.rising p q no_version, a.rising q p no_version))
      ((a.each p no_version l).1, refl) refl refl

  -- the last match is the newest version
  pub newest_last : (e u : ℕ) (o : Option ℕ) → Last (λ v. (v.entry ≡ e) × (v.time ≤ u)) vs o → Newest (kept_in vs) e u (option_map item o)
  newest_last e u None none = λ t hi. none_at vs e t (λ p l x y. none p no_version l (x, omega arith))
  newest_last e u (Some i) (inn, is, rest) =
      let y = is no_version in
      (y.0, y.1, rw y.0 at (kept_at i inn), λ t lo hi. none_at vs e t (λ p l x z. grind (arith, a.rising p i no_version, rest p no_version)))

  -- a version at a time is the newest up to that time
  pub placed_at : (e t : ℕ) (o r : Option ℕ) → Last (λ v. (v.entry ≡ e) × (v.time ≤ t)) vs o → MatchOption o (r ≡ None) (λ i. r ≡ then_some ((item i).time == t) i) → Placed e t vs r
  placed_at e t None r last is = rw is (newest_last e t None last t (omega arith))
  placed_at e t (Some i) r last is =
      let y = last.1 no_version in
      elim (cases_eq (item i).time t) [
        | inl q ↦ rw (is, eq-eqb _ t q) (last.0, y.0, q, rw (y.0, q) at (kept_at i last.0))
        | inr ne ↦ rw (is, ne_eqb _ t ne) ((newest_last e t (Some i) last).3 t (omega (arith, ne)) (omega arith))
      ]

  -- the first later version is the next one
  pub next_first : (e u : ℕ) (r : Option ℕ) → First e u vs r → Follows (kept_in vs) e u r
  next_first e u None none = λ t lo. none_at vs e t (λ p l x y. none p no_version l (x, omega arith))
  next_first e u (Some t) (i, inn, is, before) =
      let y = is no_version in
      (omega arith, rw (y.0.0, y.1) at (ap is_some (kept_at i inn)), λ s lo hi. none_at vs e s (λ p l x z. grind (arith, a.rising i p no_version, before p no_version)))

-- what is found without a limit of time tells the newest time
pub newest_found : (m : Kept) (e : ℕ) (r : Option Version) → ((u : ℕ) → 2 ^ 32 ≤ u → m e u ≡ None) → Newest m e (2 ^ 32 - 1) r → option_map_or (λ v. v.time) r 0 ≡ newest_time m e
newest_found m e None past none = sym (newest_none m e (λ u. grind (arith, none u, past u)))
newest_found m e (Some v) past (y, hi, some, none) = sym (newest_is m e v.time (omega arith) (ap is_some some) (λ u l. grind (arith, none u, past u)))
