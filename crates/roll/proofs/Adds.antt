-- A roll that is new, and a version that arrives.
use Rattle.std.proofs.Common.{◌≡◌, ℕ, ◌+◌, ◌^◌, ◌<◌, List, [], ◌∷◌, ◌++◌, length, get_or, take, set, is_some, None, sym, refl, ap, arith}
use Rattle.std.specs.List.{All}
use Rattle.std.proofs.lemmas.List.Elements.{All-from_get_or, All-push}
use Rattle.std.proofs.lemmas.List.Quantifiers.{all_pairs_push}
use Rattle.std.proofs.lemmas.List.{length-set, take_more_set}
use Rattle.cards.specs.Versions.{with_card, newest_time}
use Rattle.keepers.specs.Memory.{used_of}
use Rattle.keepers.specs.SetOf.{no_version}
use Rattle.keepers.specs.declared.version.Version.{Version}
use Rattle.cards.proofs.Counts.{same_set, with_here, with_other, held_more, held_none}
use Rattle.cards.proofs.Newest.{below_bounds}
use Rattle.keepers.proofs.SetsOf.{set_of-append, option_or_none, holds_here, holds_not}
use Rattle.roll.specs.Arrivals.{Proper, Rising, kept_in, Arrived, Rolled}
use Rattle.roll.proofs.Held.{none_at}
use Rattle.roll.proofs.Meanings.{kept_at}

-- a roll without a version
pub rolled_none : (xs : List Version) → Rolled xs 0
rolled_none xs = record {
  within = omega arith;
  few = omega arith;
  arrived = record { each = λ p d l. absurd (omega arith); rising = λ i j d lt l. absurd (omega arith) };
  counted = sym (held_none _ (λ e t. refl));
}

-- the version v comes after all of vs, and later than the newest of its entry
module _ (vs : List Version) (a : Arrived vs) (v : Version) (proper : Proper v) (late : newest_time (kept_in vs) v.entry < v.time) where
  before : All (λ w. Rising w v) vs
  before =
      All-from_get_or (λ w. Rising w v) vs no_version (λ p l same.
      let bound = below_bounds (kept_in vs v.entry) (2 ^ 32) (get_or vs p no_version).time (a.each p no_version l).2 (rw same at (ap is_some (kept_at vs a p l))) in omega arith)

  arrived_more : Arrived (vs ++ v ∷ [])
  arrived_more = record { each = All-push Proper vs v a.each proper; rising = all_pairs_push Rising vs v a.rising before }

  fresh : kept_in vs v.entry v.time ≡ None
  fresh = none_at vs v.entry v.time (λ p l x y. omega (arith, before p no_version l x))

  pub kept_more : kept_in (vs ++ v ∷ []) ≡ with_card (kept_in vs) v.entry v.time v.card
  kept_more =
      let m = kept_in vs in
      same_set _ _ v.entry v.time
      (rw (with_here m v.entry v.time v.card, set_of-append (λ w. w) vs (v ∷ []) v.entry v.time, fresh, holds_here v v.entry v.time proper.1 refl refl) refl)
      (λ e t ne. rw (with_other m v.entry v.time v.card e t ne, set_of-append (λ w. w) vs (v ∷ []) e t, holds_not v e t (λ _ x y. ne (sym x) (sym y))) (option_or_none (m e t)))

-- a roll with a place to spare, where it arrives
pub rolled_more : (xs : List Version) (held : ℕ) (v : Version) → Rolled xs held → held < used_of (length xs) → Proper v → newest_time (kept_in (take held xs)) v.entry < v.time → Rolled (set xs held v) (held + 1)
rolled_more xs held v s spare proper late =
    let vs = take held xs in
    let front = take_more_set xs held v (omega (arith, spare)) in
    record {
      within = simp length-set (omega (arith, spare));
      few = omega (arith, spare);
      arrived = rw front (arrived_more vs s.arrived v proper late);
      counted = rw (front, kept_more vs s.arrived v proper late) (omega (arith, s.counted, held_more (kept_in vs) v.entry v.time v.card proper.0 proper.2 (fresh vs s.arrived v proper late)));
    }
