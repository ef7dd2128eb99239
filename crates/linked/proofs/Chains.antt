-- What a place in a chain says of the versions of its entry.
use Rattle.std.specs.Prelude.{◌≡◌, ℕ, ◌<◌, ◌≤◌, List, length, get_or, is_some, Some, None, Option, slice_index_or, refl}
use Rattle.std.proofs.Common.{sym, ap, ◌∙◌, subst, arith}
use Rattle.cards.specs.Versions.{newest_time}
use Rattle.cards.specs.declared.entry.TheConstants.{ENTRIES}
use Rattle.cards.proofs.Newest.{newest_none, newest_is}
use Rattle.keepers.specs.Kept.{Newest, Follows}
use Rattle.keepers.proofs.SetsOf.{set_of-some, filled_in}
use Rattle.linked.specs.Chain.{empty_place, version_of, next_of, kept_in, time_at, next_at, time_or_zero, OfEntry, Chained, Walked}
use Rattle.linked.proofs.Held.{none_kept}
use Rattle.linked.specs.declared.place.Place.{Place}

-- a place that holds a version is there
pub in_places : (ps : List Place) (p : ℕ) → 0 < time_at ps p → p < length ps
in_places ps p = filled_in version_of empty_place ps p refl

module _ {ps : List Place} {hs : List (Option ℕ)} (ch : Chained ps hs) where
  -- what a place holds is kept
  pub kept_at : (e q : ℕ) → OfEntry ps e q → kept_in ps e (time_at ps q) ≡ Some (version_of (get_or ps q empty_place)).card
  kept_at e q o = set_of-some version_of empty_place ps e (time_at ps q) q (λ r w y. ch.once r q w.0 (w.1 ∙ sym o.1) y) o refl refl

  -- the head's time is the newest of its entry
  pub head_newest : (e : ℕ) → e < ENTRIES → newest_time (kept_in ps) e ≡ time_or_zero ps (slice_index_or hs e None)
  head_newest e le = by (slice_index_or hs e None) refl (λ r o. (ch.head e le).newest r o (ch.times r))
    where
      by : (o : Option ℕ) → slice_index_or hs e None ≡ o → ((r : ℕ) → OfEntry ps e r → time_at ps r ≤ time_or_zero ps (slice_index_or hs e None)) → newest_time (kept_in ps) e ≡ time_or_zero ps o
      by None nil top = newest_none (kept_in ps) e (λ u. none_kept ps e u (λ r o y. omega (arith, o.0, rw nil at (top r o))))
      by (Some q) so top = newest_is (kept_in ps) e (time_at ps q) (ch.times q) (ap is_some (kept_at e q ((ch.head e le).of q so))) (λ u lo. none_kept ps e u (λ r o y. omega (arith, rw so at (top r o))))

  -- ---- a walk

  -- at the head
  pub begun : (e t : ℕ) → e < ENTRIES → Walked ps hs e t None (slice_index_or hs e None)
  begun e t le = record { first = λ _. refl; later = λ q so. cc; of = (ch.head e le).of; newest = λ r o l. (ch.head e le).newest r o (ch.times r) }

  module _ {e t : ℕ} {b a : Option ℕ} (w : Walked ps hs e t b a) where
    module _ (q : ℕ) (x : Place) (is : a ≡ Some q) (read : x ≡ slice_index_or ps q empty_place) where
      -- find's answer
      pub found : time_or_zero ps a ≤ t → Newest (kept_in ps) e t (Some (version_of x))
      found l =
          let o = w.of q is in
          let top : time_or_zero ps a ≡ time_at ps q = ap (time_or_zero ps) is in
          rw read (o.1, omega arith, kept_at e q o, λ u lo hi. none_kept ps e u (λ r k y. omega (arith, w.newest r k (omega arith))))

      -- the next place is older, which is why a walk ends
      pub falls : time_or_zero ps (next_of x) < time_or_zero ps a
      falls = rw (is, read) (ch.next q (w.of q is).0).below

      -- one step on
      pub step : t < (version_of x).time → Walked ps hs e t (Some q) (next_of x)
      step l =
          let o = w.of q is in
          let k = ch.next q o.0 in
          let later : t < time_at ps q = subst (λ (y : Place). t < (version_of y).time) read l in
          rw read (record {
            first = λ nil. cc;
            later = λ r so. let same : q ≡ r = cc in subst (λ (k : ℕ). OfEntry ps e k × (t < time_at ps k) × (next_at ps k ≡ next_at ps q)) same (o, later, refl);
            of = λ r so. let n = k.of r so in (n.0, n.1 ∙ o.1);
            newest = λ r n y. k.newest r (n.0, n.1 ∙ sym o.1) (omega (arith, later));
          })

    module _ (until : time_or_zero ps a ≤ t) where
      -- find's answer at the end of the chain
      pub at_end : a ≡ None → Newest (kept_in ps) e t None
      at_end is u hi = let top : time_or_zero ps a ≡ 0 = ap (time_or_zero ps) is in none_kept ps e u (λ r o y. omega (arith, o.0, w.newest r o (omega arith)))

      -- after's answers: the place before, or nothing where the walk ended at the head
      pub follows_some : (q : ℕ) (x : Place) → b ≡ Some q → x ≡ slice_index_or ps q empty_place → Follows (kept_in ps) e t (Some (version_of x).time)
      follows_some q x so read =
          let l = w.later q so in
          let end : time_or_zero ps (next_at ps q) ≡ time_or_zero ps a = ap (time_or_zero ps) l.2 in
          rw read (l.1, ap is_some (kept_at e q l.0), λ u lo hi. none_kept ps e u (λ r o y. omega (arith, (ch.next q l.0.0).newest r (o.0, o.1 ∙ sym l.0.1) (omega arith))))

      pub follows_none : b ≡ None → e < ENTRIES → Follows (kept_in ps) e t None
      follows_none nil le u hi =
          let end : time_or_zero ps a ≡ time_or_zero ps (slice_index_or hs e None) = ap (time_or_zero ps) (w.first nil) in
          none_kept ps e u (λ r o y. omega (arith, (ch.head e le).newest r o (ch.times r)))
