-- A version that is taken out, and the gap that is closed.
use Rattle.std.proofs.Common.{◌≡◌, ℕ, suc, ◌+◌, ◌-◌, ◌<◌, ◌≤◌, List, ◌∷◌, ◌++◌, length, get_or, take, drop, None, sym, refl, ap, ◌∙◌, add-one, arith}
use Rattle.std.proofs.Math.Seq.{split_at}
use Rattle.std.proofs.lemmas.List.Edits.{length-remove, get_or-remove_below, get_or-remove_above}
use Rattle.std.proofs.lemmas.List.Quantifiers.{all_pairs_remove}
use Rattle.std.proofs.lemmas.List.{length-append, length-take-le, take_at, take-take}
use Rattle.std.proofs.lemmas.List.Elements.{All-append, All-take, All-drop}
use Rattle.std.proofs.lemmas.Slice.{between_is}
use Rattle.std.specs.List.{copy_within, remove}
use Rattle.cards.specs.Versions.{without}
use Rattle.roll.specs.Arrivals.{Proper, Rising, kept_in, Arrived, Rolled}
use Rattle.keepers.specs.SetOf.{no_version}
use Rattle.keepers.specs.declared.version.Version.{Version}
use Rattle.cards.proofs.Counts.{same_set, without_here, without_other, held_less}
use Rattle.keepers.proofs.SetsOf.{set_of-append, holds_not}
use Rattle.std.specs.Option.{option_or}
use Rattle.roll.proofs.Held.{none_at}
use Rattle.roll.proofs.Meanings.{kept_at}

-- a copy of what follows one place down is what closes a gap
gap_closed : {X : Type 0} (xs : List X) (p held : ℕ) → p < held → copy_within xs (p + 1) held p ≡ remove (take held xs) p ++ drop (held - 1) xs
gap_closed xs p held l = let n : p + (held - (p + 1)) ≡ held - 1 = omega arith in rw (n, add-one, take-take p held xs (omega arith), between_is xs (suc p) held)

pub front_closed : {X : Type 0} (xs : List X) (p held : ℕ) → p < held → held ≤ length xs → take (held - 1) (copy_within xs (p + 1) held p) ≡ remove (take held xs) p
front_closed xs p held l w =
    let count : length (remove (take held xs) p) ≡ held - 1 = omega (arith, length-remove (take held xs) p, length-take-le held xs w) in
    rw (gap_closed xs p held l) (take_at (remove (take held xs) p) (drop (held - 1) xs) (held - 1) count)

module _ (vs : List Version) (a : Arrived vs) (p : ℕ) (l : p < length vs) where
  abbrev gone : Version
  gone = get_or vs p no_version

  arrived_less : Arrived (remove vs p)
  arrived_less = record { each = All-append Proper (take p vs) (drop (suc p) vs) (All-take Proper p vs a.each) (All-drop Proper (suc p) vs a.each); rising = all_pairs_remove Rising vs p l a.rising }

  -- no other version has its entry and time
  none_left : kept_in (remove vs p) gone.entry gone.time ≡ None
  none_left =
      none_at (remove vs p) gone.entry gone.time (λ r k x y.
      let n = length-remove vs p l in
      grind (arith, a.rising r p no_version, a.rising p (r + 1) no_version, get_or-remove_below vs p no_version r, get_or-remove_above vs p no_version r))

  pub kept_less : kept_in (remove vs p) ≡ without (kept_in vs) gone.entry gone.time
  kept_less =
      let m = kept_in vs in
      same_set _ _ gone.entry gone.time (none_left ∙ sym (without_here m gone.entry gone.time))
      (λ e t ne. rw (without_other m gone.entry gone.time e t ne, set_of-append (λ v. v) (take p vs) (drop (suc p) vs) e t) (sym (ap (λ (ws : List Version). kept_in ws e t) (split_at vs p no_version l) ∙ others e t ne)))
    where
      others : (e t : ℕ) → (e ≡ gone.entry → t ≡ gone.time → ⊥) → kept_in (take p vs ++ gone ∷ drop (suc p) vs) e t ≡ option_or (kept_in (take p vs) e t) (kept_in (drop (suc p) vs) e t)
      others e t ne = rw (set_of-append (λ v. v) (take p vs) (gone ∷ drop (suc p) vs) e t, holds_not gone e t (λ _ x y. ne (sym x) (sym y))) refl

-- a roll without the version at a place
pub rolled_less : (xs : List Version) (held p : ℕ) → Rolled xs held → p < held → Rolled (copy_within xs (p + 1) held p) (held - 1)
rolled_less xs held p s l =
    let vs = take held xs in
    let inn : p < length vs = omega (arith, length-take-le held xs s.within) in
    let v = get_or vs p no_version in
    let proper = s.arrived.each p no_version inn in
    let front = front_closed xs p held l s.within in
    record {
      few = omega (arith, s.few);
      within = omega (arith, s.within, length-remove vs p inn, length-take-le held xs s.within, ap length (gap_closed xs p held l), length-append (remove vs p) (drop (held - 1) xs));
      arrived = rw front (arrived_less vs s.arrived p inn);
      counted = rw (front, kept_less vs s.arrived p inn) (omega (arith, s.counted, held_less (kept_in vs) v.entry v.time v.card proper.0 proper.2 (kept_at vs s.arrived p inn)));
    }
