-- A version put in the first free place, before the others of its entry.
use Rattle.std.proofs.Common.{◌≡◌, ℕ, ◌+◌, ◌-◌, ◌^◌, ◌<◌, ◌≤◌, ◌≢◌, List, get_or, set, Some, None, Option, sym, ap, subst, ◌∙◌, inl, inr, arith}
use Rattle.std.proofs.lemmas.List.{get_or-set_same, get_or-set_other, length-set}
use Rattle.std.proofs.lemmas.Bool.{cases_eq}
use Rattle.cards.specs.Versions.{with_card, held_in}
use Rattle.cards.specs.declared.entry.TheConstants.{ENTRIES}
use Rattle.cards.proofs.Counts.{held_more, with_here, with_other, same_set}
use Rattle.keepers.specs.SetOf.{holds}
use Rattle.keepers.specs.declared.version.Version.{Version}
use Rattle.keepers.proofs.SetsOf.{set_of-alike, holds_not}
use Rattle.linked.specs.Chain.{held_place, free_place, empty_place, version_of, next_of, below_of, kept_in, time_at, entry_at, next_at, time_or_zero, OfEntry, Free, LeadsTo, LeadsFree, Chained, Freed, Sound}
use Rattle.linked.proofs.Held.{none_kept}
use Rattle.linked.specs.declared.place.Place.{Place}
use Rattle.linked.proofs.Edits.{free_time, carried, Written, written}
use Rattle.linked.proofs.Chains.{kept_at}

module _ {ps : List Place} {hs : List (Option ℕ)} {f : Option ℕ} {n h : ℕ} (s : Sound ps hs f n h) (p : ℕ) (v : Version) (is : f ≡ Some p) (e : ℕ) (same : e ≡ v.entry) (le : e < ENTRIES) (lt : v.time < 2 ^ 32) (late : time_or_zero ps (get_or hs e None) < v.time) where
  abbrev new : Place
  new = held_place (record { version = v; older = get_or hs e None })

  abbrev ps' : List Place
  ps' = set ps p new

  abbrev hs' : List (Option ℕ)
  hs' = set hs e (Some p)

  free : Free ps p (n - 1) × (0 < n)
  free = s.freed.first.some p is

  zero : time_at ps p ≡ 0
  zero = free_time (get_or ps p empty_place) (n - 1) free.0.1

  -- every version of the entry is older
  above : (r : ℕ) → OfEntry ps e r → time_at ps r < v.time
  above r o = omega (arith, (s.chained.head e le).newest r o (s.chained.times r), late)

  -- what is at a place now
  at : (r : ℕ) → Written ps p new r
  at = written ps p new free.0.0

  -- ---- the chains

  -- what led to a place still does, but at the entry from its new version on
  led : {d t : ℕ} {o : Option ℕ} → LeadsTo ps d t o → (d ≡ e → t ≤ v.time) → LeadsTo ps' d t o
  led k y = carried k (λ q x w. let at_q = at q in let z = zero in ((grind arith, grind arith), grind arith)) (λ r a l. let at_r = at r in ((grind arith, grind arith), grind arith))

  older : LeadsTo ps e v.time (get_or hs e None)
  older = record { of = (s.chained.head e le).of; below = late; newest = λ r o _. (s.chained.head e le).newest r o (s.chained.times r) }

  abbrev Leads : Place → Type 0
  Leads x = LeadsTo ps' (version_of x).entry (version_of x).time (next_of x)

  next : (a : ℕ) → 0 < time_at ps' a → LeadsTo ps' (entry_at ps' a) (time_at ps' a) (next_at ps' a)
  next a l = elim (at a) [
    | inl k ↦ subst Leads (sym k.1) (subst (λ (d : ℕ). LeadsTo ps' d v.time (get_or hs e None)) same (led older (λ _. omega arith)))
    | inr k ↦ (let m : 0 < time_at ps a = subst (λ (x : Place). 0 < (version_of x).time) k.1 l in subst Leads (sym k.1) (led (s.chained.next a m) (λ q. omega (arith, above a (m, q)))))
  ]

  top : LeadsTo ps' e (2 ^ 32) (Some p)
  top = record {
    of = λ q x. let at_q = at q in let here : p ≡ q = cc in (grind arith, grind arith);
    below = let at_p = at p in grind arith;
    newest = λ r o l. let at_p = at p in let at_r = at r in let old = above r in grind arith;
  }

  head : (d : ℕ) → d < ENTRIES → LeadsTo ps' d (2 ^ 32) (get_or hs' d None)
  head d l = elim (cases_eq d e) [
    | inl q ↦ rw (q, get_or-set_same hs e (Some p) None (omega (arith, s.chained.heads))) top
    | inr ne ↦ rw (get_or-set_other hs e d (Some p) None ne) (led (s.chained.head d l) (λ q. absurd (ne q)))
  ]

  chained : Chained ps' hs'
  chained = record {
    entries = λ r l. let at_r = at r in let old = s.chained.entries r in grind arith;
    times = λ r. let at_r = at r in let old = s.chained.times r in grind arith;
    once = λ a b l x y. let at_a = at a in let at_b = at b in let new_a = above a in let new_b = above b in let old = s.chained.once a b in grind arith;
    next = next;
    head = head;
    heads = length-set hs e (Some p) ∙ s.chained.heads;
  }

  -- ---- the free places

  -- a free place was free, and leads where it led
  was : (a k : ℕ) → Free ps' a k → (a ≢ p) × Free ps a k × (next_at ps' a ≡ next_at ps a)
  was a k o = let at_a = at a in let len = length-set ps p new in (grind arith, (grind arith, grind arith), grind arith)

  still : {k : ℕ} {o : Option ℕ} → LeadsFree ps k o → k < n → LeadsFree ps' k o
  still l y = record {
    some = λ q x. let at_q = at q in let old = l.some q x in let top = free in let len = length-set ps p new in ((grind arith, grind arith), grind arith);
    none = l.none;
  }

  freed : Freed ps' (next_at ps p) (n - 1)
  freed = record {
    first = still (s.freed.next p (n - 1) free.0) (omega (arith, free.1));
    next = λ a k o. let w = was a k o in rw w.2 (still (s.freed.next a k w.1) (s.freed.under a k w.1));
    under = λ a k o. let w = was a k o in let ne : k ≢ n - 1 = λ q. w.0 (s.freed.once a p k w.1 (rw q free.0)) in omega (arith, s.freed.under a k w.1, ne);
    once = λ a b k o y. s.freed.once a b k (was a k o).1 (was b k y).1;
  }

  -- ---- the whole

  pub add_kept : kept_in ps' ≡ with_card (kept_in ps) v.entry v.time v.card
  add_kept =
      same_set _ _ v.entry v.time
      (subst (λ (x : Place). kept_in ps' v.entry (version_of x).time ≡ Some (version_of x).card) (get_or-set_same ps p new empty_place free.0.0) (kept_at chained v.entry p (let at_p = at p in (grind arith, grind arith)))
      ∙ sym (with_here (kept_in ps) v.entry v.time v.card))
      (λ d u ne.
      set_of-alike version_of empty_place ps ps' d u (length-set ps p new)
      (λ r. elim (at r) [
        | inl k ↦ ap (λ (x : Place). holds (version_of x) d u) k.1 ∙ holds_not v d u (λ _ x y. ne (sym x) (sym y)) ∙ sym (rw k.0 (holds_not (version_of (get_or ps p empty_place)) d u (λ l x y. omega (arith, zero))))
        | inr k ↦ ap (λ (x : Place). holds (version_of x) d u) k.1
      ])
      ∙ sym (with_other (kept_in ps) v.entry v.time v.card d u ne))

  -- o and m are what the free place was read to lead to
  pub add_sound : (o : Option ℕ) (m : ℕ) → free_place o m ≡ get_or ps p empty_place → Sound ps' hs' o m (h + 1)
  add_sound o m read = record {
    chained = chained;
    freed = rw (ap next_of read, count) freed;
    counted = ap (λ (k : ℕ). k + 1) s.counted ∙ sym (ap held_in add_kept ∙ held_more (kept_in ps) v.entry v.time v.card (rw (← same) le) lt (none_kept ps v.entry v.time (λ r o y. omega (arith, above r (o.0, o.1 ∙ sym same)))));
    total = omega (arith, length-set ps p new, s.total, free.1, count);
  }
    where
      count : m ≡ n - 1
      count = let both = ap below_of read ∙ free.0.1 in cc
