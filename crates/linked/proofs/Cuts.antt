-- A version taken out of its chain, and its place put before the free ones.
use Rattle.std.proofs.Common.{◌≡◌, ℕ, ◌+◌, ◌-◌, ◌<◌, true, ◌≢◌, ◌⊎◌, List, length, get_or, drop, set, is_some, Some, None, Option, sym, refl, ap, ap₂, ◌∙◌, subst, inl, inr, arith}
use Rattle.std.proofs.lemmas.List.{get_or-set_same, get_or-set_other, length-set, drop-set-lt}
use Rattle.std.proofs.lemmas.Bool.{cases_eq}
use Rattle.cards.specs.Holding.{holding}
use Rattle.keepers.specs.declared.memory.TheConstants.{MOST_PLACES}
use Rattle.keepers.specs.Kept.{removed}
use Rattle.cards.specs.Versions.{without, held_in}
use Rattle.cards.specs.declared.entry.TheConstants.{ENTRIES}
use Rattle.cards.proofs.Counts.{held_less, without_here, without_other, same_set}
use Rattle.keepers.specs.SetOf.{holds}
use Rattle.keepers.specs.declared.version.Version.{Version}
use Rattle.keepers.proofs.SetsOf.{set_of-alike, holds_not}
use Rattle.linked.specs.Chain.{empty_place, free_place, version_of, next_of, below_of, led_place, used_places, kept_in, time_at, entry_at, next_at, below_at, time_or_zero, Free, LeadsTo, LeadsFree, Walked, Chained, Freed, Sound, led_places, led_heads}
use Rattle.linked.proofs.Held.{none_kept}
use Rattle.linked.specs.View.{linked_memory, linked_used, linked_rest, linked_kept, linked_places, linked_means}
use Rattle.linked.specs.declared.keeper.Linked.{Linked}
use Rattle.linked.specs.declared.place.Place.{Place}
use Rattle.linked.proofs.Chains.{in_places, kept_at}
use Rattle.linked.proofs.Edits.{written, free_time, carried, used_set, used_led, led_len, led_rest}
use Rattle.linked.proofs.Facts.{few}

-- with the version in p less, one less is held
pub less_by : {ps : List Place} {hs : List (Option ℕ)} {f : Option ℕ} {n h : ℕ} → Sound ps hs f n h → (p : ℕ) → 0 < time_at ps p → h ≡ held_in (without (kept_in ps) (entry_at ps p) (time_at ps p)) + 1
less_by {ps} s p was = s.counted ∙ held_less (kept_in ps) (entry_at ps p) (time_at ps p) _ (s.chained.entries p was) (s.chained.times p) (kept_at s.chained (entry_at ps p) p (was, refl))

-- what led to the place p leads to its next, and all else to where it led
abbrev pub Passed : List Place → ℕ → Option ℕ → Option ℕ → Type 0
Passed ps p o o' = ((o ≢ Some p) × (o' ≡ o)) ⊎ ((o ≡ Some p) × (o' ≡ next_at ps p))

-- the places qs and the heads hs' lead past the place p
pub record LedPast (ps qs : List Place) (hs hs' : List (Option ℕ)) (p : ℕ) : Type 0 where
  pub version : (r : ℕ) → version_of (get_or qs r empty_place) ≡ version_of (get_or ps r empty_place)
  pub below : (r : ℕ) → below_at qs r ≡ below_at ps r
  pub held : (r : ℕ) → 0 < time_at ps r → Passed ps p (next_at ps r) (next_at qs r)
  pub free : (r : ℕ) → time_at ps r ≡ 0 → next_at qs r ≡ next_at ps r
  pub heads : (d : ℕ) → d < ENTRIES → Passed ps p (get_or hs d None) (get_or hs' d None)
  pub len : length qs ≡ length ps
  pub heads_len : length hs' ≡ length hs

-- ---- the two ways to lead past: p is its entry's newest, or the place b leads to it

module _ {ps : List Place} {hs : List (Option ℕ)} (ch : Chained ps hs) (p : ℕ) {e t : ℕ} (le : e < ENTRIES) where
  past_head : Walked ps hs e t None (Some p) → LedPast ps ps hs (set hs e (next_at ps p)) p
  past_head w =
      let o = w.of p refl in
      let is : get_or hs e None ≡ Some p = sym (w.first refl) in
      record {
        version = λ r. refl;
        below = λ r. refl;
        held = λ r l. inl (
          (λ x.
              let k = ch.next r l in
              let q = k.of p x in
              omega (arith, k.below, ap (time_or_zero ps) x, ap (time_or_zero ps) is, (ch.head e le).newest r (l, sym q.1 ∙ o.1) (ch.times r))),
          refl,
        );
        free = λ r _. refl;
        heads = λ d l. elim (cases_eq d e) [
          | inl q ↦ inr (rw q is, rw q (get_or-set_same hs e (next_at ps p) None (omega (arith, ch.heads))))
          | inr ne ↦ inl ((λ x. ne (sym ((ch.head d l).of p x).1 ∙ o.1)), get_or-set_other hs e d (next_at ps p) None ne)
        ];
        len = refl;
        heads_len = length-set hs e (next_at ps p);
      }

  module _ (b : ℕ) (w : Walked ps hs e t (Some b) (Some p)) where
    abbrev led : Place
    led = led_place (get_or ps b empty_place) (next_at ps p)

    inside : b < length ps
    inside = in_places ps b (w.later b refl).0.0

    past_place : LedPast ps (set ps b led) hs hs p
    past_place =
        let l = w.later b refl in
        let nb = ch.next b l.0.0 in
        let top = ap (time_or_zero ps) l.2 in
        let under : time_at ps p < time_at ps b = omega (arith, nb.below) in
        let same : entry_at ps p ≡ entry_at ps b = (nb.of p l.2).1 in
        record {
          version = λ r. let at_r = written ps b led inside r in grind arith;
          below = λ r. let at_r = written ps b led inside r in grind arith;
          held = λ r lr. elim (cases_eq r b) [
            | inl q ↦ inr (rw q l.2, rw q (let at_b = written ps b led inside b in grind arith))
            | inr ne ↦ inl (
              (λ x.
                  let k = ch.next r lr in
                  let of_r = k.of p x in
                  let top_r = ap (time_or_zero ps) x in
                  let older = nb.newest r in
                  let newer = k.newest b in
                  let once = ch.once r b in
                  grind (arith, k.below)),
              ap next_of (get_or-set_other ps b r led empty_place ne),
            )
          ];
          free = λ r z. ap next_of (get_or-set_other ps b r led empty_place (λ q. omega (arith, ap (time_at ps) q, l.0.0)));
          heads = λ d ld. inl ((λ x. let k = ch.head d ld in omega (arith, k.newest b (l.0.0, sym same ∙ (k.of p x).1) (ch.times b), ap (time_or_zero ps) x)), refl);
          len = length-set ps b led;
          heads_len = refl;
        }

  past : (b : Option ℕ) → Walked ps hs e t b (Some p) → LedPast ps (led_places ps b (next_at ps p)) hs (led_heads hs e b (next_at ps p)) p
  past None w = past_head w
  past (Some b) w = past_place b w

-- ---- the place put before the free ones

module _ {ps qs : List Place} {hs hs' : List (Option ℕ)} {f : Option ℕ} {n h : ℕ} (s : Sound ps hs f n h) (p : ℕ) (was : 0 < time_at ps p) (past-p : LedPast ps qs hs hs' p) where
  abbrev out : Place
  out = free_place f n

  abbrev ps' : List Place
  ps' = set qs p out

  there : p < length qs
  there = omega (arith, in_places ps p was, past-p.len)

  same_len : length ps' ≡ length ps
  same_len = length-set qs p out ∙ past-p.len

  nx : LeadsTo ps (entry_at ps p) (time_at ps p) (next_at ps p)
  nx = s.chained.next p was

  -- what is at a place now
  at : (r : ℕ) → ((r ≡ p) × (get_or ps' r empty_place ≡ out)) ⊎ ((r ≢ p) × (version_of (get_or ps' r empty_place) ≡ version_of (get_or ps r empty_place)) × (next_at ps' r ≡ next_at qs r) × (below_at ps' r ≡ below_at ps r))
  at r = elim (written qs p out there r) [
    | inl k ↦ inl k
    | inr k ↦ inr (k.0, ap version_of k.1 ∙ past-p.version r, ap next_of k.1, ap below_of k.1 ∙ past-p.below r)
  ]

  -- ---- the chains

  -- what led elsewhere still does
  unpassed : {d t : ℕ} {o : Option ℕ} → LeadsTo ps d t o → o ≢ Some p → LeadsTo ps' d t o
  unpassed k ne = carried k (λ q x w. let at_q = at q in let z : q ≢ p = λ y. ne (rw (← y) x) in ((grind arith, grind arith), grind arith)) (λ r a l. let at_r = at r in ((grind arith, grind arith), grind arith))

  passed : {d t : ℕ} {o o' : Option ℕ} → LeadsTo ps d t o → Passed ps p o o' → LeadsTo ps' d t o'
  passed k (inl x) = rw x.1 (unpassed k x.0)
  passed {d} {t} k (inr x) =
      let e : entry_at ps p ≡ d = (k.of p x.0).1 in
      let top = ap (time_or_zero ps) x.0 in
      let on = unpassed nx (λ y. omega (arith, nx.below, ap (time_or_zero ps) y)) in
      rw x.1 (record {
        of = λ q y. let l = on.of q y in (l.0, l.1 ∙ e);
        below = omega (arith, on.below, k.below);
        newest = λ r a l. let at_r = at r in let old = k.newest r in let once = s.chained.once r p in let older = on.newest r in grind arith;
      })

  next : (a : ℕ) → 0 < time_at ps' a → LeadsTo ps' (entry_at ps' a) (time_at ps' a) (next_at ps' a)
  next a l = elim (at a) [
    | inl k ↦ absurd (omega (arith, ap (λ (x : Place). (version_of x).time) k.1))
    | inr k ↦ (
        let m : 0 < time_at ps a = omega (arith, ap (λ (v : Version). v.time) k.1) in
        subst (λ (v : Version). LeadsTo ps' v.entry v.time (next_at ps' a)) (sym k.1) (rw k.2 (passed (s.chained.next a m) (past-p.held a m)))
        )
  ]

  chained : Chained ps' hs'
  chained = record {
    entries = λ r l. let at_r = at r in let old = s.chained.entries r in grind arith;
    times = λ r. let at_r = at r in let old = s.chained.times r in grind arith;
    once = λ a b l x y. let at_a = at a in let at_b = at b in let old = s.chained.once a b in grind arith;
    next = next;
    head = λ d l. passed (s.chained.head d l) (past-p.heads d l);
    heads = past-p.heads_len ∙ s.chained.heads;
  }

  -- ---- the free places

  -- a free place is p, or was free and leads where it led
  free : (a k : ℕ) → Free ps' a k → ((a ≡ p) × (k ≡ n) × (next_at ps' a ≡ f)) ⊎ (Free ps a k × (next_at ps' a ≡ next_at ps a))
  free a k o = elim (at a) [
    | inl x ↦ inl (x.0, cc (ap below_of x.1, o.1), ap next_of x.1)
    | inr x ↦ (let b = sym x.3 ∙ o.1 in inr ((omega (arith, o.0, same_len), b), x.2 ∙ past-p.free a (free_time (get_or ps a empty_place) k b)))
  ]

  still : {k : ℕ} {o : Option ℕ} → LeadsFree ps k o → LeadsFree ps' k o
  still l = record {
    some = λ q x. let at_q = at q in let old = l.some q x in let held = was in let len = same_len in ((grind arith, grind arith), grind arith);
    none = l.none;
  }

  freed : Freed ps' (Some p) (n + 1)
  freed = record {
    first = record {
      some = λ q x. let at_q = at q in let in_p = there in let len = length-set qs p out in ((grind arith, grind arith), grind arith);
      none = λ x. cc;
    };
    next = λ a k o. elim (free a k o) [ inl x ↦ rw (x.2, x.1) (still s.freed.first) | inr x ↦ rw x.1 (still (s.freed.next a k x.0)) ];
    under = λ a k o. elim (free a k o) [ inl x ↦ omega (arith, x.1) | inr x ↦ omega (arith, s.freed.under a k x.0) ];
    once = λ a b k o y. let at_a = free a k o in let at_b = free b k y in let under_a = s.freed.under a k in let under_b = s.freed.under b k in let old = s.freed.once a b k in grind arith;
  }

  -- ---- the whole

  pub cut_kept : kept_in ps' ≡ without (kept_in ps) (entry_at ps p) (time_at ps p)
  cut_kept =
      same_set _ _ (entry_at ps p) (time_at ps p)
      (none_kept ps' (entry_at ps p) (time_at ps p) (λ r o w. let at_r = at r in let once = s.chained.once r p in grind arith)
      ∙ sym (without_here (kept_in ps) (entry_at ps p) (time_at ps p)))
      (λ d u ne.
      set_of-alike version_of empty_place ps ps' d u same_len
      (λ r. elim (at r) [
        | inl k ↦ ap (λ (x : Place). holds (version_of x) d u) k.1 ∙ holds_not (version_of out) d u (λ l x y. omega arith) ∙ sym (rw k.0 (holds_not (version_of (get_or ps p empty_place)) d u (λ l x y. ne (sym x) (sym y))))
        | inr k ↦ ap (λ (v : Version). holds v d u) k.1
      ])
      ∙ sym (without_other (kept_in ps) (entry_at ps p) (time_at ps p) d u ne))

  pub cut_sound : Sound ps' hs' (Some p) (n + 1) (h - 1)
  cut_sound = record {
    chained = chained;
    freed = freed;
    counted = omega (arith, less_by s p was, ap held_in cut_kept);
    total = omega (arith, same_len, s.total, less_by s p was);
  }

-- ---- the same in a keeper: x is the place p as it was read, which a walk has come to

module _ (k : Linked) {e t : ℕ} {b a : Option ℕ} (w : Walked (linked_used k) k.heads e t b a) {p : ℕ} (is : a ≡ Some p) {x : Place} (read : x ≡ get_or (linked_used k) p empty_place) where
  time_is : (version_of x).time ≡ t → time_at (linked_used k) p ≡ t
  time_is at = ap (λ (y : Place). (version_of y).time) (sym read) ∙ at

  -- in qs, what led to p leads on, and so does what led to it in the places that are used
  pub out_used : {qs : List Place} → qs ≡ led_places (linked_memory k) b (next_of x) → used_places qs ≡ led_places (linked_used k) b (next_of x)
  out_used is-led = rw is-led (used_led (linked_memory k) b (next_of x) (λ q so. in_places (linked_used k) q (w.later q so).0.0))

  -- and y is written there
  pub out_set : {qs : List Place} → qs ≡ led_places (linked_memory k) b (next_of x) → (y : Place) → used_places (set qs p y) ≡ set (used_places qs) p y
  out_set {qs} is-led y = used_set qs p y (rw (out_used is-led) (omega (arith, led_len (linked_used k) b (next_of x), in_places (linked_used k) p (w.of p is).0)))

  -- nothing is written behind them
  pub out_rest : {qs : List Place} → qs ≡ led_places (linked_memory k) b (next_of x) → (y : Place) → drop MOST_PLACES (set qs p y) ≡ linked_rest k
  out_rest {qs} is-led y =
      drop-set-lt MOST_PLACES qs p y (omega (arith, few k, in_places (linked_used k) p (w.of p is).0))
      ∙ rw is-led (led_rest (linked_memory k) b (next_of x) (λ q so. omega (arith, few k, in_places (linked_used k) q (w.later q so).0.0)))

  pub out_found : (version_of x).time ≡ t → is_some (linked_kept k e t) ≡ true
  out_found at = subst (λ (u : ℕ). is_some (linked_kept k e u) ≡ true) (time_is at) (ap is_some (kept_at k.sound.chained e p (w.of p is)))

  -- in qs, what led to p leads on
  module _ {qs : List Place} {gs : List (Option ℕ)} (le : e < ENTRIES) (qs-is : qs ≡ led_places (linked_used k) b (next_of x)) (gs-is : gs ≡ led_heads k.heads e b (next_of x)) where
    past-p : LedPast (linked_used k) qs k.heads gs p
    past-p = rw (qs-is, gs-is, read) (past k.sound.chained p le b (subst (Walked (linked_used k) k.heads e t b) is w))

    pub out_means : (version_of x).time ≡ t → holding (linked_places k) (kept_in (set qs p (free_place k.free.first k.free.count))) ≡ removed (linked_means k) e t
    out_means at = ap (holding (linked_places k)) (cut_kept k.sound p (w.of p is).0 past-p ∙ ap₂ (λ (d u : ℕ). without (linked_kept k) d u) (w.of p is).1 (time_is at))

    pub out_sound : Sound (set qs p (free_place k.free.first k.free.count)) gs (Some p) (k.free.count + 1) (k.held - 1)
    out_sound = cut_sound k.sound p (w.of p is).0 past-p
