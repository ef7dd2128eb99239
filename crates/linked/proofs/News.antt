-- Memory made free: each place leads to the one before it, and no entry has a version.
use Rattle.std.proofs.Common.{◌≡◌, ℕ, zero, suc, ◌≤◌, List, length, get_or, replicate, None, Option, sym, refl, ap, ◌∙◌, inl, inr, arith}
use Rattle.std.proofs.lemmas.List.{get_or_past, get_or-replicate, length-replicate}
use Rattle.std.proofs.lemmas.Bool.{cases_lt}
use Rattle.cards.specs.Versions.{Empty}
use Rattle.cards.specs.declared.entry.TheConstants.{ENTRIES}
use Rattle.cards.proofs.Counts.{held_none}
use Rattle.linked.specs.Chain.{empty_place, version_of, next_of, below_of, kept_in, time_at, OfEntry, Free, LeadsFree, Sound, before, AllFree}
use Rattle.linked.proofs.Held.{none_kept}
use Rattle.linked.specs.declared.place.Place.{Place}

module _ (ps : List Place) (all : AllFree ps (length ps)) where
  time_none : (p : ℕ) → time_at ps p ≡ 0
  time_none p = elim (cases_lt p (length ps)) [ inl l ↦ ap (λ (x : Place). (version_of x).time) (all p l) | inr ge ↦ ap (λ (x : Place). (version_of x).time) (get_or_past ps p empty_place ge) ]

  not_of : (e r : ℕ) → OfEntry ps e r → ⊥
  not_of e r o = omega (arith, time_none r, o.0)

  pub none_new : Empty (kept_in ps)
  none_new e t = none_kept ps e t (λ r o _. not_of e r o)

  no_head : (e : ℕ) → get_or (replicate {A = Option ℕ} ENTRIES None) e None ≡ None
  no_head e = elim (cases_lt e ENTRIES) [ inl l ↦ get_or-replicate ENTRIES e None None l | inr ge ↦ get_or_past (replicate ENTRIES None) e None ge ]

  -- a place's number is how many come after it
  below_is : (p k : ℕ) → Free ps p k → k ≡ p
  below_is p k o = let is = ap below_of (all p o.0) in cc (o.1)

  leads : (k : ℕ) → k ≤ length ps → LeadsFree ps k (before k)
  leads zero l = record { some = λ q x. cc; none = λ _. refl }
  leads (suc k) l = record {
    some = λ q x. let below = ap below_of (all k (omega arith)) in ((grind arith, grind arith), omega arith);
    none = λ x. cc;
  }

  -- n is how many places there were before
  pub new_sound : {f : Option ℕ} {k n : ℕ} → length ps ≡ n → f ≡ before n → k ≡ n → Sound ps (replicate ENTRIES None) f k 0
  new_sound {n = n} len first count = rw (first, count) (record {
    chained = record {
      entries = λ p l. absurd (omega (arith, time_none p));
      times = λ p. omega (arith, time_none p);
      once = λ p q l. absurd (omega (arith, time_none p));
      next = λ p l. absurd (omega (arith, time_none p));
      head = λ e _. rw (no_head e) (record { of = λ q x. cc; below = omega arith; newest = λ r o. absurd (not_of e r o) });
      heads = length-replicate {A = Option ℕ} ENTRIES None;
    };
    freed = record {
      first = leads n (omega arith);
      next = λ p k o. rw (below_is p k o, ap next_of (all p o.0)) (leads p (omega (arith, o.0)));
      under = λ p k o. omega (arith, below_is p k o, o.0);
      once = λ p q k o w. sym (below_is p k o) ∙ below_is q k w;
    };
    counted = sym (held_none (kept_in ps) none_new);
    total = omega arith;
  })
