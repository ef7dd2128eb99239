-- Places that are written, and what still leads to where it led.
use Rattle.std.proofs.Common.{◌≡◌, ℕ, ◌<◌, ◌≢◌, ◌⊎◌, List, ◌++◌, length, get_or, take, drop, set, Some, None, Option, inl, inr, sym, refl, ap, ◌∙◌, arith}
use Rattle.std.proofs.lemmas.List.{get_or-set_same, get_or-set_other, get_or-take, length-set, length-append, length-drop, length-take, take_at, drop-set-lt}
use Rattle.std.proofs.lemmas.Slice.{drop-append-drop}
use Rattle.std.proofs.Math.Seq.{take-set-lt}
use Rattle.std.proofs.lemmas.Bool.{cases_eq}
use Rattle.keepers.specs.Memory.{used_of}
use Rattle.keepers.specs.declared.memory.TheConstants.{MOST_PLACES}
use Rattle.linked.specs.Chain.{empty_place, version_of, below_of, used_places, led_place, led_places, time_at, time_or_zero, OfEntry, LeadsTo}
use Rattle.linked.specs.declared.place.Place.{Place}
use Rattle.linked.specs.declared.place.Link.{Link}
use Rattle.linked.specs.declared.place.Content.TheVariants as content

-- a free place holds no version
pub free_time : (x : Place) (k : ℕ) → below_of x ≡ Some k → (version_of x).time ≡ 0
free_time x k is = grind arith

-- a place that holds a version is not free
pub held_below : (x y : Place) (l : Link) (k : ℕ) → x ≡ y → x.content ≡ content.Held l → below_of y ≡ Some k → ⊥
held_below x y l k same is below = grind arith

-- what is at the place r once x is written at the place p
abbrev pub Written : List Place → ℕ → Place → ℕ → Type 0
Written ps p x r = ((r ≡ p) × (get_or (set ps p x) r empty_place ≡ x)) ⊎ ((r ≢ p) × (get_or (set ps p x) r empty_place ≡ get_or ps r empty_place))

pub written : (ps : List Place) (p : ℕ) (x : Place) → p < length ps → (r : ℕ) → Written ps p x r
written ps p x l r = elim (cases_eq r p) [
  | inl q ↦ inl (q, rw q (get_or-set_same ps p x empty_place l))
  | inr ne ↦ inr (ne, get_or-set_other ps p r x empty_place ne)
]

-- where a place's time is as it was, the time of what leads to it is
zero_alike : (ps ps' : List Place) (o : Option ℕ) → ((q : ℕ) → o ≡ Some q → time_at ps' q ≡ time_at ps q) → time_or_zero ps' o ≡ time_or_zero ps o
zero_alike ps ps' None h = refl
zero_alike ps ps' (Some q) h = h q refl

-- what led to a place that is as it was still does, where no other version of the entry is new before the time
pub carried : {ps ps' : List Place} {d t : ℕ} {o : Option ℕ} → LeadsTo ps d t o → ((q : ℕ) → o ≡ Some q → OfEntry ps d q → OfEntry ps' d q × (time_at ps' q ≡ time_at ps q)) → ((r : ℕ) → OfEntry ps' d r → time_at ps' r < t → OfEntry ps d r × (time_at ps' r ≡ time_at ps r)) → LeadsTo ps' d t o
carried {ps} {ps'} {o = o} k kept old =
    let zeros = zero_alike ps ps' o (λ q x. (kept q x (k.of q x)).1) in
    record { of = λ q x. (kept q x (k.of q x)).0; below = omega (arith, k.below); newest = λ r a l. let w = old r a l in omega (arith, w.1, k.newest r w.0 (omega (arith, w.1))) }

-- places are as many where one leads on
pub led_len : (ps : List Place) (b n : Option ℕ) → length (led_places ps b n) ≡ length ps
led_len ps None n = refl
led_len ps (Some q) n = length-set ps q _

-- and those behind the first 65,536 are as they were, where one of those leads on
pub led_rest : (ps : List Place) (b n : Option ℕ) → ((q : ℕ) → b ≡ Some q → q < MOST_PLACES) → drop MOST_PLACES (led_places ps b n) ≡ drop MOST_PLACES ps
led_rest ps None n l = refl
led_rest ps (Some q) n l = drop-set-lt MOST_PLACES ps q _ (l q refl)

-- ---- the places of the memory that are used

module _ (ps : List Place) where
  pub used_len : length (used_places ps) ≡ used_of (length ps)
  used_len = omega (arith, length-take (used_of (length ps)) ps)

  -- a used place is in the memory, and is read as it stands there
  pub used_in : (p : ℕ) → p < length (used_places ps) → p < length ps
  used_in p l = omega (arith, used_len)

  pub used_read : (p : ℕ) → p < length (used_places ps) → get_or (used_places ps) p empty_place ≡ get_or ps p empty_place
  used_read p l = get_or-take (used_of (length ps)) ps p empty_place (omega (arith, used_len))

  -- a used place is written
  pub used_set : (p : ℕ) (x : Place) → p < length (used_places ps) → used_places (set ps p x) ≡ set (used_places ps) p x
  used_set p x l = rw (length-set ps p x) (take-set-lt (used_of (length ps)) ps p x (omega (arith, used_len)))

  -- a used place leads on
  pub used_led : (b n : Option ℕ) → ((q : ℕ) → b ≡ Some q → q < length (used_places ps)) → used_places (led_places ps b n) ≡ led_places (used_places ps) b n
  used_led None n l = refl
  used_led (Some q) n l = used_set q (led_place (get_or ps q empty_place) n) (l q refl) ∙ ap (λ (x : Place). set (used_places ps) q (led_place x n)) (sym (used_read q (l q refl)))

  -- the front of the memory, as many places as are used, is written as qs
  module _ (qs : List Place) (k : ℕ) (is : k ≡ used_of (length ps)) (len : length qs ≡ length (take k ps)) where
    count : length qs ≡ k
    count = omega (arith, len, is, length-take k ps)

    pub front_len : length (qs ++ drop k ps) ≡ length ps
    front_len = omega (arith, count, is, length-append qs (drop k ps), length-drop k ps)

    pub front_used : used_places (qs ++ drop k ps) ≡ qs
    front_used = rw (front_len, ← is) (take_at qs (drop k ps) k count)

    pub front_rest : drop MOST_PLACES (qs ++ drop k ps) ≡ drop MOST_PLACES ps
    front_rest = drop-append-drop k ps qs MOST_PLACES (omega (arith, is)) count
