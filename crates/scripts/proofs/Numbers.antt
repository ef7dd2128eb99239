-- The numbers that words are, written and read.
use Rattle.std.proofs.Common.{◌≡◌, ◌≢◌, ℕ, zero, suc, ◌+◌, ◌-◌, ◌*◌, ◌<◌, ◌≤◌, Bool, true, false, ◌&&◌, List, [], ◌∷◌, drop, take, length, get_or, ℤ, pos, negsuc, nat_lt, nat_le, Option, None, Some, option_map, option_and_then, FitsSigned, w16, decimal, refl, sym, ap, ◌∙◌, eq-zero-or-pos, ⊎_elim, arith}
use Rattle.std.specs.Prelude.{bytes_eq, if◌then◌else◌}
use Rattle.std.specs.Fmt.{signed_decimal}
use Rattle.std.specs.Int.{IsInRange}
use Rattle.std.specs.List.{list_all}
use Rattle.std.specs.Char.{is_ascii_digit}
use Rattle.std.specs.Str.Parse.{AllDigits, IsNumeral, digits_value, starts_with_minus}
use Rattle.std.proofs.lemmas.Fmt.{decimal_is_IsNumeral, decimal_digit, first_decimal, decimal-digits_value, digits_value-decimal}
use Rattle.std.proofs.lemmas.Str.{digit_value_digit}
use Rattle.std.proofs.lemmas.Str.Parse.{IsNumeralModel, numerals_by_value, tells_digits, tells_by_index, digit_from_value, digits_value-take-le}
use Rattle.std.proofs.lemmas.Int.Digits.{digits_value_more}
use Rattle.std.proofs.lemmas.List.{take_all}
use Rattle.std.proofs.lemmas.Slice.Eq.{bytes_eq-Decides}
use Rattle.std.proofs.lemmas.Bool.{true≢false, and_parts, and_right, lt-ltb, le-leb, lt-leb, ne_eqb, leb-true, ltb-true, eqb-true}
use Rattle.std.proofs.lemmas.Option.{none-some, same_Some, cond_some}
use Rattle.scripts.specs.declared.word.TheConstants.{MOST_FIELD, MOST_BELOW}
use Rattle.scripts.specs.Words.{number, field, negative, are_digits, is_number}

-- ---- digits

as_digits : (ds : List ℕ) → list_all is_ascii_digit ds ≡ true → AllDigits 10 ds
as_digits [] e = tt
as_digits (c ∷ cs) e =
    let p = and_parts (is_ascii_digit c) (list_all is_ascii_digit cs) e in
    let r = and_parts (nat_le 48 c) (nat_le c 57) p.0 in
    let low = leb-true 48 c r.0 in
    let high = leb-true c 57 r.1 in
    (omega (arith, digit_value_digit c (low, high)), as_digits cs p.1)

all_told : (ds : List ℕ) → AllDigits 10 ds → list_all is_ascii_digit ds ≡ true
all_told [] d = refl
all_told (c ∷ cs) d = let k = digit_from_value c d.0 in rw (le-leb 48 c k.0, le-leb c 57 k.1) (all_told cs d.1)

no_minus : (ds : List ℕ) → AllDigits 10 ds → starts_with_minus ds ≡ false
no_minus [] d = refl
no_minus (c ∷ cs) d = ne_eqb c 45 (λ e. omega (arith, digit_from_value c d.0))

by_value : IsNumeralModel (AllDigits 10) (digits_value 10)
by_value = numerals_by_value (AllDigits 10) tells_digits

-- ---- a number and its decimal

module _ (n : ℕ) (small : n < 65536) where
  pub numeral : IsNumeral 10 (decimal n)
  numeral = (decimal_is_IsNumeral n (omega arith)).0

  pub bare : starts_with_minus (decimal n) ≡ false
  bare = no_minus (decimal n) numeral.1

  decimal_digits : are_digits (decimal n) ≡ true
  decimal_digits = rw (lt-ltb 0 (length (decimal n)) numeral.0, all_told (decimal n) numeral.1)

  decimal_number : is_number (decimal n) ≡ true
  decimal_number = rw (bare, decimal_digits)

  unled : 1 < length (decimal n) → get_or (decimal n) 0 0 ≢ 48
  unled long e = ⊎_elim
      (λ (zero : n ≡ 0). omega (arith, ap (λ m. length (decimal m)) zero, ap length (decimal_digit 0 (omega arith))))
      (λ (some : 0 < n). omega (arith, first_decimal n some (omega arith)))
      (eq-zero-or-pos n)

  pub number_back : (most : ℕ) → n ≤ most → number most (decimal n) ≡ Some n
  unfolding number
  number_back most le = rw (digits_value-decimal by_value n (omega arith), (bytes_eq-Decides (decimal n) (decimal n)).1 refl, le-leb n most le)

pub number_once : (most : ℕ) (w : List ℕ) (n : ℕ) → number most w ≡ Some n → (w ≡ decimal n) × (n ≤ most)
unfolding number
number_once most w n e =
    let is = cond_some (bytes_eq w (decimal (digits_value 10 w)) && nat_le (digits_value 10 w) most) (digits_value 10 w) n e in
    let t = and_parts (bytes_eq w (decimal (digits_value 10 w))) (nat_le (digits_value 10 w) most) is.0 in
    ((bytes_eq-Decides w (decimal (digits_value 10 w))).0 t.0 ∙ ap decimal is.1, omega (arith, leb-true (digits_value 10 w) most t.1, is.1))

none_unless : {A : Type 0} (o : Option A) → ((x : A) → o ≡ Some x → ⊥) → None ≡ o
none_unless None f = refl
none_unless (Some x) f = absurd (f x refl)

module _ (most : ℕ) (w : List ℕ) (small : most < 65536) where
  digitless : are_digits w ≡ false → None ≡ number most w
  digitless e = none_unless (number most w) (λ n is. let k = number_once most w n is in true≢false (sym (decimal_digits n (omega (arith, k.1))) ∙ ap are_digits (sym k.0) ∙ e))

  pub numberless : is_number w ≡ false → None ≡ number most w
  numberless e = none_unless (number most w) (λ n is. let k = number_once most w n is in true≢false (sym (decimal_number n (omega (arith, k.1))) ∙ ap is_number (sym k.0) ∙ e))

  pub signless : starts_with_minus w ≡ true → None ≡ number most w
  signless e = none_unless (number most w) (λ n is. let k = number_once most w n is in true≢false (sym e ∙ ap starts_with_minus k.0 ∙ bare n (omega (arith, k.1))))

  pub zero_led : 1 < length w → get_or w 0 0 ≡ 48 → None ≡ number most w
  zero_led long e = none_unless (number most w) (λ n is. let k = number_once most w n is in unled n (omega (arith, k.1)) (omega (arith, long, ap length k.0)) (ap (λ v. get_or v 0 0) (sym k.0) ∙ e))

-- ---- digits read one by one

module _ (ds : List ℕ) (are : are_digits ds ≡ true) where
  digits : AllDigits 10 ds
  digits = as_digits ds (and_parts (nat_lt 0 (length ds)) (list_all is_ascii_digit ds) are).1

  some : 0 < length ds
  some = ltb-true 0 (length ds) (and_parts (nat_lt 0 (length ds)) (list_all is_ascii_digit ds) are).0

  digit : (i : ℕ) → i < length ds → IsInRange 48 57 (get_or ds i 0)
  digit = (numerals_by_value _ tells_by_index).from ds digits

  pub one_digit : (i : ℕ) → i < length ds → digits_value 10 (take (i + 1) ds) ≡ digits_value 10 (take i ds) * 10 + (get_or ds i 0 - 48)
  one_digit i l = digits_value_more 10 ds i l ∙ omega (arith, digit_value_digit (get_or ds i 0) (digit i l))

  pub too_great : (most i : ℕ) → most < digits_value 10 (take i ds) → None ≡ number most ds
  unfolding number
  too_great most i l =
      let above : nat_le (digits_value 10 ds) most ≡ false = lt-leb (digits_value 10 ds) most (omega (arith, digits_value-take-le 10 ds i (omega arith))) in
      rw (above, and_right (bytes_eq ds (decimal (digits_value 10 ds))) false refl)

  pub all_read : (most i : ℕ) → most < 65536 → length ds ≤ i → digits_value 10 (take i ds) ≤ most → (get_or ds 0 0 ≡ 48 → length ds ≤ 1) → Some (digits_value 10 (take i ds)) ≡ number most ds
  all_read most i small l le lone =
      let all : take i ds ≡ ds = take_all i ds l in
      let fits : digits_value 10 ds ≤ most = omega (arith, le, ap (digits_value 10) all) in
      let same : decimal (digits_value 10 ds) ≡ ds = decimal-digits_value by_value ds digits some (λ led. omega (arith, some, lone led)) (omega arith) in
      ap (λ v. Some (digits_value 10 v)) all ∙ sym (number_back (digits_value 10 ds) (omega arith) most fits) ∙ ap (number most) same

-- ---- fields

-- no word but of a number's kind is a field
fieldless_by : (w : List ℕ) (t : Bool) → are_digits (if t then drop 1 w else w) ≡ false
    → None ≡ if t then option_and_then negative (number MOST_BELOW (drop 1 w)) else option_map pos (number MOST_FIELD w)
fieldless_by w true e = ap (option_and_then negative) (digitless MOST_BELOW (drop 1 w) (omega arith) e)
fieldless_by w false e = ap (option_map pos) (digitless MOST_FIELD w (omega arith) e)

pub fieldless : (w : List ℕ) → is_number w ≡ false → None ≡ field w
fieldless w = fieldless_by w (starts_with_minus w)

minus : (w : List ℕ) → starts_with_minus w ≡ true → w ≡ 45 ∷ drop 1 w
minus [] e = cc
minus (byte ∷ bytes) e = ap (λ b. b ∷ bytes) (eqb-true byte 45 e)

positive_once : (w : List ℕ) (o : Option ℕ) (z : ℤ) → ((n : ℕ) → o ≡ Some n → w ≡ decimal n) → option_map pos o ≡ Some z → w ≡ signed_decimal z
positive_once w None z is e = absurd (none-some z e)
positive_once w (Some n) z is e = is n refl ∙ ap signed_decimal (same_Some (pos n) z e)

negative_once : (w : List ℕ) (o : Option ℕ) (z : ℤ) → ((n : ℕ) → o ≡ Some n → w ≡ 45 ∷ decimal n) → option_and_then negative o ≡ Some z → w ≡ signed_decimal z
negative_once w None z is e = absurd (none-some z e)
negative_once w (Some zero) z is e = absurd (none-some z e)
negative_once w (Some (suc n)) z is e = is (suc n) refl ∙ ap signed_decimal (same_Some (negsuc n) z e)

field_once_by : (w : List ℕ) (z : ℤ) (t : Bool) → starts_with_minus w ≡ t
    → if t then option_and_then negative (number MOST_BELOW (drop 1 w)) else option_map pos (number MOST_FIELD w) ≡ Some z → w ≡ signed_decimal z
field_once_by w z true sign = negative_once w _ z (λ n is. minus w sign ∙ ap (λ ds. 45 ∷ ds) (number_once MOST_BELOW (drop 1 w) n is).0)
field_once_by w z false sign = positive_once w _ z (λ n is. (number_once MOST_FIELD w n is).0)

pub field_once : (w : List ℕ) (z : ℤ) → field w ≡ Some z → w ≡ signed_decimal z
field_once w z = field_once_by w z (starts_with_minus w) refl

pub field_back : (z : ℤ) → FitsSigned w16 z → field (signed_decimal z) ≡ Some z
field_back (pos n) h = rw (bare n (omega (arith, h.sfits)), number_back n (omega (arith, h.sfits)) MOST_FIELD (omega (arith, h.sfits)))
field_back (negsuc n) h = rw (number_back (suc n) (omega (arith, h.sfits)) MOST_BELOW (omega (arith, h.sfits)))

pub ruleset kinds = (numberless, signless, fieldless)
