-- A packed card by its fields, and that it is known by its bytes.
use Rattle.std.proofs.Common.{◌≡◌, ℕ, ◌+◌, ◌*◌, ◌/◌, ◌%◌, ◌<◌, ◌≤◌, eqb, List, [], ◌∷◌, ◌++◌, length, get_or, drop, ℤ, pos, negsuc, is_some, Some, None, Option, sym, refl, ap, ap₂, map, ◌∙◌, arith, w16, SFits, to_z, of_z}
use Rattle.std.proofs.lemmas.Bool.Decides.{nat_tests}
use Rattle.std.proofs.lemmas.List.{append_assoc, length-append}
use Rattle.std.proofs.lemmas.Int.{to_z-of_z, of_z-to_z}
use Rattle.std.proofs.lemmas.Bool.{true≢false, false≢true}
use Rattle.cards.specs.Cards.{bit, blank_card, map_of, numbers, value, Fit, Fits}
use Rattle.cards.proofs.Somes.{some≢none}
use Rattle.packed.specs.Packed.{standing, packed, bits_set, field_bytes, unpack_refusal, Unreadable}
use Rattle.cards.specs.declared.card.Card.{Card}
use Rattle.cards.specs.declared.refusal.Refusal.{Refusal}

-- ---- the bits of a card

-- a bit's value is that of the lowest bit, times its weight
bit_value : (f : Option ℤ) (v : ℕ) → bit f v ≡ bit f 1 * v
bit_value f v = grind arith

bit_small : (f : Option ℤ) → bit f 1 ≤ 1
bit_small f = grind arith

bit_some : (f g : Option ℤ) → bit f 1 ≡ bit g 1 → is_some f ≡ is_some g
bit_some f g e = grind arith

abbrev pub fields : Card → List (Option ℤ)
fields c = c.advance ∷ c.left_bearing ∷ c.anchor_across ∷ c.anchor_up ∷ c.mark_class ∷ c.kern ∷ []

-- the map of a list of fields, the lowest bit for the first
abbrev map_from : List (Option ℤ) → ℕ
map_from [] = 0
map_from (f ∷ fs) = bit f 1 + 2 * map_from fs

map_is : (c : Card) → map_of c ≡ map_from (fields c)
map_is c = omega (arith, bit_value c.left_bearing 2, bit_value c.anchor_across 4, bit_value c.anchor_up 8, bit_value c.mark_class 16, bit_value c.kern 32)

map_below : (c : Card) → map_of c < 64
map_below c = omega (arith, map_is c, bit_small c.advance, bit_small c.left_bearing, bit_small c.anchor_across, bit_small c.anchor_up, bit_small c.mark_class, bit_small c.kern)

-- ---- the packed form by fields

standing_front : (f : Option ℤ) (m n : ℕ) (zs : List ℤ) → n ≡ bit f 1 + 2 * m → standing n (value f ∷ zs) ≡ field_bytes f ++ standing m zs
unfolding standing
standing_front f m n zs e = let half : n / 2 ≡ m = omega (arith, bit_small f) in rw half (grind (arith, nat_tests))

-- the bytes of a list of fields
abbrev pub bytes_of : List (Option ℤ) → List ℕ
bytes_of [] = []
bytes_of (f ∷ fs) = field_bytes f ++ bytes_of fs

standing_is : (fs : List (Option ℤ)) → standing (map_from fs) (map value fs) ≡ bytes_of fs
unfolding standing
standing_is [] = refl
standing_is (f ∷ fs) = standing_front f (map_from fs) _ (map value fs) refl ∙ ap (λ (bs : List ℕ). field_bytes f ++ bs) (standing_is fs)

pub packed_is : (c : Card) → packed c ≡ map_of c ∷ bytes_of (fields c)
unfolding packed
packed_is c = ap (λ (bs : List ℕ). map_of c ∷ bs) (ap (λ (m : ℕ). standing m (numbers c)) (map_is c) ∙ standing_is (fields c))

-- ---- the length

field_length : (f : Option ℤ) → length (field_bytes f) ≡ 2 * bit f 1
field_length f = grind arith

pub packed_sum : (c : Card) → length (packed c) ≡ 1 + length (field_bytes c.advance) + length (field_bytes c.left_bearing) + length (field_bytes c.anchor_across) + length (field_bytes c.anchor_up) + length (field_bytes c.mark_class) + length (field_bytes c.kern)
packed_sum c = ap length (packed_is c) ∙ simp length-append (omega arith)

bits_are : (a b c d e f : Option ℤ) → bits_set (map_from (a ∷ b ∷ c ∷ d ∷ e ∷ f ∷ [])) ≡ bit a 1 + bit b 1 + bit c 1 + bit d 1 + bit e 1 + bit f 1
bits_are a b c d e f = omega (arith, bit_small a, bit_small b, bit_small c, bit_small d, bit_small e, bit_small f)

pub packed_length : (c : Card) → length (packed c) ≡ 1 + 2 * bits_set (map_of c)
packed_length c =
    let bits = bits_are c.advance c.left_bearing c.anchor_across c.anchor_up c.mark_class c.kern in
    omega (arith, packed_sum c, ap bits_set (map_is c), bits, field_length c.advance, field_length c.left_bearing, field_length c.anchor_across, field_length c.anchor_up, field_length c.mark_class, field_length c.kern)

-- ---- reading

-- two bytes are the field that they spell, and the rest
pub two_read : (bs : List ℕ) (z : ℤ) → 2 ≤ length bs → get_or bs 0 0 < 256 → get_or bs 1 0 < 256 → z ≡ to_z w16 (get_or bs 0 0 * 256 + get_or bs 1 0) → bs ≡ field_bytes (Some z) ++ drop 2 bs
two_read [] z n h l e = absurd (omega arith)
two_read (a ∷ []) z n h l e = absurd (omega arith)
two_read (a ∷ b ∷ bs) z n h l e =
    let o : of_z w16 z ≡ a * 256 + b = ap (of_z w16) e ∙ of_z-to_z w16 (a * 256 + b) (omega arith) in
    let p : of_z w16 z / 256 % 256 ≡ a = omega arith in
    let q : of_z w16 z % 256 ≡ b = omega arith in
    rw (p, q)

-- a field that is there if its bit x is 1
bit_read : (f : Option ℤ) (v x : ℕ) → x < 2 → is_some f ≡ eqb x 1 → bit f v ≡ x * v
bit_read f v x l e = grind (arith, nat_tests)

-- six fields that are there by the bits of a map have that map
pub map_read : (a b c d e f : Option ℤ) (m : ℕ) → m < 64 → is_some a ≡ eqb (m % 2) 1 → is_some b ≡ eqb (m / 2 % 2) 1 → is_some c ≡ eqb (m / 4 % 2) 1 → is_some d ≡ eqb (m / 8 % 2) 1 → is_some e ≡ eqb (m / 16 % 2) 1 → is_some f ≡ eqb (m / 32 % 2) 1 → m ≡ bit a 1 + bit b 2 + bit c 4 + bit d 8 + bit e 16 + bit f 32
map_read a b c d e f m l h₁ h₂ h₃ h₄ h₅ h₆ =
    omega (arith, bit_read a 1 (m % 2) (omega arith) h₁, bit_read b 2 (m / 2 % 2) (omega arith) h₂, bit_read c 4 (m / 4 % 2) (omega arith) h₃, bit_read d 8 (m / 8 % 2) (omega arith) h₄, bit_read e 16 (m / 16 % 2) (omega arith) h₅, bit_read f 32 (m / 32 % 2) (omega arith) h₆)

-- bytes that begin with a packed card can be read
packed_reads : (c : Card) (rest : List ℕ) → unpack_refusal (packed c ++ rest) ≡ None
packed_reads c rest = rw (packed_is c) (grind (arith, nat_tests, map_below c, length-append (bytes_of (fields c)) rest, packed_length c, ap length (packed_is c)))

-- so bytes that are declined begin with no packed card
pub unreadable : (bs : List ℕ) (r : Refusal) → unpack_refusal bs ≡ Some r → Unreadable bs r
unreadable bs r is = (is, λ d s fits e. some≢none (unpack_refusal bs) r is (rw e (packed_reads d s)))

-- ---- a card is known by its bytes

of_below : (z : ℤ) → SFits w16 z → of_z w16 z < 65536
of_below (pos n) f = omega (arith, f.sfits)
of_below (negsuc n) f = omega arith

field_one : (f g : Option ℤ) (r s : List ℕ) → is_some f ≡ is_some g → Fit f → Fit g → field_bytes f ++ r ≡ field_bytes g ++ s → (f ≡ g) × (r ≡ s)
field_one None None r s i p q e = (refl, e)
field_one None (Some y) r s i p q e = absurd (false≢true i)
field_one (Some x) None r s i p q e = absurd (true≢false i)
field_one (Some x) (Some y) r s i p q e =
    let h : of_z w16 x / 256 % 256 ≡ of_z w16 y / 256 % 256 = cc in
    let l : of_z w16 x % 256 ≡ of_z w16 y % 256 = cc in
    let o : of_z w16 x ≡ of_z w16 y = omega (arith, of_below x p, of_below y q) in
    (ap Some (sym (to_z-of_z w16 x p) ∙ ap (to_z w16) o ∙ to_z-of_z w16 y q), cc)

-- the lowest bit and the rest of two maps that are equal
lowest : (x y m n : ℕ) → x ≤ 1 → y ≤ 1 → x + 2 * m ≡ y + 2 * n → (x ≡ y) × (m ≡ n)
lowest x y m n a b e = (omega arith, omega arith)

abbrev FitEach : List (Option ℤ) → Type 0
FitEach [] = Unit {0}
FitEach (f ∷ fs) = Fit f × FitEach fs

bytes_one : (fs gs : List (Option ℤ)) (r s : List ℕ) → length fs ≡ length gs → map_from fs ≡ map_from gs → FitEach fs → FitEach gs → bytes_of fs ++ r ≡ bytes_of gs ++ s → (fs ≡ gs) × (r ≡ s)
bytes_one [] [] r s l m p q e = (refl, e)
bytes_one [] (g ∷ gs) r s l m p q e = absurd (omega arith)
bytes_one (f ∷ fs) [] r s l m p q e = absurd (omega arith)
bytes_one (f ∷ fs) (g ∷ gs) r s l m p q e =
    let (low, rest) = lowest _ _ _ _ (bit_small f) (bit_small g) m in
    let (here, more) = field_one f g (bytes_of fs ++ r) (bytes_of gs ++ s) (bit_some f g low) p.0 q.0 (simp append_assoc at e) in
    let (same, follow) = bytes_one fs gs r s (omega arith) rest p.1 q.1 more in
    (ap₂ ◌∷◌ here same, follow)

abbrev card_of : List (Option ℤ) → Card
card_of (a ∷ b ∷ c ∷ d ∷ e ∷ f ∷ []) = record { advance = a; left_bearing = b; anchor_across = c; anchor_up = d; mark_class = e; kern = f }
card_of _ = blank_card

-- whatever follows them
pub packed_one : (c d : Card) (r s : List ℕ) → Fits c → Fits d → packed c ++ r ≡ packed d ++ s → (c ≡ d) × (r ≡ s)
packed_one c d r s p q same =
    let e : map_of c ∷ (bytes_of (fields c) ++ r) ≡ map_of d ∷ (bytes_of (fields d) ++ s) = rw (packed_is c, packed_is d) at same in
    let m : map_of c ≡ map_of d = cc in
    let (fs, follow) = bytes_one (fields c) (fields d) r s refl (sym (map_is c) ∙ m ∙ map_is d) (p.0, (p.1, (p.2, (p.3, (p.4, (p.5, tt)))))) (q.0, (q.1, (q.2, (q.3, (q.4, (q.5, tt)))))) (ap (drop 1) e) in
    (ap card_of fs, follow)
