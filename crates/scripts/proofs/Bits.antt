-- The bits of a card's map, and what they add up to.
use Rattle.std.proofs.Common.{◌≡◌, ℕ, ◌+◌, ◌*◌, ◌/◌, ◌%◌, ◌≤◌, ℤ, is_some, Option, Some, None, sym, arith}
use Rattle.std.proofs.lemmas.Bool.{eqb-true, eqb-false}
use Rattle.cards.specs.Cards.{bit, map_of}
use Rattle.cards.specs.declared.card.Card.{Card}
use Rattle.scripts.specs.Lines.{bit_of}

bit_worth : (o : Option ℤ) (worth : ℕ) → bit o worth ≡ worth * bit o 1
bit_worth None worth = omega arith
bit_worth (Some z) worth = omega arith

pub map_sum : (c : Card) → map_of c ≡ bit c.advance 1 + 2 * bit c.left_bearing 1 + 4 * bit c.anchor_across 1 + 8 * bit c.anchor_up 1 + 16 * bit c.mark_class 1 + 32 * bit c.kern 1
map_sum c = omega (arith, bit_worth c.left_bearing 2, bit_worth c.anchor_across 4, bit_worth c.anchor_up 8, bit_worth c.mark_class 16, bit_worth c.kern 32)

-- ---- a card's bits stand in its map

bit_small : (o : Option ℤ) → bit o 1 ≤ 1
bit_small None = omega arith
bit_small (Some z) = omega arith

stands : (o : Option ℤ) (map worth : ℕ) → map / worth % 2 ≡ bit o 1 → bit_of map worth ≡ is_some o
stands None map worth e = rw e
stands (Some z) map worth e = rw e

-- six bits are found again in what they add up to
six_bits : (a b c d e f map : ℕ) → a ≤ 1 → b ≤ 1 → c ≤ 1 → d ≤ 1 → e ≤ 1 → f ≤ 1 → map ≡ a + 2 * b + 4 * c + 8 * d + 16 * e + 32 * f
    → (map / 1 % 2 ≡ a) × (map / 2 % 2 ≡ b) × (map / 4 % 2 ≡ c) × (map / 8 % 2 ≡ d) × (map / 16 % 2 ≡ e) × (map / 32 % 2 ≡ f) × (map ≤ 63)
six_bits a b c d e f map p q r s t u is = (omega arith, omega arith, omega arith, omega arith, omega arith, omega arith, omega arith)

-- which fields of a card its map tells to be there
pub record Told (c : Card) : Type 0 where
  pub advance : bit_of (map_of c) 1 ≡ is_some c.advance
  pub left_bearing : bit_of (map_of c) 2 ≡ is_some c.left_bearing
  pub anchor_across : bit_of (map_of c) 4 ≡ is_some c.anchor_across
  pub anchor_up : bit_of (map_of c) 8 ≡ is_some c.anchor_up
  pub mark_class : bit_of (map_of c) 16 ≡ is_some c.mark_class
  pub kern : bit_of (map_of c) 32 ≡ is_some c.kern
  pub small : map_of c ≤ 63

pub map_told : (c : Card) → Told c
map_told c =
    let m : ℕ = map_of c in
    let b = six_bits _ _ _ _ _ _ m (bit_small c.advance) (bit_small c.left_bearing) (bit_small c.anchor_across) (bit_small c.anchor_up) (bit_small c.mark_class) (bit_small c.kern) (map_sum c) in
    record { advance = stands c.advance m 1 b.0; left_bearing = stands c.left_bearing m 2 b.1; anchor_across = stands c.anchor_across m 4 b.2; anchor_up = stands c.anchor_up m 8 b.3; mark_class = stands c.mark_class m 16 b.4; kern = stands c.kern m 32 b.5; small = b.6 }

-- ---- a map of six bits is what they add up to

bit_told : (o : Option ℤ) (map worth : ℕ) → bit_of map worth ≡ is_some o → bit o 1 ≡ map / worth % 2
bit_told None map worth e = omega (arith, eqb-false (map / worth % 2) 1 e)
bit_told (Some z) map worth e = sym (eqb-true (map / worth % 2) 1 e)

sum_of : (map : ℕ) → map ≤ 63 → map ≡ map / 1 % 2 + 2 * (map / 2 % 2) + 4 * (map / 4 % 2) + 8 * (map / 8 % 2) + 16 * (map / 16 % 2) + 32 * (map / 32 % 2)
sum_of map small = omega arith

pub map_from_told : (map : ℕ) (c : Card) → map ≤ 63 → bit_of map 1 ≡ is_some c.advance → bit_of map 2 ≡ is_some c.left_bearing → bit_of map 4 ≡ is_some c.anchor_across
    → bit_of map 8 ≡ is_some c.anchor_up → bit_of map 16 ≡ is_some c.mark_class → bit_of map 32 ≡ is_some c.kern → map_of c ≡ map
map_from_told map c small a b d e f g =
    omega (arith, sum_of map small, map_sum c, bit_told c.advance map 1 a, bit_told c.left_bearing map 2 b, bit_told c.anchor_across map 4 d, bit_told c.anchor_up map 8 e, bit_told c.mark_class map 16 f, bit_told c.kern map 32 g)
