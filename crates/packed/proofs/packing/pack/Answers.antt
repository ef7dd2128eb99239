use Rattle.std.proofs.Common.{◌≡◌, ℕ, ◌+◌, ◌*◌, ◌<◌, false, List, [], ◌∷◌, ◌++◌, length, take, drop, set, sym, ap, ◌∙◌, arith}
use Rattle.std.proofs.lemmas.List.{take_more_set, drop-set-lt, take-append-drop}
use Rattle.std.proofs.lemmas.Bool.{le-ltb}
use Rattle.cards.specs.Cards.{map_of}
use Rattle.packed.specs.Packed.{packed, bits_set, too_short}
use Rattle.packed.proofs.Buffers.{joined_back}
use Rattle.packed.proofs.Fields.{packed_is, packed_sum, packed_length}
use Rattle.packed.proofs.packing.pack.Goals as goal

pub returns : goal.returns
returns c =
    let xs = c.args.out.now in
    let card = c.args.card in
    let n = c.put_field-at-6.result in
    let out = c.put_field-at-6.new.out in
    let len : n ≡ length (packed card) = omega (arith, packed_sum card) in
    let room : too_short card (length xs) ≡ false = le-ltb _ _ (omega (arith, packed_length card, ap (λ (m : ℕ). 1 + 2 * bits_set m) c.map-map.ensures.value)) in
    let some : 0 < length xs = omega arith in
    let first : take 1 (set xs 0 c.map-map.result) ≡ map_of card ∷ [] = take_more_set xs 0 _ some ∙ ap (λ (m : ℕ). m ∷ []) c.map-map.ensures.value in
    let front : take n out ≡ packed card = joined_back _ _ _ _ _ _ c.put_field-at-6.ensures.front c.put_field-at-5.ensures.front c.put_field-at-4.ensures.front c.put_field-at-3.ensures.front c.put_field-at-2.ensures.front c.put_field-at.ensures.front first ∙ sym (packed_is card) in
    let rest : drop n out ≡ drop n xs = c.put_field-at-6.ensures.rest n (omega arith) ∙ c.put_field-at-5.ensures.rest n (omega arith) ∙ c.put_field-at-4.ensures.rest n (omega arith) ∙ c.put_field-at-3.ensures.rest n (omega arith) ∙ c.put_field-at-2.ensures.rest n (omega arith) ∙ c.put_field-at.ensures.rest n (omega arith) ∙ drop-set-lt n xs 0 _ (omega arith) in
    record {
      answer = rw (room, len);
      buffer = rw room (sym (take-append-drop n out) ∙ ap (λ (ys : List ℕ). ys ++ drop n out) front ∙ ap (λ (ys : List ℕ). packed card ++ ys) (rest ∙ ap (λ (k : ℕ). drop k xs) len));
    }
