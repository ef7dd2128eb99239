use Rattle.std.proofs.Common.{◌≡◌, ℕ, None, List, ◌∷◌, ◌++◌, sym, ap, ◌∙◌, rules}
use Rattle.cards.specs.Cards.{map_of, Fits}
use Rattle.packed.specs.Packed.{packed, unpack_refusal}
use Rattle.cards.specs.declared.card.Card.{Card}
use Rattle.packed.proofs.Buffers.{joined_front}
use Rattle.packed.proofs.Fields.{packed_is, packed_one, map_read, unreadable}
use Rattle.packed.proofs.packing.unpack.Goals as goal

pub returns-then-map-ge-MAPS-clause-declined : goal.returns-then-map-ge-MAPS-clause-declined
returns-then-map-ge-MAPS-clause-declined c = unreadable _ _ (search rules)

pub returns-then-bytes-length_of-clause-declined : goal.returns-then-bytes-length_of-clause-declined
returns-then-bytes-length_of-clause-declined c = unreadable _ _ (search rules)

pub returns-clause-card : goal.returns-clause-card
returns-clause-card c =
    let x = c.in_ok-map.field-0-0.now in
    let fields = c.in_ok-map.fields.now in
    let rest = c.take_field-kern.result.1.now in
    let whole : c.args.bytes.now ≡ x ∷ fields = search rules in
    let none : unpack_refusal c.args.bytes.now ≡ None = search rules in
    let card : Card = record { advance = c.take_field-advance.result.0; left_bearing = c.take_field-left_bearing.result.0; anchor_across = c.take_field-anchor_across.result.0; anchor_up = c.take_field-anchor_up.result.0; mark_class = c.take_field-mark_class.result.0; kern = c.take_field-kern.result.0 } in
    let m : x ≡ map_of card = map_read _ _ _ _ _ _ x c.if-map-ge-MAPS.false c.take_field-advance.ensures.there c.take_field-left_bearing.ensures.there c.take_field-anchor_across.ensures.there c.take_field-anchor_up.ensures.there c.take_field-mark_class.ensures.there c.take_field-kern.ensures.there in
    let j = joined_front rest _ _ _ _ _ _ c.take_field-advance.ensures.parts c.take_field-left_bearing.ensures.parts c.take_field-anchor_across.ensures.parts c.take_field-anchor_up.ensures.parts c.take_field-mark_class.ensures.parts c.take_field-kern.ensures.parts in
    let read : c.args.bytes.now ≡ packed card ++ rest = whole ∙ ap (λ (y : ℕ). y ∷ fields) m ∙ ap (λ (ys : List ℕ). map_of card ∷ ys) j ∙ ap (λ (ys : List ℕ). ys ++ rest) (sym (packed_is card)) in
    let fits : Fits card = (c.take_field-advance.ensures.fit, c.take_field-left_bearing.ensures.fit, c.take_field-anchor_across.ensures.fit, c.take_field-anchor_up.ensures.fit, c.take_field-mark_class.ensures.fit, c.take_field-kern.ensures.fit) in
    (none, read, λ other follow fit e. packed_one card other rest follow fits fit (sym read ∙ e))
