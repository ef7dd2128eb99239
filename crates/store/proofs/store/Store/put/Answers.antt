use Rattle.std.proofs.Common.{◌≡◌, ℕ, ◌+◌, ◌<◌, drop, length, None, Some, length-drop, rules, arith}
use Rattle.std.proofs.lemmas.List.{get_or_default}
use Rattle.std.specs.Prelude.{slice_get}
use Rattle.cards.specs.Holding.{with_kept, refusal_of}
use Rattle.cards.specs.Versions.{with_card}
use Rattle.rules.specs.Seat.{idle}
use Rattle.rules.specs.State.{seat}
use Rattle.rules.specs.declared.limits.TheConstants.{SEATS}
use Rattle.rules.specs.declared.stage.Stage.TheVariants as stage
use Rattle.store.specs.View.{view}
use Rattle.store.proofs.Putting.{put_granted, same_state}
use Rattle.store.proofs.store.Store.put.Goals as goal

pub returns : goal.returns
returns g c =
    let s = view g.K.Keeper.means c.args.self.now in
    let k = c.args.seat in
    let d = c.in_ok-draft.draft in
    let t = c.in-Stamped.time in
    let p = c.in-Stamped.put in
    let l : k < SEATS = search (rules, c.in_ok-seat.seat.below) in
    let at : (seat s k).stage ≡ stage.Stamped t p = search rules in
    let first : slice_get (drop p (seat s k).drafts) 0 ≡ Some d = search rules in
    let free : refusal_of s.holding d.entry t ≡ None = grind arith in
    let left = length-drop (p + 1) (seat s k).drafts in
    let granted = put_granted s k t p d l at first free in
    let kept : g.K.Keeper.means c.add.new.self ≡ with_kept s.holding (with_card s.holding.kept d.entry t d.card) = grind arith in
    let inside : c.from.result < length c.args.self.now.table.seats = search rules in
    let here = get_or_default c.args.self.now.table.seats c.from.result c.index-table-from.result idle inside in
    record { call = record { state = rw granted (same_state (search (rules, here)) c.set_row.ensures kept); answer = rw granted (grind (arith, left)); same = tt } }
