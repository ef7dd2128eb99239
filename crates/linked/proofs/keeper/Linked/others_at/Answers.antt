-- The first free place holds no version.
use Rattle.std.proofs.Common.{arith}
use Rattle.std.proofs.lemmas.List.{get_or_default}
use Rattle.linked.specs.Chain.{empty_place}
use Rattle.linked.specs.View.{linked_used}
use Rattle.linked.proofs.Edits.{held_below}
use Rattle.linked.proofs.keeper.Linked.others_at.Goals as goal

pub bounds : goal.bounds
bounds c = rw c.used.ensures (omega (arith, c.from.ensures, (c.args.self.now.sound.freed.first.some _ c.requires).0.0))

pub unreachable-requires : goal.unreachable-requires
unreachable-requires c =
    let free = (c.args.self.now.sound.freed.first.some _ c.requires).0 in
    held_below _ _ _ _ (rw (c.used.ensures, c.from.ensures) (get_or_default (linked_used c.args.self.now) c.args.p _ empty_place free.0)) c.in-Held.is free.1
