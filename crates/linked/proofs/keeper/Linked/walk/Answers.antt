-- Each step of a walk stays in the chain and comes to an older version.
use Rattle.std.proofs.Common.{arith}
use Rattle.linked.proofs.Chains.{begun, step, falls}
use Rattle.linked.proofs.keeper.Linked.walk.Goals as goal

pub loop-reached-init : goal.loop-reached-init
loop-reached-init c = rw c.from.ensures (begun c.args.self.now.sound.chained _ _ c.args.entry.below)

pub link_in-link-requires : goal.link_in-link-requires
link_in-link-requires c = rw c.used-places.ensures (c.loop-reached.invariant.of _ c.in-Some.is).0

pub loop-reached-smaller : goal.loop-reached-smaller
loop-reached-smaller c = falls c.args.self.now.sound.chained c.loop-reached.invariant _ _ c.in-Some.is (rw c.used-places.ensures at c.link_in-link.ensures)

pub loop-reached-preserved : goal.loop-reached-preserved
loop-reached-preserved c = step c.args.self.now.sound.chained c.loop-reached.invariant _ _ c.in-Some.is (rw c.used-places.ensures at c.link_in-link.ensures) (omega arith)
