-- The walk ends at the newest version up to the time, or there is none.
use Rattle.linked.proofs.Held.{bounded_in}
use Rattle.linked.proofs.Chains.{at_end, found}
use Rattle.linked.proofs.keeper.LinkedKeeper.find.Goals as goal

pub returns-in_default : goal.returns-in_default
returns-in_default c u _ = (bounded_in _ _ c.args.self.now.sound.chained).entries _ u c.in_default.ensures.0

pub returns-in_err-p : goal.returns-in_err-p
returns-in_err-p c = rw (c.from_residual.ensures, ← c.in-Ok.ensures) (at_end c.args.self.now.sound.chained c.walk.ensures.walked c.walk.ensures.until c.in_err-p.was)

pub link_at-requires : goal.link_at-requires
link_at-requires c = (c.walk.ensures.walked.of _ c.in_ok-p.was).0

pub returns : goal.returns
returns c = rw (← c.in-Ok.ensures) (found c.args.self.now.sound.chained c.walk.ensures.walked _ _ c.in_ok-p.was c.link_at.ensures c.walk.ensures.until)
