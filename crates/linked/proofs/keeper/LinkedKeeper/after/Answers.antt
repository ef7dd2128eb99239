-- The place before the end of the walk has the least time above, or there is none.
use Rattle.linked.proofs.Held.{bounded_in}
use Rattle.linked.proofs.Chains.{follows_some, follows_none}
use Rattle.linked.proofs.keeper.LinkedKeeper.after.Goals as goal

pub returns-in_default : goal.returns-in_default
returns-in_default c u _ = (bounded_in _ _ c.args.self.now.sound.chained).entries _ u c.in_default.ensures.0

pub returns-in_err-p : goal.returns-in_err-p
returns-in_err-p c = rw (c.from_residual.ensures, ← c.in-Ok.ensures) (follows_none c.args.self.now.sound.chained c.walk.ensures.walked c.walk.ensures.until c.in_err-p.was c.in-Ok.entry.below)

pub link_at-requires : goal.link_at-requires
link_at-requires c = (c.walk.ensures.walked.later _ c.in_ok-p.was).0.0

pub returns : goal.returns
returns c = rw (← c.in-Ok.ensures) (follows_some c.args.self.now.sound.chained c.walk.ensures.walked c.walk.ensures.until _ _ c.in_ok-p.was c.link_at.ensures)
