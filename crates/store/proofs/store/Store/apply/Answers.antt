use Rattle.rules.proofs.Runs.{reached_step}
use Rattle.store.proofs.store.Store.apply.Goals as goal

pub returns-clause-law : goal.returns-clause-law
returns-clause-law g c = λ h r. reached_step h _ _ c.args.call c.make.result c.make.ensures.call.state c.make.ensures.call.answer r
