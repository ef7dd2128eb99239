use Rattle.roll.proofs.Adds.{rolled_more}
use Rattle.roll.proofs.keeper.Roll.push.Goals as goal

pub invariant_of-self : goal.invariant_of-self
invariant_of-self c = record { sound = rolled_more _ _ _ c.args.self.now.sound c.requires.spare c.requires.proper c.requires.late }
