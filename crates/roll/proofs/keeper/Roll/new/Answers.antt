use Rattle.roll.proofs.Adds.{rolled_none}
use Rattle.roll.proofs.keeper.Roll.new.Goals as goal

pub invariant_of-result : goal.invariant_of-result
invariant_of-result c = record { sound = rolled_none _ }
