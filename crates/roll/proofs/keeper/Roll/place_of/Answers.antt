use Rattle.std.proofs.Common.{rules}
use Rattle.roll.proofs.Meanings.{placed_at}
use Rattle.roll.proofs.keeper.Roll.place_of.Goals as goal

pub returns : goal.returns
returns c = placed_at _ c.args.self.now.sound.arrived _ _ c.last_match.result _ (rw c.front-versions.ensures at c.last_match.ensures) (search rules)
