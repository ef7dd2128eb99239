use Rattle.std.proofs.Common.{rules}
use Rattle.keepers.proofs.Verdicts.{takes}
use Rattle.roll.specs.View.{roll_front, roll_kept, roll_places}
use Rattle.roll.proofs.Adds.{kept_more}
use Rattle.roll.proofs.keeper.RollKeeper.add.Goals as goal

pub returns-clause-means : goal.returns-clause-means
returns-clause-means c =
    let s = c.args.self.now in
    let v = c.args.version in
    rw (c.push.ensures.places, c.push.ensures.front, kept_more (roll_front s) s.sound.arrived v (search rules) (search rules), takes (roll_places s) (roll_kept s) v (search rules) (search rules) (search rules))
