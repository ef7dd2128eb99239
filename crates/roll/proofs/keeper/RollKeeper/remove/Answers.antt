use Rattle.roll.specs.View.{roll_front}
use Rattle.roll.proofs.Gaps.{kept_less}
use Rattle.roll.proofs.keeper.RollKeeper.remove.Goals as goal

pub returns-clause-means : goal.returns-clause-means
returns-clause-means c =
    let s = c.args.self.now in
    let (inn, entry, time, _) = c.in-Some.ensures in
    let less = rw (entry, time) at (kept_less (roll_front s) s.sound.arrived c.in-Some.at inn) in
    rw (c.take_out.ensures.places, c.take_out.ensures.front, less)
