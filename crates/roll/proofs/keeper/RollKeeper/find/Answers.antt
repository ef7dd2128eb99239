use Rattle.std.specs.Prelude.{◌≡◌, slice_index_or}
use Rattle.std.specs.Option.{option_map}
use Rattle.std.proofs.Common.{rules}
use Rattle.keepers.specs.SetOf.{no_version}
use Rattle.roll.specs.View.{roll_front}
use Rattle.roll.proofs.Meanings.{newest_last}
use Rattle.roll.proofs.keeper.RollKeeper.find.Goals as goal

pub returns : goal.returns
returns c =
    let is : c.map.result ≡ option_map (λ at. slice_index_or (roll_front c.args.self.now) at no_version) c.last_match.result = search rules in
    rw is (newest_last _ c.args.self.now.sound.arrived _ _ _ (rw c.front-versions.ensures at c.last_match.ensures))
