use Rattle.std.specs.Prelude.{◌≡◌}
use Rattle.std.proofs.Common.{rules, ◌∙◌}
use Rattle.std.specs.Option.{option_map_or}
use Rattle.roll.proofs.Held.{bounded_in}
use Rattle.roll.specs.View.{roll_kept}
use Rattle.roll.proofs.Meanings.{newest_found}
use Rattle.roll.proofs.keeper.Roll.newest_time.Goals as goal

pub returns : goal.returns
returns c =
    let is : c.map_or.result ≡ option_map_or (λ v. v.time) c.find.result 0 = search rules in
    is ∙ newest_found (roll_kept c.args.self.now) _ _ ((bounded_in _ c.args.self.now.sound.arrived.each).times c.args.entry) c.find.ensures
