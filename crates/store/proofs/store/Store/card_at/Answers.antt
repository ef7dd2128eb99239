use Rattle.std.proofs.Common.{◌≡◌, ◌∙◌, rules}
use Rattle.std.specs.Option.{option_map_or}
use Rattle.cards.specs.Cards.{blank_card}
use Rattle.store.proofs.Finding.{latest_found}
use Rattle.store.proofs.store.Store.card_at.Goals as goal

pub returns : goal.returns
returns g c =
    let is : c.map_or.result ≡ option_map_or (λ v. v.card) c.find.result blank_card = search rules in
    is ∙ latest_found (g.K.Keeper.means c.args.self.now.keeper).kept c.args.entry c.args.time c.find.result c.find.ensures
