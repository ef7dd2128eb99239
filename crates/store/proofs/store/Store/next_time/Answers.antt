use Rattle.std.proofs.Common.{◌≡◌, ◌∙◌, sym, rules}
use Rattle.store.proofs.Following.{next_is, up_to}
use Rattle.store.proofs.store.Store.next_time.Goals as goal

pub returns : goal.returns
returns g c =
    let kept : c.filter.result ≡ up_to c.args.up_to c.after.result = search rules in
    kept ∙ sym (next_is (g.K.Keeper.means c.args.self.now.keeper).kept c.args.entry c.args.time c.args.up_to c.after.result c.after.ensures)
