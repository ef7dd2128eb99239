use Rattle.std.proofs.Common.{◌<◌, List, length, rules, arith, ap}
use Rattle.std.proofs.lemmas.Grind.{common_steps}
use Rattle.rules.specs.Seat.{Seat, draft}
use Rattle.store.specs.View.{view}
use Rattle.store.proofs.Changing.{on_err, changed}
use Rattle.store.proofs.store.Store.write.Goals as goal

pub returns-clause-call : goal.returns-clause-call
returns-clause-call g c =
    let old = c.args.self.now in
    let k = c.from.result in
    let l : k < length old.table.seats = search rules in
    let by = changed {X = Unit {0}} (view g.K.Keeper.means old) k tt _ c.draft.new.self c.draft.result (draft c.args.entry c.args.card) l c.draft.ensures in
    record {
      state = grind (arith, common_steps, by.state);
      answer = grind (arith, common_steps, by.answer);
      same = on_err c.draft.result (ap (λ (xs : List Seat). record old { table = record old.table { seats = xs } })) by.same;
    }
