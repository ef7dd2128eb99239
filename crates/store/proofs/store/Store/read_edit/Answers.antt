use Rattle.std.proofs.Common.{◌<◌, List, length, rules, arith, ap}
use Rattle.std.proofs.lemmas.Grind.{common_steps}
use Rattle.rules.specs.Rules.{newest}
use Rattle.rules.specs.Seat.{Seat, note}
use Rattle.store.specs.View.{view}
use Rattle.store.proofs.Changing.{of_err, always, changed}
use Rattle.store.proofs.store.Store.read_edit.Goals as goal

pub returns-in_err-note-clause-call : goal.returns-in_err-note-clause-call
returns-in_err-note-clause-call g c =
    let old = c.args.self.now in
    let s = view g.K.Keeper.means old in
    let k = c.from.result in
    let l : k < length old.table.seats = search rules in
    let by = changed s k (newest s c.args.entry) _ c.note.new.self c.note.result (note c.args.entry) l c.note.ensures in
    record {
      state = grind (arith, common_steps, by.state);
      answer = grind (arith, common_steps, by.answer);
      same = always c.from_residual.result (ap (λ (xs : List Seat). record old { table = record old.table { seats = xs } }) (of_err c.note.result _ c.in_err-note.was by.same));
    }
