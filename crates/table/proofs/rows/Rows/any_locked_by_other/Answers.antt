use Rattle.std.proofs.Common.{sym, ◌∙◌, rules, tests}
use Rattle.std.proofs.lemmas.Iterator.{YieldsList-from_slice}
use Rattle.std.proofs.lemmas.Iterator.Search.{any_from_yields_List}
use Rattle.rules.specs.Rows.{row_at, locked_by_other}
use Rattle.table.proofs.Lists.{any_map}
use Rattle.table.proofs.rows.Rows.any_locked_by_other.Goals as goal

pub returns : goal.returns
returns g c =
    let f = g.T.BearsEntry.entry_of in
    any_from_yields_List (λ x. locked_by_other (row_at c.args.self.now (f x)).lock c.args.seat.number) _ _ _ c.any.ensures.ran (YieldsList-from_slice c.args.items.now cc) (λ x b q l. search (rules, tests))
    ∙ sym (any_map (λ n. locked_by_other (row_at c.args.self.now n).lock c.args.seat.number) f c.args.items.now)
