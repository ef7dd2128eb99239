use Rattle.rules.proofs.Law.{law_holds_lem}
use Rattle.rules.proofs.Runs.{law_of_lists}
use Rattle.rules.proofs.theorems.law_holds.Goals as goal

pub returns : goal.returns
returns c = record { reached = law_holds_lem; lists = law_of_lists }
