use Rattle.rules.proofs.NewStores.{new_stores_stand_lem, opened_stores_stand_lem}
use Rattle.rules.proofs.theorems.new_stores_stand.Goals as goal

pub returns-clause-any : goal.returns-clause-any
returns-clause-any c = new_stores_stand_lem

pub returns-clause-opened : goal.returns-clause-opened
returns-clause-opened c = opened_stores_stand_lem
