-- A new store over an empty keeper stands as the law wants it.
use Rattle.std.proofs.Common.{refl, arith}
use Rattle.std.proofs.lemmas.Bool.{leb-true}
use Rattle.cards.proofs.Holdings.{holding_lawful}
use Rattle.rules.specs.NewStore.{NewStoresStand, OpenedStoresStand}

pub new_stores_stand_lem : NewStoresStand
new_stores_stand_lem z h none lawful = record {
  small = (grind (arith, leb-true));
  seats = refl;
  rows = refl;
  clock = refl;
  empty = none;
  lawful = lawful;
}

-- so does one over a keeper of places: its room is as the rules want it
pub opened_stores_stand_lem : OpenedStoresStand
opened_stores_stand_lem z places few = record {
  small = few;
  seats = refl;
  rows = refl;
  clock = refl;
  empty = λ e t. refl;
  lawful = holding_lawful places _;
}
