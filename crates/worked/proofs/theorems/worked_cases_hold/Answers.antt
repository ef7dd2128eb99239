use Rattle.std.proofs.Common.{refl}
use Rattle.packed.specs.Packed.{standing, packed}
use Rattle.worked.proofs.theorems.worked_cases_hold.Goals as goal

pub returns : goal.returns
unfolding standing packed
returns c = (refl, (refl, (refl, (refl, (refl, (refl, (refl, (refl, (refl, (refl, (refl, (refl, (refl, (refl, (refl, tt)))))))))))))))
