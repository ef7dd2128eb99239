use Rattle.std.proofs.Common.{w16, FitsSigned, rules}
use Rattle.std.proofs.lemmas.Int.{to_z-of_z}
use Rattle.packed.proofs.Fields.{two_read}
use Rattle.packed.proofs.packing.take_field.Goals as goal

pub returns-then-present-clause-parts : goal.returns-then-present-clause-parts
returns-then-present-clause-parts c =
    let f : FitsSigned w16 c.from_be_bytes.result = search rules in
    simp to_z-of_z (search (rules, two_read))
