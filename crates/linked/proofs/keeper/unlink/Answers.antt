-- A place that holds a version is in the memory.
use Rattle.std.proofs.Common.{arith}
use Rattle.linked.proofs.Chains.{in_places}
use Rattle.linked.proofs.keeper.unlink.Goals as goal

pub bounds-places-from : goal.bounds-places-from
bounds-places-from c = omega (arith, in_places c.args.places.now _ (c.requires _ c.in-Some.is))
