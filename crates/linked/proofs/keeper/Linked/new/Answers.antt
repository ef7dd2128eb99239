-- Memory whose used places were made free holds nothing, and the others are as they were.
use Rattle.std.proofs.Common.{arith}
use Rattle.linked.proofs.Edits.{front_len, front_used, front_rest}
use Rattle.linked.proofs.News.{none_new, new_sound}
use Rattle.linked.proofs.keeper.Linked.new.Goals as goal

pub invariant_of-result : goal.invariant_of-result
invariant_of-result c =
    let free = c.free_all-free in
    record { sound = rw (front_used c.args.memory.now free.new.places c.min-used.result (omega (arith, c.min-used.ensures)) free.auto.places) (new_sound free.new.places free.ensures.free free.auto.places free.ensures.first free.ensures.count) }

pub returns-clause-empty : goal.returns-clause-empty
returns-clause-empty c =
    let free = c.free_all-free in
    rw (front_used c.args.memory.now free.new.places c.min-used.result (omega (arith, c.min-used.ensures)) free.auto.places) (none_new free.new.places free.ensures.free)

pub returns-clause-length : goal.returns-clause-length
returns-clause-length c = front_len c.args.memory.now c.free_all-free.new.places c.min-used.result (omega (arith, c.min-used.ensures)) c.free_all-free.auto.places

pub returns-clause-rest : goal.returns-clause-rest
returns-clause-rest c = front_rest c.args.memory.now c.free_all-free.new.places c.min-used.result (omega (arith, c.min-used.ensures)) c.free_all-free.auto.places
