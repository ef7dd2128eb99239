-- The ticket goes on naming a seat of the store.
use Rattle.example_tickets.specs.Left.{Seated}
use Rattle.example_tickets.proofs.clerk.Clerk.put_all.Given as goal

abbrev pub invariant-loop : goal.invariant-loop
invariant-loop g l = Seated l.ticket
