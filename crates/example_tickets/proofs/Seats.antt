-- What is left of a declined call names a seat of the store where the ticket that comes back does.
use Rattle.std.proofs.Common.{◌≡◌, ℕ, Bool, true, false, not, ◌&&◌, Ok, Err, Result, arith}
use Rattle.cards.specs.declared.refusal.Refusal.{Refusal}
use Rattle.example_tickets.specs.Left.{Seated, SeatedBack, SeatedLeft}
use Rattle.saving.specs.Saved.{left_open, left_locked, left_stamped}
use Rattle.tickets.specs.Given.{declined, is_stage, put_passed}
use Rattle.tickets.specs.declared.declined.Declined.{Declined}
use Rattle.tickets.specs.declared.declined.Declined.TheVariants.{Back, TakenIn}
use Rattle.tickets.specs.declared.edit.EditTicket.{EditTicket}
use Rattle.tickets.specs.declared.locked.LockedTicket.{LockedTicket}
use Rattle.tickets.specs.declared.stamped.StampedTicket.{StampedTicket}

pub seated_open : (d : Declined EditTicket) → SeatedLeft (left_open d)
seated_open (Back r t) = tt
seated_open TakenIn = tt

pub seated_locked : (d : Declined LockedTicket) → SeatedLeft (left_locked d)
seated_locked (Back r t) = tt
seated_locked TakenIn = tt

pub seated_stamped : (d : Declined StampedTicket) → SeatedBack d → SeatedLeft (left_stamped d)
seated_stamped (Back r t) h = h
seated_stamped TakenIn h = tt

seated_declined : (gone : Bool) (t : StampedTicket) (r : Refusal) (d : Declined StampedTicket) → d ≡ declined gone t r → Seated t → SeatedBack d
seated_declined true t r (Back q u) e h = grind arith
seated_declined true t r TakenIn e h = tt
seated_declined false t r (Back q u) e h = grind arith
seated_declined false t r TakenIn e h = tt

pub seated_put : (t : StampedTicket) (b : Bool) (a : Result ℕ Refusal) (d : Declined StampedTicket) → Err d ≡ put_passed t b a → Seated t → SeatedBack d
seated_put t b (Ok n) d e h = grind arith
seated_put t b (Err r) d e h = seated_declined (is_stage r && not b) t r d (grind arith) h

pub ruleset seats = (seated_open, seated_locked, seated_stamped, seated_put)
