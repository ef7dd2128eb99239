-- Why a call through a ticket is declined, which is told with what is left, is why the call by its number is.
use Rattle.std.proofs.Common.{◌≡◌, refl, ℕ, Bool, true, false, Ok, Err, Result, arith}
use Rattle.cards.specs.declared.refusal.Refusal.{Refusal}
use Rattle.cards.specs.declared.refusal.Refusal.TheVariants as why
use Rattle.saving.specs.Saved.{left_open, left_locked, left_stamped, why_unsaved}
use Rattle.tickets.specs.Given.{is_stage, declined, passed, put_passed, closed}
use Rattle.tickets.specs.declared.declined.Declined.{Declined}
use Rattle.tickets.specs.declared.declined.Declined.TheVariants as declined
use Rattle.tickets.specs.declared.edit.EditTicket.{EditTicket}
use Rattle.tickets.specs.declared.locked.LockedTicket.{LockedTicket}
use Rattle.tickets.specs.declared.stamped.StampedTicket.{StampedTicket}

-- why a call through a ticket was declined
abbrev pub why_declined : {T : Type 0} → Declined T → Refusal
why_declined (declined.Back r t) = r
why_declined declined.TakenIn = why.Stage

why_back : {T : Type 0} (t : T) (r : Refusal) → why_declined (declined (is_stage r) t r) ≡ r
why_back t r = grind arith

pub why_passed : {T U : Type 0} (t : T) (u : U) (o : Result ℕ Refusal) (d : Declined T) → Err d ≡ passed t u o → o ≡ Err (why_declined d)
why_passed t u (Ok n) d e = grind arith
why_passed t u (Err r) d e = let w = why_back t r in grind arith

pub why_put : {T : Type 0} (t : T) (b : Bool) (o : Result ℕ Refusal) (d : Declined T) → Err d ≡ put_passed t b o → o ≡ Err (why_declined d)
why_put t true (Ok n) d e = grind arith
why_put t false (Ok n) d e = grind arith
why_put t true (Err r) d e = grind arith
why_put t false (Err r) d e = let w = why_back t r in grind arith

pub why_closed : {T X : Type 0} (t : T) (o : Result X Refusal) (d : Declined T) → Err d ≡ closed t o → o ≡ Err (why_declined d)
why_closed t (Ok x) d e = grind arith
why_closed t (Err r) d e = let w = why_back t r in grind arith

pub why_open : (d : Declined EditTicket) → why_unsaved (left_open d) ≡ why_declined d
why_open (declined.Back r t) = refl
why_open declined.TakenIn = refl

pub why_locked : (d : Declined LockedTicket) → why_unsaved (left_locked d) ≡ why_declined d
why_locked (declined.Back r t) = refl
why_locked declined.TakenIn = refl

pub why_stamped : (d : Declined StampedTicket) → why_unsaved (left_stamped d) ≡ why_declined d
why_stamped (declined.Back r t) = refl
why_stamped declined.TakenIn = refl

pub ruleset whys = (why_passed, why_put, why_closed, why_open, why_locked, why_stamped)
