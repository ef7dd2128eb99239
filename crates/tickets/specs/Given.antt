-- What a call through a ticket answers, by the answer of the call by its number on the ticket's seat.
use Rattle.std.specs.Prelude.{ℕ, Bool, true, false, not, ◌&&◌, Some, Ok, Err, Result, ◌==◌, if◌then◌else◌}
use Rattle.std.specs.Option.{unwrap_or}
use Rattle.cards.specs.Refusals.{number_of}
use Rattle.cards.specs.declared.refusal.Refusal.{Refusal}
use Rattle.rules.specs.declared.stage.Stage.{Stage}
use Rattle.rules.specs.declared.stage.Stage.TheVariants as stage
use Rattle.tickets.specs.declared.declined.Declined.{Declined}
use Rattle.tickets.specs.declared.declined.Declined.TheVariants.{Back, TakenIn}
use Rattle.tickets.specs.declared.edit.EditTicket.{EditTicket}
use Rattle.tickets.specs.declared.locked.LockedTicket.{LockedTicket}
use Rattle.tickets.specs.declared.proof.ProofTicket.{ProofTicket}
use Rattle.tickets.specs.declared.stamped.StampedTicket.{StampedTicket}
use Rattle.tickets.specs.declared.stamped.TheConstants.{NO_SEAT}

-- ---- tickets of a seat

abbrev pub proof_ticket : ℕ → ProofTicket
proof_ticket k = record { seat = k }

abbrev pub edit_ticket : ℕ → EditTicket
edit_ticket k = record { seat = k }

abbrev pub locked_ticket : ℕ → LockedTicket
locked_ticket k = record { seat = k }

abbrev pub stamped_ticket : ℕ → StampedTicket
stamped_ticket k = record { seat = Some k }

-- the seat that a stamped ticket names; a spent one would name a seat that no store has
abbrev pub named : StampedTicket → ℕ
named t = unwrap_or t.seat NO_SEAT

-- ---- granted and declined

-- the refusal is Stage, number 2
abbrev pub is_stage : Refusal → Bool
is_stage r = number_of r == 2

-- a ticket whose call is declined is taken in, or given back
abbrev pub declined : {T : Type 0} → Bool → T → Refusal → Declined T
declined gone t r = if gone then TakenIn else Back r t

-- proof and edit give a ticket beside their start
abbrev pub with_ticket : {T : Type 0} → T → Result ℕ Refusal → Result (ℕ × T) Refusal
with_ticket t (Ok n) = Ok (n, t)
with_ticket t (Err r) = Err r

-- a call that takes the ticket t and gives the ticket u beside its number
abbrev pub passed : {T U : Type 0} → T → U → Result ℕ Refusal → Result (ℕ × U) (Declined T)
passed t u (Ok n) = Ok (n, u)
passed t u (Err r) = Err (declined (is_stage r) t r)

-- a call that takes the ticket in, and gives none
abbrev pub closed : {T X : Type 0} → T → Result X Refusal → Result X (Declined T)
closed t (Ok x) = Ok x
closed t (Err r) = Err (declined (is_stage r) t r)

-- a stamped edit
abbrev pub is_stamped : Stage → Bool
is_stamped (stage.Stamped t p) = true
is_stamped g = false

-- put gives the ticket back also where a stamped edit has no draft left
abbrev pub put_passed : {T : Type 0} → T → Bool → Result ℕ Refusal → Result (ℕ × T) (Declined T)
put_passed t stamped (Ok n) = Ok (n, t)
put_passed t stamped (Err r) = Err (declined (is_stage r && not stamped) t r)
