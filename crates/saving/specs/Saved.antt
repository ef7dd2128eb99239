-- An edit of one draft, saved.
use Rattle.std.specs.Prelude.{ℕ, Ok, Err, Result}
use Rattle.cards.specs.declared.refusal.Refusal.{Refusal}
use Rattle.cards.specs.declared.refusal.Refusal.TheVariants as why
use Rattle.rules.specs.Rules.{Outcome, lock, stamp, put, settle}
use Rattle.rules.specs.Runs.{stepped}
use Rattle.rules.specs.State.{State, seat}
use Rattle.saving.specs.declared.unsaved.Unsaved.{Unsaved}
use Rattle.saving.specs.declared.unsaved.Unsaved.TheVariants as left
use Rattle.tickets.specs.Given.{closed, is_stamped, locked_ticket, named, passed, put_passed, stamped_ticket}
use Rattle.tickets.specs.declared.declined.Declined.{Declined}
use Rattle.tickets.specs.declared.declined.Declined.TheVariants as declined
use Rattle.tickets.specs.declared.edit.EditTicket.{EditTicket}
use Rattle.tickets.specs.declared.locked.LockedTicket.{LockedTicket}
use Rattle.tickets.specs.declared.stamped.StampedTicket.{StampedTicket}

-- one call after another; the first that is declined is the last
abbrev pub then : {X Y : Type 0} → State × Result X Refusal → (State → State × Result Y Refusal) → State × Result Y Refusal
then (s, Ok x) f = f s
then (s, Err r) f = (s, Err r)

-- settle
abbrev pub settled : ℕ → State → State × Result ℕ Refusal
settled k s = stepped s (settle k s)

-- put, then settle
unfoldable pub put_settled : ℕ → State → State × Result ℕ Refusal
put_settled k s = then (stepped s (put k s)) (settled k)

-- stamp, then those two
unfoldable pub stamp_settled : ℕ → State → State × Result ℕ Refusal
stamp_settled k s = then (stepped s (stamp k s)) (put_settled k)

-- lock, then those three
unfoldable pub saved : ℕ → State → State × Result ℕ Refusal
saved k s = then (stepped s (lock k s)) (stamp_settled k)

-- what is left of an open edit whose call is declined: the ticket, with why, or nothing
abbrev pub left_open : Declined EditTicket → Unsaved
left_open (declined.Back r t) = left.Open r t
left_open declined.TakenIn = left.Gone

-- of a locked one, the same
abbrev pub left_locked : Declined LockedTicket → Unsaved
left_locked (declined.Back r t) = left.Locked r t
left_locked declined.TakenIn = left.Gone

-- and of a stamped one
abbrev pub left_stamped : Declined StampedTicket → Unsaved
left_stamped (declined.Back r t) = left.Stamped r t
left_stamped declined.TakenIn = left.Gone

-- why an edit could not be saved
abbrev pub why_unsaved : Unsaved → Refusal
why_unsaved left.Gone = why.Stage
why_unsaved (left.Open r t) = r
why_unsaved (left.Locked r t) = r
why_unsaved (left.Stamped r t) = r

-- what was answered, or why not
abbrev pub told : Result ℕ Unsaved → Result ℕ Refusal
told (Ok n) = Ok n
told (Err u) = Err (why_unsaved u)

-- ---- what is answered with what is left

-- a call through a ticket, and what comes after it with the ticket that it gives; where it is declined, what l leaves
abbrev pub onward : {T D : Type 0} → (D → Unsaved) → Result (ℕ × T) D → (T → Result ℕ Unsaved) → Result ℕ Unsaved
onward l (Ok (n, t)) f = f t
onward l (Err d) f = Err (l d)

-- the last call through a ticket, likewise
abbrev pub ended : {D : Type 0} → (D → Unsaved) → Result ℕ D → Result ℕ Unsaved
ended l (Ok n) = Ok n
ended l (Err d) = Err (l d)

-- settle
abbrev pub settle_or_left : State → StampedTicket → Result ℕ Unsaved
settle_or_left s t = ended left_stamped (closed t (settled (named t) s).1)

-- put, then settle
unfoldable pub put_or_left : State → StampedTicket → Result ℕ Unsaved
put_or_left s t =
    let p = stepped s (put (named t) s) in
    onward left_stamped (put_passed t (is_stamped (seat s (named t)).stage) p.1) (settle_or_left p.0)

-- stamp, then those two
unfoldable pub stamp_or_left : State → LockedTicket → Result ℕ Unsaved
stamp_or_left s t =
    let p = stepped s (stamp t.seat s) in
    onward left_locked (passed t (stamped_ticket t.seat) p.1) (put_or_left p.0)

-- lock, then those three
unfoldable pub save_or_left : State → EditTicket → Result ℕ Unsaved
save_or_left s t =
    let p = stepped s (lock t.seat s) in
    onward left_open (passed t (locked_ticket t.seat) p.1) (stamp_or_left p.0)
