-- Which numbers are seat numbers.
use Rattle.std.specs.Prelude.{◌≡◌, ℕ, ◌≤◌, Ok, Err, Result}
use Rattle.cards.specs.declared.refusal.Refusal.{Refusal}
use Rattle.cards.specs.declared.refusal.Refusal.TheVariants as why
use Rattle.rules.specs.declared.limits.TheConstants.{SEATS}
use Rattle.table.specs.declared.seat_number.SeatNumber.{SeatNumber}

-- what a number gives: itself as a seat number, or Seat exactly if it is 16 or more
abbrev pub SeatGiven : ℕ → Result SeatNumber Refusal → Type 0
SeatGiven n (Ok k) = k.number ≡ n
SeatGiven n (Err r) = (SEATS ≤ n) × (r ≡ why.Seat)
