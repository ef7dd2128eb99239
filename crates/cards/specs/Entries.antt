-- Which numbers are entry numbers.
use Rattle.std.specs.Prelude.{◌≡◌, ℕ, ◌≤◌, Ok, Err, Result}
use Rattle.cards.specs.declared.entry.EntryNumber.{EntryNumber}
use Rattle.cards.specs.declared.entry.TheConstants.{ENTRIES}
use Rattle.cards.specs.declared.refusal.Refusal.{Refusal}
use Rattle.cards.specs.declared.refusal.Refusal.TheVariants as why

-- what a number gives: itself as an entry number, or Entry exactly if it is 1,024 or more
abbrev pub EntryGiven : ℕ → Result EntryNumber Refusal → Type 0
EntryGiven n (Ok e) = e.number ≡ n
EntryGiven n (Err r) = (ENTRIES ≤ n) × (r ≡ why.Entry)
