-- What is known of a stamped ticket that could not be settled.
use Rattle.std.specs.Prelude.{◌<◌}
use Rattle.rules.specs.declared.limits.TheConstants.{SEATS}
use Rattle.saving.specs.declared.unsaved.Unsaved.{Unsaved}
use Rattle.saving.specs.declared.unsaved.Unsaved.TheVariants.{Stamped}
use Rattle.tickets.specs.Given.{named}
use Rattle.tickets.specs.declared.declined.Declined.{Declined}
use Rattle.tickets.specs.declared.declined.Declined.TheVariants.{Back}
use Rattle.tickets.specs.declared.stamped.StampedTicket.{StampedTicket}

-- it names a seat of the store
abbrev pub Seated : StampedTicket → Type 0
Seated t = named t < SEATS

-- so does one that put or settle gives back
abbrev pub SeatedBack : Declined StampedTicket → Type 0
SeatedBack (Back r t) = Seated t
SeatedBack d = Unit {0}

-- and one that is left of an edit
abbrev pub SeatedLeft : Unsaved → Type 0
SeatedLeft (Stamped r t) = Seated t
SeatedLeft u = Unit {0}
