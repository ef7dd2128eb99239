-- The number and the word of each refusal.
use Rattle.std.specs.Prelude.{ℕ, List, codes}
use Rattle.cards.specs.declared.refusal.Refusal.{Refusal}
use Rattle.cards.specs.declared.refusal.Refusal.TheVariants as why

-- the number that a host or a script is told
abbrev pub number_of : Refusal → ℕ
number_of why.Seat = 1
number_of why.Stage = 2
number_of why.Entry = 3
number_of why.Misfit = 4
number_of why.Held = 5
number_of why.Stale = 6
number_of why.List = 7
number_of why.Places = 8
number_of why.Clock = 9
number_of why.Unput = 10
number_of why.Waiting = 11
number_of why.Needed = 12
number_of why.Sizes = 13
number_of why.Line = 14
number_of why.Map = 15
number_of why.Short = 16
number_of why.Full = 17
number_of why.Order = 18

-- the word, as ASCII
abbrev pub word_of : Refusal → List ℕ
word_of why.Seat = codes "seat"
word_of why.Stage = codes "stage"
word_of why.Entry = codes "entry"
word_of why.Misfit = codes "misfit"
word_of why.Held = codes "held"
word_of why.Stale = codes "stale"
word_of why.List = codes "list"
word_of why.Places = codes "places"
word_of why.Clock = codes "clock"
word_of why.Unput = codes "unput"
word_of why.Waiting = codes "waiting"
word_of why.Needed = codes "needed"
word_of why.Sizes = codes "sizes"
word_of why.Line = codes "line"
word_of why.Map = codes "map"
word_of why.Short = codes "short"
word_of why.Full = codes "full"
word_of why.Order = codes "order"
