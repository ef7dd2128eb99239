use Rattle.std.proofs.Common.{◌≡◌, take}
use Rattle.std.specs.Fmt.{HasWritten, IsPlainFormatter}
use denote.Text.{Utf8}
use denote.Shadow.{shadow}
use Rattle.cards.proofs.Joined.{texts, joined, before_next}
use Rattle.cards.proofs.shown.CardDisplay.fmt.Given as goal

-- the fields so far are written, and what stands before the next is known
abbrev pub invariant-loop-name : goal.invariant-loop-name
invariant-loop-name g l =
    shadow (Utf8 l.before)
    × (l.before ≡ before_next (texts (take l.name-index l.name-items)))
    × (IsPlainFormatter l.initial.f → HasWritten g.W.Write.write_str_gives l.initial.f (joined (texts (take l.name-index l.name-items))) l.f)
