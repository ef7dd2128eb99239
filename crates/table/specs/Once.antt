-- Drafts of which no two are of one entry.
use Rattle.std.specs.Prelude.{Bool, true, false, List, [], ◌∷◌, is_some, if◌then◌else◌}
use Rattle.cards.specs.declared.draft.Draft.{Draft}
use Rattle.rules.specs.Seat.{draft_of}

-- no entry has two drafts
abbrev pub once : List Draft → Bool
once [] = true
once (d ∷ ds) = if is_some (draft_of ds d.entry) then false else once ds
