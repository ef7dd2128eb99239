-- A seat: its stage, and the reading list and the drafts of its edit.
use Rattle.std.specs.Prelude.{ℕ, Bool, ◌||◌, List, [], ◌∷◌, ◌++◌, length, drop, is_some, Some, None, Ok, Err, Option, Result, ◌==◌, nat_lt, if◌then◌else◌}
use Rattle.std.specs.List.{list_any}
use Rattle.cards.specs.declared.card.Card.{Card}
use Rattle.cards.specs.declared.draft.Draft.{Draft}
use Rattle.cards.specs.declared.refusal.Refusal.{Refusal}
use Rattle.cards.specs.declared.refusal.Refusal.TheVariants as why
use Rattle.rules.specs.declared.limits.TheConstants.{MOST_READS, MOST_DRAFTS}
use Rattle.rules.specs.declared.stage.Stage.{Stage}
use Rattle.rules.specs.declared.stage.Stage.TheVariants as stage

-- a seat; its two lists are in order of arrival
pub record Seat : Type 0 where
  pub stage : Stage
  pub reads : List ℕ
  pub drafts : List Draft

-- a seat that begins a stage, with empty lists
abbrev pub begin : Stage → Seat
begin g = record { stage = g; reads = []; drafts = [] }

-- a seat at first
abbrev pub idle : Seat
idle = begin stage.Idle

-- a seat that goes on to a stage, with the lists that it has
abbrev pub go_on : Stage → Seat → Seat
go_on g x = record x { stage = g }

-- ---- the reading list

-- n is on a reading list
abbrev pub has_read : List ℕ → ℕ → Bool
has_read reads n = list_any (λ m. n == m) reads

-- a seat that notes, once, that its edit reads n; List where that would be one read too many
abbrev pub note : ℕ → Seat → Result Seat Refusal
note n x =
    if has_read x.reads n then Ok x
    else if nat_lt (length x.reads) MOST_READS then Ok (record x { reads = x.reads ++ n ∷ [] })
    else Err why.List

-- ---- the drafts

-- the draft of n, if there is one
abbrev pub draft_of : List Draft → ℕ → Option Card
draft_of [] n = None
draft_of (d ∷ ds) n = if n == d.entry then Some d.card else draft_of ds n

-- the drafts with the card c for n, in place of an earlier one or at the end
abbrev pub with_draft : List Draft → ℕ → Card → List Draft
with_draft [] n c = record { entry = n; card = c } ∷ []
with_draft (d ∷ ds) n c = if n == d.entry then record { entry = n; card = c } ∷ ds else d ∷ with_draft ds n c

-- a seat whose edit drafts the card c for n; List where that would be one draft too many
abbrev pub draft : ℕ → Card → Seat → Result Seat Refusal
draft n c x =
    if is_some (draft_of x.drafts n) || nat_lt (length x.drafts) MOST_DRAFTS then Ok (record x { drafts = with_draft x.drafts n c })
    else Err why.List

-- the drafts that a stamped edit has not put yet: those from its next on
abbrev pub unput_of : List Draft → Stage → List Draft
unput_of ds (stage.Stamped t p) = drop p ds
unput_of ds g = []
