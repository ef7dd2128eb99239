-- The worked cases: runs of a small store with every answer, and cards with their packed bytes.
use Rattle.std.specs.List.{AllByRecursion}
use Rattle.std.specs.Prelude.{◌≡◌, ℕ, zero, suc, ◌+◌, ◌-◌, ⊤, List, [], ◌∷◌, map, pos, is_some, Some, None, Ok, Err, Option, Result, ◌==◌, if◌then◌else◌}
use Rattle.cards.specs.Cards.{blank_card}
use Rattle.cards.specs.Holding.{Holding}
use Rattle.cards.specs.Versions.{Kept}
use Rattle.cards.specs.declared.card.Card.{Card}
use Rattle.cards.specs.declared.refusal.Refusal.{Refusal}
use Rattle.cards.specs.declared.refusal.Refusal.TheVariants as why
use Rattle.packed.specs.Worked.{PackedCase, packed_cases}
use Rattle.packed.specs.Worked as packed
use Rattle.rules.specs.NewStore.{unused}
use Rattle.rules.specs.Runs.{answers}
use Rattle.rules.specs.State.{State}
use Rattle.rules.specs.declared.answer.Answer.{Answer}
use Rattle.rules.specs.declared.answer.Answer.TheVariants as answer
use Rattle.rules.specs.declared.call.Call.{Call}
use Rattle.rules.specs.declared.call.Call.TheVariants as call
use Rattle.rules.specs.declared.sizes.Sizes.{Sizes}

-- ---- a small store: two letters, a mark and a pair

abbrev pub sizes : ℕ → ℕ → ℕ → Sizes
sizes l m p = record { letters = l; marks = m; pairs = p }

-- the versions of one entry with times up to t
abbrev pub counted : (ℕ → Option Card) → ℕ → ℕ
counted m zero = 0
counted m (suc t) = (if is_some (m (suc t)) then 1 else 0) + counted m t

-- the versions of its four entries with times up to 8: more is not run here, and so it can be computed
abbrev pub small_held : Kept → ℕ
small_held m = counted (m 0) 8 + counted (m 1) 8 + counted (m 2) 8 + counted (m 3) 8

-- an empty memory of so many places
abbrev pub small_holding : ℕ → Holding
small_holding places = record {
  kept = λ n t. None;
  spare = λ m. places - small_held m;
  refuses = λ m n t. if places - small_held m == 0 then Some why.Full else None;
}

-- new, over such a memory
abbrev pub small : ℕ → State
small places = unused (sizes 2 1 1) (small_holding places)

-- ---- what a case is

-- calls on a new small store of so many places, with their answers; or a case of the packed form
pub data Case : Type 0 where
  runs : ℕ → List Call → List (Result Answer Refusal) → Case
  packs : PackedCase → Case

-- the answers are those that the rules give
abbrev pub Holds : Case → Type 0
Holds (runs places cs as') = answers (small places) cs ≡ as'
Holds (packs x) = packed.Holds x

-- ---- the words that the cases are written in

-- a card with an advance alone
abbrev pub wide : ℕ → Card
wide x = record blank_card { advance = Some (pos x) }

-- granted, with a number
abbrev n# : ℕ → Result Answer Refusal
n# t = Ok (answer.Number t)

-- ---- the cases

-- a pair written with map 1 gets 4
abbrev pub misfit : Case
misfit = runs 8 (call.Edit 1 ∷ call.Write 1 3 (wide 5) ∷ []) (n# 0 ∷ Err why.Misfit ∷ [])

-- seat 1 reads entry 1 and locks entry 0, then seat 2 locks entry 1. Seat 1 is told 5 when it stamps, and 6 once seat 2 has settled.
-- So no edit takes a time after another has changed what it read.
abbrev pub overtaken : Case
overtaken = runs 8
    (call.Edit 1 ∷ call.Edit 2 ∷ call.Read 1 1 ∷ call.Write 1 0 (wide 1) ∷ call.Lock 1 ∷ call.Write 2 1 (wide 2) ∷ call.Lock 2 ∷ call.Stamp 1 ∷ call.Stamp 2 ∷ call.Put 2 ∷ call.Settle 2 ∷ call.Stamp 1 ∷ [])
    (n# 0 ∷ n# 0 ∷ Ok (answer.Card blank_card) ∷ Ok answer.Done ∷ n# 1 ∷ Ok answer.Done ∷ n# 1 ∷ Err why.Held ∷ n# 1 ∷ n# 0 ∷ n# 1 ∷ Err why.Stale ∷ [])

-- two edits have times 1 and 2, and only the second has put its draft: it is told 11 when it settles, and 2 once the first has put. So no
-- edit is settled while a lesser time is not ready, and a proof begun next has it.
abbrev pub waiting : Case
waiting = runs 8
    (call.Edit 1 ∷ call.Edit 2 ∷ call.Write 1 0 (wide 1) ∷ call.Write 2 1 (wide 2) ∷ call.Lock 1 ∷ call.Lock 2 ∷ call.Stamp 1 ∷ call.Stamp 2 ∷ call.Put 2 ∷ call.Settle 2 ∷ call.Put 1 ∷ call.Settle 2 ∷ call.Proof 3 ∷ [])
    (n# 0 ∷ n# 0 ∷ Ok answer.Done ∷ Ok answer.Done ∷ n# 1 ∷ n# 1 ∷ n# 1 ∷ n# 2 ∷ n# 0 ∷ Err why.Waiting ∷ n# 0 ∷ n# 2 ∷ n# 2 ∷ [])

-- over one place, an edit of two drafts is told 8 when it stamps, and an edit of one is granted
abbrev pub one_place : Case
one_place = runs 1
    (call.Edit 1 ∷ call.Write 1 0 (wide 1) ∷ call.Write 1 1 (wide 2) ∷ call.Lock 1 ∷ call.Stamp 1 ∷ call.Drop 1 ∷ call.Edit 1 ∷ call.Write 1 0 (wide 1) ∷ call.Lock 1 ∷ call.Stamp 1 ∷ [])
    (n# 0 ∷ Ok answer.Done ∷ Ok answer.Done ∷ n# 2 ∷ Err why.Places ∷ Ok answer.Done ∷ n# 0 ∷ Ok answer.Done ∷ n# 1 ∷ n# 1 ∷ [])

-- an entry has versions of the times 1 and 2, and a proof is open that started at 1: a collect is told 12, and once the proof has ended, 1
abbrev pub needed : Case
needed = runs 8
    (call.Edit 1 ∷ call.Write 1 0 (wide 1) ∷ call.Lock 1 ∷ call.Stamp 1 ∷ call.Put 1 ∷ call.Settle 1 ∷ call.Proof 0 ∷ call.Edit 1 ∷ call.Write 1 0 (wide 2) ∷ call.Lock 1 ∷ call.Stamp 1 ∷ call.Put 1 ∷ call.Settle 1 ∷ call.Collect 0 ∷ call.End 0 ∷ call.Collect 0 ∷ [])
    (n# 0 ∷ Ok answer.Done ∷ n# 1 ∷ n# 1 ∷ n# 0 ∷ n# 1 ∷ n# 1 ∷ n# 1 ∷ Ok answer.Done ∷ n# 1 ∷ n# 2 ∷ n# 0 ∷ n# 2 ∷ Err why.Needed ∷ Ok answer.Done ∷ n# 1 ∷ [])

-- a proof that is open while an edit is put reads the old card, one begun after the settling the new
abbrev pub two_moments : Case
two_moments = runs 8
    (call.Edit 1 ∷ call.Write 1 0 (wide 620) ∷ call.Lock 1 ∷ call.Stamp 1 ∷ call.Proof 0 ∷ call.Put 1 ∷ call.Settle 1 ∷ call.Read 0 0 ∷ call.Proof 2 ∷ call.Read 2 0 ∷ call.Collect 0 ∷ [])
    (n# 0 ∷ Ok answer.Done ∷ n# 1 ∷ n# 1 ∷ n# 0 ∷ n# 0 ∷ n# 1 ∷ Ok (answer.Card blank_card) ∷ n# 1 ∷ Ok (answer.Card (wide 620)) ∷ Err why.Needed ∷ [])

-- an edit of two drafts, 1 before 0: its puts answer 1 and 0, and after the first another seat reads 1 and not yet 0
abbrev pub in_order : Case
in_order = runs 8
    (call.Edit 1 ∷ call.Write 1 1 (wide 5) ∷ call.Write 1 0 (wide 7) ∷ call.Lock 1 ∷ call.Stamp 1 ∷ call.Edit 2 ∷ call.Put 1 ∷ call.Read 2 1 ∷ call.Read 2 0 ∷ call.Put 1 ∷ call.Read 2 0 ∷ call.Put 1 ∷ call.Settle 1 ∷ [])
    (n# 0 ∷ Ok answer.Done ∷ Ok answer.Done ∷ n# 2 ∷ n# 1 ∷ n# 1 ∷ n# 1 ∷ Ok (answer.Card (wide 5)) ∷ Err why.Held ∷ n# 0 ∷ Ok (answer.Card (wide 7)) ∷ Err why.Stage ∷ n# 1 ∷ [])

-- while a time is half put, a proof starts before it
abbrev pub half_put : Case
half_put = runs 8
    (call.Edit 1 ∷ call.Write 1 0 (wide 1) ∷ call.Write 1 1 (wide 2) ∷ call.Lock 1 ∷ call.Stamp 1 ∷ call.Put 1 ∷ call.Proof 0 ∷ call.Read 0 0 ∷ call.Read 0 1 ∷ [])
    (n# 0 ∷ Ok answer.Done ∷ Ok answer.Done ∷ n# 2 ∷ n# 1 ∷ n# 1 ∷ n# 0 ∷ Ok (answer.Card blank_card) ∷ Ok (answer.Card blank_card) ∷ [])

-- a stamp keeps its locks: until its draft is put, another seat's lock of that entry gets 5
abbrev pub locks_stay : Case
locks_stay = runs 8
    (call.Edit 1 ∷ call.Write 1 0 (wide 1) ∷ call.Lock 1 ∷ call.Stamp 1 ∷ call.Edit 2 ∷ call.Write 2 0 (wide 2) ∷ call.Lock 2 ∷ call.Put 1 ∷ call.Lock 2 ∷ [])
    (n# 0 ∷ Ok answer.Done ∷ n# 1 ∷ n# 1 ∷ n# 1 ∷ Ok answer.Done ∷ Err why.Held ∷ n# 0 ∷ n# 1 ∷ [])

-- seat 15 is served, seat 16 gets 1; an edit that is dropped leaves no lock
abbrev pub last_seat : Case
last_seat = runs 8
    (call.Edit 16 ∷ call.Edit 15 ∷ call.Write 15 0 (wide 1) ∷ call.Lock 15 ∷ call.Drop 15 ∷ call.Edit 0 ∷ call.Write 0 0 (wide 2) ∷ call.Lock 0 ∷ [])
    (Err why.Seat ∷ n# 0 ∷ Ok answer.Done ∷ n# 1 ∷ Ok answer.Done ∷ n# 0 ∷ Ok answer.Done ∷ n# 1 ∷ [])

-- all cases: the runs above, and the cards with their bytes
abbrev pub worked : List Case
worked =
    misfit ∷ overtaken ∷ waiting ∷ one_place ∷ needed ∷ two_moments ∷ in_order ∷ half_put ∷ locks_stay ∷ last_seat
    ∷ map packs packed_cases

-- all of them hold
abbrev pub WorkedCasesHold : Type 0
WorkedCasesHold = AllByRecursion Holds worked
