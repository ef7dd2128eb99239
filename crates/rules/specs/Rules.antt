-- One rule a call: from a state, which is the last argument, to the next state with what is given, or why not; the refusals in the order of
-- their numbers, then the effect. A rule that names a seat goes by the seat's stage, in the definition that ends in _at.
use Rattle.std.specs.Prelude.{ℕ, ◌+◌, Bool, List, [], ◌∷◌, map, length, drop, slice_set, Some, None, Ok, Err, Option, Result, nat_le, nat_lt, if◌then◌else◌}
use Rattle.std.specs.Option.{unwrap_or}
use Rattle.cards.specs.Cards.{blank_card, map_of}
use Rattle.cards.specs.Holding.{spare_now, refusal_of}
use Rattle.cards.specs.Kinds.{letter_map, mark_map, pair_map, fits_in}
use Rattle.cards.specs.Versions.{with_card, without}
use Rattle.cards.specs.declared.card.Card.{Card}
use Rattle.cards.specs.declared.draft.Draft.{Draft}
use Rattle.cards.specs.declared.refusal.Refusal.{Refusal}
use Rattle.cards.specs.declared.refusal.Refusal.TheVariants as why
use Rattle.rules.specs.Rows.{locked_by_other, any_locked_by_other, any_stale, take_locks, release_locks}
use Rattle.rules.specs.Seat.{Seat, idle, begin, go_on, note, draft_of, draft}
use Rattle.rules.specs.State.{State, size, seat, row, versions, latest, next_time, ready, floor, unput_all, with_seat, with_rows, with_clock, with_versions}
use Rattle.rules.specs.declared.limits.TheConstants.{SEATS, LAST_TIME}
use Rattle.rules.specs.declared.stage.Stage.{Stage}
use Rattle.rules.specs.declared.stage.Stage.TheVariants as stage

-- ---- what several rules use

-- what a rule gives: the next state and X, or a refusal
abbrev pub Outcome : Type 0 → Type 0
Outcome X = Result (State × X) Refusal

-- Seat for a seat above 15
abbrev pub in_seat : {X : Type 0} → ℕ → Result X Refusal → Result X Refusal
in_seat k r = if nat_lt k SEATS then r else Err why.Seat

-- Entry for an entry that the store does not have
abbrev pub in_entry : {X : Type 0} → State → ℕ → Result X Refusal → Result X Refusal
in_entry s n r = if nat_lt n (size s) then r else Err why.Entry

-- the state with the seat that a change of the seat k makes, and what is given then; a refusal of the change is the call's
abbrev pub at_seat : {X : Type 0} → State → ℕ → Result Seat Refusal → X → Outcome X
at_seat s k (Ok x) given = Ok (with_seat s k x, given)
at_seat s k (Err r) given = Err r

-- ---- proof: idle becomes proof, its start the ready point

abbrev pub proof_at : ℕ → State → Stage → Outcome ℕ
proof_at k s stage.Idle = Ok (with_seat s k (begin (stage.Proof (ready s))), ready s)
proof_at k s g = Err why.Stage

abbrev pub proof : ℕ → State → Outcome ℕ
proof k s = in_seat k (proof_at k s (seat s k).stage)

-- ---- edit: idle becomes edit, its start the clock

abbrev pub edit_at : ℕ → State → Stage → Outcome ℕ
edit_at k s stage.Idle = Ok (with_seat s k (begin (stage.Edit s.clock)), s.clock)
edit_at k s g = Err why.Stage

abbrev pub edit : ℕ → State → Outcome ℕ
edit k s = in_seat k (edit_at k s (seat s k).stage)

-- ---- read: a proof gets the card of its start; an edit its draft, or the newest card, and then the entry joins its reading list once

-- the card of the newest version up to a time, blank without one
abbrev pub card_at : State → ℕ → ℕ → Card
card_at s n t = unwrap_or (latest (versions s n) t) blank_card

-- the newest card: the card at the row's time
abbrev pub newest : State → ℕ → Card
newest s n = card_at s n (row s n).time

-- what an edit with the start t reads, by its draft there
abbrev pub read_edit : ℕ → ℕ → ℕ → State → Option Card → Outcome Card
read_edit k n t s (Some c) = Ok (s, c)
read_edit k n t s None =
    if locked_by_other (row s n).lock k then Err why.Held
    else if nat_lt t (row s n).time then Err why.Stale
    else at_seat s k (note n (seat s k)) (newest s n)

abbrev pub read_at : ℕ → ℕ → State → Stage → Outcome Card
read_at k n s (stage.Proof t) = in_entry s n (Ok (s, card_at s n t))
read_at k n s (stage.Edit t) = in_entry s n (read_edit k n t s (draft_of (seat s k).drafts n))
read_at k n s g = Err why.Stage

abbrev pub read : ℕ → ℕ → State → Outcome Card
read k n s = in_seat k (read_at k n s (seat s k).stage)

-- ---- write: the card becomes the edit's draft

-- the map of the fields that an entry's kind may bear
abbrev pub kind_map : State → ℕ → ℕ
kind_map s n =
    if nat_lt n s.sizes.letters then letter_map
    else if nat_lt n (s.sizes.letters + s.sizes.marks) then mark_map
    else pair_map

-- the card has no bit that the entry's kind may not bear
abbrev pub fits : State → ℕ → Card → Bool
fits s n c = fits_in (kind_map s n) (map_of c)

abbrev pub write_at : ℕ → ℕ → Card → State → Stage → Outcome (Unit {0})
write_at k n c s (stage.Edit t) = in_entry s n (if fits s n c then at_seat s k (draft n c (seat s k)) tt else Err why.Misfit)
write_at k n c s g = Err why.Stage

abbrev pub write : ℕ → ℕ → Card → State → Outcome (Unit {0})
write k n c s = in_seat k (write_at k n c s (seat s k).stage)

-- ---- lock: all drafted entries are locked

-- the entry of a draft
abbrev pub entry_of : Draft → ℕ
entry_of d = d.entry

abbrev pub lock_at : ℕ → State → Stage → Outcome ℕ
lock_at k s (stage.Edit t) =
    if any_locked_by_other s.rows k (map entry_of (seat s k).drafts) then Err why.Held
    else Ok (
      with_rows (with_seat s k (go_on (stage.Locked t) (seat s k))) (take_locks s.rows k (seat s k).drafts),
      length (seat s k).drafts,
    )
lock_at k s g = Err why.Stage

abbrev pub lock : ℕ → State → Outcome ℕ
lock k s = in_seat k (lock_at k s (seat s k).stage)

-- ---- stamp: the reads are checked and the next time is taken, in one call

-- too few places are spare for the drafts that are not put yet and this seat's own
abbrev pub lacks_places : ℕ → State → Bool
lacks_places k s = nat_lt (spare_now s.holding) (unput_all s.seats + length (seat s k).drafts)

abbrev pub stamp_at : ℕ → State → Stage → Outcome ℕ
stamp_at k s (stage.Locked t) =
    if any_locked_by_other s.rows k (seat s k).reads then Err why.Held
    else if any_stale s.rows t (seat s k).reads then Err why.Stale
    else if lacks_places k s then Err why.Places
    else if nat_le LAST_TIME s.clock then Err why.Clock
    else Ok (with_clock (with_seat s k (go_on (stage.Stamped (s.clock + 1) 0) (seat s k))) (s.clock + 1), s.clock + 1)
stamp_at k s g = Err why.Stage

abbrev pub stamp : ℕ → State → Outcome ℕ
stamp k s = in_seat k (stamp_at k s (seat s k).stage)

-- ---- put: the keeper takes the next draft, at the edit's time; the entry's row has that time from now on, and no lock

-- the draft d, the next after p others, with the edit's time t, by why the keeper refuses it, if it does
abbrev pub put_draft : ℕ → ℕ → ℕ → Draft → State → Option Refusal → Outcome ℕ
put_draft k t p d s (Some r) = Err r
put_draft k t p d s None = Ok (
  with_versions
      (with_rows (with_seat s k (go_on (stage.Stamped t (p + 1)) (seat s k))) (slice_set s.rows d.entry (record { time = t; lock = None })))
      (with_card s.holding.kept d.entry t d.card),
  length (drop (p + 1) (seat s k).drafts),
)

-- by the drafts that are left
abbrev pub put_next : ℕ → ℕ → ℕ → State → List Draft → Outcome ℕ
put_next k t p s [] = Err why.Stage
put_next k t p s (d ∷ ds) = put_draft k t p d s (refusal_of s.holding d.entry t)

abbrev pub put_at : ℕ → State → Stage → Outcome ℕ
put_at k s (stage.Stamped t p) = put_next k t p s (drop p (seat s k).drafts)
put_at k s g = Err why.Stage

abbrev pub put : ℕ → State → Outcome ℕ
put k s = in_seat k (put_at k s (seat s k).stage)

-- ---- settle: stamped becomes idle

abbrev pub settle_at : ℕ → State → Stage → Outcome ℕ
settle_at k s (stage.Stamped t p) =
    if nat_lt p (length (seat s k).drafts) then Err why.Unput
    else if nat_lt (ready s) t then Err why.Waiting
    else Ok (with_seat s k idle, t)
settle_at k s g = Err why.Stage

abbrev pub settle : ℕ → State → Outcome ℕ
settle k s = in_seat k (settle_at k s (seat s k).stage)

-- ---- drop: a seat in edit, or locked, becomes idle and lets its locks go

-- whichever of the two stages it was in
abbrev pub dropped : ℕ → State → Outcome (Unit {0})
dropped k s = Ok (with_rows (with_seat s k idle) (release_locks s.rows k (seat s k).drafts), tt)

abbrev pub drop_at : ℕ → State → Stage → Outcome (Unit {0})
drop_at k s (stage.Edit t) = dropped k s
drop_at k s (stage.Locked t) = dropped k s
drop_at k s g = Err why.Stage

abbrev pub drop_edit : ℕ → State → Outcome (Unit {0})
drop_edit k s = in_seat k (drop_at k s (seat s k).stage)

-- ---- end: proof becomes idle

abbrev pub end_at : ℕ → State → Stage → Outcome (Unit {0})
end_at k s (stage.Proof t) = Ok (with_seat s k idle, tt)
end_at k s g = Err why.Stage

abbrev pub end : ℕ → State → Outcome (Unit {0})
end k s = in_seat k (end_at k s (seat s k).stage)

-- ---- collect: the entry's oldest version goes, if the one after it has a time that is not above the floor

-- by the follower, up to the floor, of the oldest version, whose time is t
abbrev pub collect_next : ℕ → ℕ → State → Option ℕ → Outcome ℕ
collect_next n t s None = Err why.Needed
collect_next n t s (Some f) = Ok (with_versions s (without s.holding.kept n t), t)

-- by the time of the oldest version, up to the floor
abbrev pub collect_oldest : ℕ → State → Option ℕ → Outcome ℕ
collect_oldest n s None = Err why.Needed
collect_oldest n s (Some t) = collect_next n t s (next_time (versions s n) t (floor s))

abbrev pub collect : ℕ → State → Outcome ℕ
collect n s = in_entry s n (collect_oldest n s (next_time (versions s n) 0 (floor s)))
