-- What put does where its seat is stamped, a draft is left and the keeper takes it.
use Rattle.std.proofs.Common.{◌≡◌, ℕ, ◌+◌, ◌<◌, List, [], ◌∷◌, length, drop, set, Some, None, Ok, arith}
use Rattle.std.proofs.lemmas.Bool.{lt-ltb}
use Rattle.std.specs.Prelude.{slice_get}
use Rattle.cards.specs.Holding.{Holding, refusal_of}
use Rattle.cards.specs.Versions.{with_card}
use Rattle.cards.specs.declared.draft.Draft.{Draft}
use Rattle.rules.specs.Rules.{put, put_next}
use Rattle.rules.specs.Seat.{Seat, go_on}
use Rattle.rules.specs.declared.row.Row.{Row}
use Rattle.rules.specs.declared.sizes.Sizes.{Sizes}
use Rattle.rules.specs.State.{State, seat, with_seat, with_rows, with_versions}
use Rattle.rules.specs.declared.limits.TheConstants.{SEATS}
use Rattle.rules.specs.declared.stage.Stage.TheVariants as stage

module _ (s : State) (k t p : ℕ) (d : Draft) where
  abbrev pub after_put : State
  after_put = with_versions
      (with_rows (with_seat s k (go_on (stage.Stamped t (p + 1)) (seat s k))) (set s.rows d.entry (record { time = t; lock = None })))
      (with_card s.holding.kept d.entry t d.card)

  pub put_granted : k < SEATS → (seat s k).stage ≡ stage.Stamped t p → slice_get (drop p (seat s k).drafts) 0 ≡ Some d → refusal_of s.holding d.entry t ≡ None →
      put k s ≡ Ok (after_put, length (drop (p + 1) (seat s k).drafts))
  put_granted l at first free = let lt = lt-ltb k SEATS l in rw (lt, at) (go (drop p (seat s k).drafts) first)
    where
      go : (ds : List Draft) → slice_get ds 0 ≡ Some d → put_next k t p s ds ≡ Ok (after_put, length (drop (p + 1) (seat s k).drafts))
      go [] h = grind arith
      go (x ∷ xs) h = grind arith

-- a state is its parts
abbrev parts : Sizes → ℕ → List Seat → List Row → Holding → State
parts z t xs rs h = record { sizes = z; seats = xs; rows = rs; clock = t; holding = h }

-- two states of the same sizes and clock
pub same_state : {z : Sizes} {t : ℕ} {xs ys : List Seat} {rs qs : List Row} {h m : Holding} → xs ≡ ys → rs ≡ qs → h ≡ m → parts z t xs rs h ≡ parts z t ys qs m
same_state {z} {t} p q r = λ i. parts z t (p i) (q i) (r i)
