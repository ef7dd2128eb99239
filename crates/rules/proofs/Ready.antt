-- The ready point and the floor.
use Rattle.std.proofs.Common.{◌≡◌, ℕ, zero, suc, ◌-◌, ◌<◌, ◌≤◌, List, [], ◌∷◌, length, get_or, refl, arith}
use Rattle.cards.specs.declared.draft.Draft.{Draft}
use Rattle.rules.specs.Seat.{Seat, idle}
use Rattle.rules.specs.State.{lower_ready, ready_of, lower_floor, floor_of}
use Rattle.rules.specs.declared.stage.Stage.TheVariants as stage
use Rattle.rules.specs.declared.stage.Stage.{Stage}

-- what is left to put is above b
abbrev pub LateAt : ℕ → List Draft → Stage → Type 0
LateAt b ds (stage.Stamped t p) = p < length ds → b ≤ t - 1
LateAt b ds g = Unit {0}

abbrev pub Late : ℕ → Seat → Type 0
Late b x = LateAt b x.drafts x.stage

pub ready_le : (r : ℕ) (xs : List Seat) → ready_of r xs ≤ r
ready_le r [] = omega arith
ready_le r (x ∷ xs) = let h = ready_le (lower_ready r x.drafts x.stage) xs in grind arith

pub ready_late : (r : ℕ) (xs : List Seat) (k : ℕ) → Late (ready_of r xs) (get_or xs k idle)
ready_late r [] k = tt
ready_late r (x ∷ xs) zero = let h = ready_le (lower_ready r x.drafts x.stage) xs in grind arith
ready_late r (x ∷ xs) (suc k) = ready_late (lower_ready r x.drafts x.stage) xs k

pub ready_most : (b r : ℕ) (xs : List Seat) → b ≤ r → ((k : ℕ) → Late b (get_or xs k idle)) → b ≤ ready_of r xs
ready_most b r [] l h = l
ready_most b r (x ∷ xs) l h = ready_most b (lower_ready r x.drafts x.stage) xs (let z = h 0 in grind arith) (λ k. h (suc k))

-- ---- the floor

-- an open proof starts outside of t up to just before g
abbrev pub Off : ℕ → ℕ → Stage → Type 0
Off t g (stage.Proof u) = t ≤ u → g ≤ u
Off t g x = Unit {0}

pub floor_le : (r : ℕ) (xs : List Seat) → floor_of r xs ≤ r
floor_le r [] = omega arith
floor_le r (x ∷ xs) = let h = floor_le (lower_floor r x.stage) xs in grind arith

pub floor_off : (r : ℕ) (xs : List Seat) (t g : ℕ) → g ≤ floor_of r xs → (k : ℕ) → Off t g (get_or xs k idle).stage
floor_off r [] t g l k = tt
floor_off r (x ∷ xs) t g l zero = let h = floor_le (lower_floor r x.stage) xs in grind arith
floor_off r (x ∷ xs) t g l (suc k) = floor_off (lower_floor r x.stage) xs t g l k

-- with no proof open the floor is the ready point
abbrev pub NoProof : Stage → Type 0
NoProof (stage.Proof u) = ⊥
NoProof x = Unit {0}

pub floor_ready : (r : ℕ) (xs : List Seat) → ((k : ℕ) → NoProof (get_or xs k idle).stage) → floor_of r xs ≡ r
floor_ready r [] h = refl
floor_ready r (x ∷ xs) h = let e = floor_ready (lower_floor r x.stage) xs (λ k. h (suc k)) in let n = h 0 in grind arith
