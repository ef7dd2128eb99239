-- A call that goes on by the change of one seat, which may be declined.
use Rattle.std.proofs.Common.{◌≡◌, ℕ, ◌<◌, List, length, get_or, set, Ok, Err, Result, IfOk, IfErr, OnErr, ap, ◌∙◌, subst}
use Rattle.std.specs.Result.{result_map_both}
use Rattle.std.proofs.lemmas.List.{get_or_default, set-get_or}
use Rattle.cards.specs.declared.refusal.Refusal.{Refusal}
use Rattle.rules.specs.Rules.{at_seat}
use Rattle.rules.specs.Runs.{stepped}
use Rattle.rules.specs.Seat.{Seat, idle}
use Rattle.rules.specs.State.{State, seat, with_seat}
use Rattle.table.specs.GoesBy.{GoesBy}

pub on_err : {X E P Q : Type 0} (r : Result X E) → (P → Q) → OnErr r P → OnErr r Q
on_err (Ok x) f p = tt
on_err (Err e) f p = f p

-- the state and what is given are those of the rule, and where it declines no seat is changed
pub record Changed {X : Type 0} (s : State) (k : ℕ) (o : Result Seat Refusal) (given : X) (y : Seat) (r : Result (Unit {0}) Refusal) : Type 0 where
  pub state : with_seat s k y ≡ (stepped s (at_seat s k o given)).0
  pub answer : result_map_both (λ u. given) (λ e. e) r ≡ (stepped s (at_seat s k o given)).1
  pub same : OnErr r (set s.seats k y ≡ s.seats)

-- x is what stands for a seat past the last
pub changed : {X : Type 0} (s : State) (k : ℕ) (given : X) (x y : Seat) (r : Result (Unit {0}) Refusal) (rule : Seat → Result Seat Refusal) →
    k < length s.seats → GoesBy rule (get_or s.seats k x) y r → Changed s k (rule (seat s k)) given y r
changed s k given x y r rule l f =
    let h = subst (λ (z : Seat). GoesBy rule z y r) (get_or_default s.seats k x idle l) f in go (rule (seat s k)) h.granted h.declined
  where
    go : (o : Result Seat Refusal) → IfOk o (λ z. (y ≡ z) × (r ≡ Ok tt)) → IfErr o (λ e. (y ≡ seat s k) × (r ≡ Err e)) → Changed s k o given y r
    go (Ok z) a b = record { state = ap (with_seat s k) a.0; answer = ap (result_map_both (λ u. given) (λ e. e)) a.1; same = rw a.1 tt }
    go (Err e) a b =
        let stays = ap (set s.seats k) b.0 ∙ set-get_or s.seats k idle in
        record { state = ap (λ (xs : List Seat). record s { seats = xs }) stays; answer = ap (result_map_both (λ u. given) (λ e. e)) b.1; same = rw b.1 stays }

pub of_err : {X E P : Type 0} (r : Result X E) (e : E) → r ≡ Err e → OnErr r P → P
of_err (Ok x) e q p = absurd cc
of_err (Err x) e q p = p

pub always : {X E P : Type 0} (r : Result X E) → P → OnErr r P
always (Ok x) p = tt
always (Err e) p = p
