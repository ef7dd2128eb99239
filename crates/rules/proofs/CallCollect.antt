-- Collect keeps the invariant.
use Rattle.std.proofs.Common.{◌≡◌, ℕ, ◌⊎◌, nat_lt, List, Some, None, Option, sym, refl, ◌∙◌, inl, inr, arith}
use Rattle.cards.proofs.Counts.{without_other}
use Rattle.cards.specs.Versions.{without}
use Rattle.cards.specs.declared.card.Card.{Card}
use Rattle.cards.specs.declared.refusal.Refusal.TheVariants as why
use Rattle.rules.specs.Rules.{collect_next, collect_oldest, collect}
use Rattle.rules.specs.Runs.{Event, answering}
use Rattle.rules.specs.State.{State, size, versions, next_time, floor, ready}
use Rattle.rules.specs.declared.answer.Answer.TheVariants as answer
use Rattle.rules.specs.declared.call.Call.TheVariants as call
use Rattle.rules.proofs.Inv.{Inv, Keeps, Gone, lawful_with}
use Rattle.rules.proofs.Ready.{floor_le, floor_off}
use Rattle.rules.proofs.SeatCalls.{if_passed}
use Rattle.rules.proofs.Versions.{cases_two, next_some}

module _ (h : List Event) (s : State) (i : Inv h s) (n : ℕ) where
  collected : (t f : ℕ) → next_time (versions s n) t (floor s) ≡ Some f → Keeps h s (call.Collect n) (answering answer.Number (collect_next n t s (Some f)))
  collected t f e = record {
    put = i.put;
    shape = i.shape;
    seats = i.seats;
    history = i.history;
    keeper = record {
      lawful = lawful_with s.holding (without s.holding.kept n t) i.keeper.lawful;
      only = λ m u c q. let o = i.keeper.only m u c in grind arith;
      keeps = λ m u c p q. gone m u c p q (cases_two n t m u);
      room = let l = i.keeper.room in let r = i.keeper.lawful.removes s.holding.kept n t in omega arith;
    };
  }
    where
      gone : (m u : ℕ) (c : Card) → i.put m u ≡ Some c → without s.holding.kept n t m u ≡ None → ((m ≡ n) × (u ≡ t)) ⊎ (m ≡ n → u ≡ t → ⊥) → Gone (i.put m) (ready s) s.seats u
      gone m u c p q (inr w) = i.keeper.keeps m u c p (sym (without_other s.holding.kept n t m u w) ∙ q)
      gone m u c p q (inl w) =
          let z = next_some (versions s n) t (floor s) f e in
          rw (w.0, w.1) (f, (let o = i.keeper.only n f in grind arith), z.0, (let l = z.1 in let r = floor_le (ready s) s.seats in omega arith), floor_off (ready s) s.seats t f z.1)

  pub collect_keeps : Keeps h s (call.Collect n) (answering answer.Number (collect n s))
  collect_keeps = if_passed h s i (call.Collect n) answer.Number why.Entry _ (nat_lt n (size s)) (λ b. oldest (next_time (versions s n) 0 (floor s)))
    where
      next : (t : ℕ) (y : Option ℕ) → next_time (versions s n) t (floor s) ≡ y → Keeps h s (call.Collect n) (answering answer.Number (collect_next n t s y))
      next t None e = i
      next t (Some f) e = collected t f e

      oldest : (x : Option ℕ) → Keeps h s (call.Collect n) (answering answer.Number (collect_oldest n s x))
      oldest None = i
      oldest (Some t) = next t (next_time (versions s n) t (floor s)) refl
