-- One step by a call, the runs that calls make, and which events lead to which state.
use Rattle.std.specs.Prelude.{List, [], ◌∷◌, Ok, Err, Result}
use Rattle.cards.specs.declared.refusal.Refusal.{Refusal}
use Rattle.rules.specs.NewStore.{Fresh}
use Rattle.rules.specs.Rules.{Outcome, proof, edit, read, write, lock, stamp, put, settle, drop_edit, end, collect}
use Rattle.rules.specs.State.{State}
use Rattle.rules.specs.declared.answer.Answer.{Answer}
use Rattle.rules.specs.declared.answer.Answer.TheVariants as answer
use Rattle.rules.specs.declared.call.Call.{Call}
use Rattle.rules.specs.declared.call.Call.TheVariants as call

-- what a rule gives, as an answer
abbrev pub answering : {X : Type 0} → (X → Answer) → Outcome X → Outcome Answer
answering f (Ok (s, x)) = Ok (s, f x)
answering f (Err r) = Err r

-- granted, with nothing more to tell
abbrev pub done : Unit {0} → Answer
done x = answer.Done

-- the rule of a call
abbrev pub rule_of : Call → State → Outcome Answer
rule_of (call.Proof k) s = answering answer.Number (proof k s)
rule_of (call.Edit k) s = answering answer.Number (edit k s)
rule_of (call.Read k n) s = answering answer.Card (read k n s)
rule_of (call.Write k n c) s = answering done (write k n c s)
rule_of (call.Lock k) s = answering answer.Number (lock k s)
rule_of (call.Stamp k) s = answering answer.Number (stamp k s)
rule_of (call.Put k) s = answering answer.Number (put k s)
rule_of (call.Settle k) s = answering answer.Number (settle k s)
rule_of (call.Drop k) s = answering done (drop_edit k s)
rule_of (call.End k) s = answering done (end k s)
rule_of (call.Collect n) s = answering answer.Number (collect n s)

-- the state and the answer after a rule: granted, those that it gives; declined, the state as it was and the refusal
abbrev pub stepped : {X : Type 0} → State → Outcome X → State × Result X Refusal
stepped s (Ok (t, a)) = (t, Ok a)
stepped s (Err r) = (s, Err r)

-- one call, by its rule
abbrev pub step : State → Call → State × Result Answer Refusal
step s c = stepped s (rule_of c s)

-- a call with its answer
pub record Event : Type 0 where
  pub call : Call
  pub answer : Result Answer Refusal

-- the event of a call and its answer
abbrev pub event : Call → Result Answer Refusal → Event
event c a = record { call = c; answer = a }

-- the events, the newest first, that led from a new store over an empty keeper to a state
pub data Reached : List Event → State → Type 0 where
  new : {s : State} → Fresh s → Reached [] s
  more : {h : List Event} {s : State} (c : Call) → Reached h s → Reached (record { call = c; answer = (step s c).1 } ∷ h) (step s c).0

-- the answers to a list of calls, made in their order
abbrev pub answers : State → List Call → List (Result Answer Refusal)
answers s [] = []
answers s (c ∷ cs) = (step s c).1 ∷ answers (step s c).0 cs

-- the state after the calls, in their order
abbrev pub play : State → List Call → State
play s [] = s
play s (c ∷ cs) = play (step s c).0 cs

-- the events h, and then the calls with their answers
abbrev pub events : List Event → List Call → List (Result Answer Refusal) → List Event
events h (c ∷ cs) (a ∷ rs) = events (event c a ∷ h) cs rs
events h cs rs = h
