-- A run goes on: by one call, and by a list of calls.
use Rattle.std.proofs.Common.{◌≡◌, List, [], ◌∷◌, ◌++◌, Result, sym, refl, ap, ◌∙◌, subst₂}
use Rattle.cards.specs.declared.refusal.Refusal.{Refusal}
use Rattle.rules.proofs.RunOk.{size_step}
use Rattle.rules.proofs.Law.{law_holds_lem}
use Rattle.rules.specs.Law.{Law, LawOfLists}
use Rattle.rules.specs.Runs.{step, Event, event, Reached, new, more, answers, play, events}
use Rattle.rules.specs.State.{State, size}
use Rattle.rules.specs.declared.answer.Answer.{Answer}
use Rattle.rules.specs.declared.call.Call.{Call}

-- ---- one call

-- one call more, which led to what its rule says, and the law holds of the run
pub reached_step : (h : List Event) (s t : State) (c : Call) (a : Result Answer Refusal) → t ≡ (step s c).0 → a ≡ (step s c).1 →
    Reached h s → Reached (event c a ∷ h) t × Law (event c a ∷ h) t
reached_step h s t c a p q r =
    let next = subst₂ (λ (x : Result Answer Refusal) (y : State). Reached (event c x ∷ h) y) (sym q) (sym p) (more c r) in
    (next, law_holds_lem (event c a ∷ h) t next)

-- ---- a list of calls

play_reached : (cs : List Call) (h : List Event) (s : State) → Reached h s → Reached (events h cs (answers s cs)) (play s cs)
play_reached [] h s r = r
play_reached (c ∷ cs) h s r = play_reached cs (event c (step s c).1 ∷ h) (step s c).0 (more c r)

-- the events of the calls are those of their answers, whatever stands behind them
events_front : (cs : List Call) (h : List Event) (s : State) (rest : List (Result Answer Refusal)) → events h cs (answers s cs) ≡ events h cs (answers s cs ++ rest)
events_front [] h s rest = refl
events_front (c ∷ cs) h s rest = events_front cs (event c (step s c).1 ∷ h) (step s c).0 rest

-- a run goes on by calls made in order, whose answers stand first in memory, and the law holds of it
pub lawful_play : (cs : List Call) (s t : State) (rs rest : List (Result Answer Refusal)) → t ≡ play s cs → rs ≡ answers s cs ++ rest →
    (h : List Event) → Reached h s → Reached (events h cs rs) t × Law (events h cs rs) t
lawful_play cs s t rs rest p q h r =
    let next = subst₂ Reached (events_front cs h s rest ∙ sym (ap (events h cs) q)) (sym p) (play_reached cs h s r) in
    (next, law_holds_lem (events h cs rs) t next)

-- the law of a run from a new store
pub law_of_lists : LawOfLists
law_of_lists cs s f = law_holds_lem (events [] cs (answers s cs)) (play s cs) (play_reached cs [] s (new f))

-- no calls change how many entries there are
pub size_play : (cs : List Call) (s : State) → size (play s cs) ≡ size s
size_play [] s = refl
size_play (c ∷ cs) s = size_play cs (step s c).0 ∙ size_step s c
