-- The lines of a script answered one by one into lent memory.
use Rattle.std.proofs.Common.{◌≡◌, ℕ, ◌+◌, ◌*◌, ◌≤◌, List, [], ◌∷◌, ◌++◌, length, map, take, drop, Ok, Err, Result, sym, refl, ap, ◌∙◌, append-nil, arith}
use Rattle.std.proofs.lemmas.List.{append_assoc, drop-drop}
use Rattle.rules.specs.Runs.{step, play}
use Rattle.rules.specs.State.{State}
use Rattle.rules.specs.declared.call.Call.{Call}
use Rattle.scripts.specs.Lines.{read}
use Rattle.scripts.specs.Scripts.{lines, readings, calls_in, whole_text}
use Rattle.scripts.specs.Texts.{answer_text, unread_text}
use Rattle.scripts.specs.declared.line.TheConstants.{MOST_BYTES}

-- the first of some lines, and the rest
state_first : (s : State) (r : Result Call ℕ) (said : List (Result Call ℕ)) → play s (calls_in (r ∷ said)) ≡ play (play s (calls_in (r ∷ []))) (calls_in said)
state_first s (Ok c) said = refl
state_first s (Err place) said = refl

text_first : (s : State) (r : Result Call ℕ) (said : List (Result Call ℕ)) → whole_text s (r ∷ said) ≡ whole_text s (r ∷ []) ++ whole_text (play s (calls_in (r ∷ []))) said
text_first s (Ok c) said = ap (λ t. t ++ whole_text (step s c).0 said) (sym (append-nil (answer_text c (step s c).1)))
text_first s (Err place) said = ap (λ t. t ++ whole_text s said) (sym (append-nil (unread_text place)))

-- from the state s and the memory old, lines of a script were answered, the rest are left, and that led to the state v and the memory m
-- with so many bytes written
pub record Answered (s : State) (script old : List ℕ) (v : State) (rest : List ℕ) (at : ℕ) (m : List ℕ) : Type 0 where
  pub state : play v (calls_in (readings rest)) ≡ play s (calls_in (readings script))
  pub text : take at m ++ whole_text v (readings rest) ≡ whole_text s (readings script)
  pub behind : drop at m ≡ drop at old
  pub len : length m ≡ length old
  pub room : at + MOST_BYTES * length (lines rest) ≤ length m

-- one line more
pub answered_more : (s : State) (script old : List ℕ) (v w : State) (rest more line text : List ℕ) (at size : ℕ) (m m' : List ℕ) → lines rest ≡ line ∷ lines more → w ≡ play v (calls_in (read line ∷ [])) → text ≡ whole_text v (read line ∷ []) → size ≡ length text → size ≤ MOST_BYTES →
    take (at + length text) m' ≡ take at m ++ text → drop (at + length text) m' ≡ drop (at + length text) m → length m' ≡ length m → Answered s script old v rest at m → Answered s script old w more (at + size) m'
answered_more s script old v w rest more line text at size m m' e p q z short front behind len h =
    let said : readings rest ≡ read line ∷ readings more = ap (map read) e in
    let state : play w (calls_in (readings more)) ≡ play v (calls_in (readings rest)) =
    ap (λ (x : State). play x (calls_in (readings more))) p ∙ sym (state_first v (read line) (readings more)) ∙ ap (λ (x : List (Result Call ℕ)). play v (calls_in x)) (sym said) in
    let later : text ++ whole_text w (readings more) ≡ whole_text v (readings rest) =
    (λ i. q i ++ whole_text (p i) (readings more)) ∙ sym (text_first v (read line) (readings more)) ∙ ap (whole_text v) (sym said) in
    let above : drop (at + length text) m' ≡ drop (at + length text) old = behind ∙ sym (drop-drop (length text) at m) ∙ ap (drop (length text)) h.behind ∙ drop-drop (length text) at old in
    record {
      state = state ∙ h.state;
      text = ap (λ (n : ℕ). take (at + n) m' ++ whole_text w (readings more)) z ∙ ap (λ (x : List ℕ). x ++ whole_text w (readings more)) front ∙ append_assoc (take at m) text (whole_text w (readings more)) ∙ ap (λ (x : List ℕ). take at m ++ x) later ∙ h.text;
      behind = rw z above;
      len = len ∙ h.len;
      room = omega (arith, h.room, ap length e);
    }
