-- A line that is read to a call is the line that is written for it, so that each call has one line.
use Rattle.std.proofs.Common.{◌≡◌, ℕ, ◌≤◌, Bool, true, false, cond, ◌==◌, List, [], ◌∷◌, ◌++◌, length, drop, ℤ, is_some, nat_lt, IfOk, Option, None, Some, Result, Ok, Err, ok_or, decimal, refl, sym, ap, ◌∙◌, subst, append-nil}
use Rattle.std.specs.Fmt.{signed_decimal}
use Rattle.std.proofs.lemmas.Bool.{cond_both, eqb-true}
use Rattle.std.proofs.lemmas.Option.{none-some, cond_some}
use Rattle.cards.specs.declared.card.Card.{Card}
use Rattle.rules.specs.declared.call.Call.{Call}
use Rattle.rules.specs.declared.call.Call.TheVariants as call
use Rattle.scripts.specs.Words.{is_letter, letter, number, field}
use Rattle.scripts.specs.Lines.{Left, fit, next, end_of, end, seat_or_entry, alone, read_of, fit_if, next_if, bit_of, card_of, write_of, call_of, all_of, read_words, read, ◌>>=◌}
use Rattle.scripts.specs.Texts.{spaced, spaced_field, card_text, call_text}
use Rattle.scripts.specs.declared.reader.TheConstants.{MOST_LINE, MOST_NUMBER, MOST_MAP}
use Rattle.scripts.proofs.Back.{at}
use Rattle.scripts.proofs.Bits.{map_from_told}
use Rattle.scripts.proofs.Numbers.{number_once, field_once}
use Rattle.scripts.proofs.Spaced.{spaced_words, spaced_line}

-- ---- one step

-- the text of the words that are left
abbrev rest : Left → List ℕ
rest l = spaced_words l.words

same_Ok : {A : Type 0} (x y : A) → ◌≡◌ {A = Result A ℕ} (Ok x) (Ok y) → x ≡ y
same_Ok x y e = cc

steps : {A B : Type 0} (r : Result A ℕ) (f : A → Result B ℕ) (y : B) → (r >>= f) ≡ Ok y → (x : A) × (r ≡ Ok x) × (f x ≡ Ok y)
steps (Ok x) f y e = (x, refl, e)
steps (Err place) f y e = cc

placed : {A : Type 0} (o : Option A) (place : ℕ) (x : A) → ok_or o place ≡ Ok x → o ≡ Some x
placed (Some x) place y e = ap Some (same_Ok x y e)
placed None place y e = cc

-- the word that fitted
word_fitted : {A : Type 0} (f : List ℕ → Option A) (ws : List (List ℕ)) (place : ℕ) (x : A) → fit f (at ws place) ≡ Ok x → (w : List ℕ) × (f w ≡ Some x) × (ws ≡ w ∷ (next (at ws place)).words)
word_fitted f [] place x e = cc
word_fitted f (w ∷ ws) place x e = (w, placed (f w) place x e, refl)

word_once : {A : Type 0} (f : List ℕ → Option A) (text : A → List ℕ) → ((w : List ℕ) (x : A) → f w ≡ Some x → w ≡ text x) → (l : Left) (x : A) → fit f l ≡ Ok x → rest l ≡ 32 ∷ (text x ++ rest (next l))
word_once f text once l x e =
    let w = word_fitted f l.words l.place x e in
    ap spaced_words w.2 ∙ ap (λ v. 32 ∷ (v ++ rest (next l))) (once w.0 x w.1)

none_once : (ws : List (List ℕ)) (place : ℕ) (u : Unit {0}) → end_of ws place ≡ Ok u → spaced_words ws ≡ []
none_once [] place u e = refl
none_once (w ∷ ws) place u e = cc

-- ---- numbers

seat_or_entry_once : (l : Left) (n : ℕ) → fit seat_or_entry l ≡ Ok n → rest l ≡ spaced n ++ rest (next l)
seat_or_entry_once l n e = word_once seat_or_entry decimal (λ w m is. (number_once MOST_NUMBER w m is).0) l n e

alone_once : (l : Left) (n : ℕ) → alone l ≡ Ok n → rest l ≡ spaced n
unfolding alone
alone_once l n e =
    let number = steps (fit seat_or_entry l) _ n e in
    let none = steps (end (next l)) _ n number.2 in
    seat_or_entry_once l number.0 number.1 ∙ ap (λ t. spaced number.0 ++ t) (none_once (next l).words (next l).place none.0 none.1) ∙ append-nil (spaced number.0) ∙ ap spaced (same_Ok number.0 n none.2)

read_once : (l : Left) (c : Call) → read_of l ≡ Ok c → 114 ∷ rest l ≡ call_text c
unfolding read_of
read_once l c e =
    let seat = steps (fit seat_or_entry l) _ c e in
    let entry = steps (alone (next l)) _ c seat.2 in
    ap (λ t. 114 ∷ t) (seat_or_entry_once l seat.0 seat.1 ∙ ap (λ t. spaced seat.0 ++ t) (alone_once (next l) entry.0 entry.1)) ∙ ap call_text (same_Ok (call.Read seat.0 entry.0) c entry.2)

-- ---- cards

-- a field that was read, or passed over
abbrev Passed : Bool → Left → Option ℤ → Type 0
Passed present l o = (present ≡ is_some o) × (rest l ≡ spaced_field o ++ rest (next_if present l))

field_passed : (present : Bool) (l : Left) (o : Option ℤ) → fit_if present l ≡ Ok o → Passed present l o
field_passed true l o e =
    let z = steps (fit field l) _ o e in
    subst (Passed true l) (same_Ok (Some z.0) o z.2) (refl, word_once field signed_decimal field_once l z.0 z.1)
field_passed false l o e = subst (Passed false l) (same_Ok None o e) (refl, refl)

field_steps : {A : Type 0} (present : Bool) (l : Left) (f : Option ℤ → Result A ℕ) (y : A) → (fit_if present l >>= f) ≡ Ok y → (o : Option ℤ) × Passed present l o × (f o ≡ Ok y)
field_steps present l f y e = let o = steps (fit_if present l) f y e in (o.0, field_passed present l o.0 o.1, o.2)

card_once : (map : ℕ) (l : Left) (c : Card) → map ≤ 63 → card_of map l ≡ Ok c → spaced map ++ rest l ≡ card_text c
unfolding card_of
card_once map l c small e =
    let l₁ = next_if (bit_of map 1) l in
    let l₂ = next_if (bit_of map 2) l₁ in
    let l₃ = next_if (bit_of map 4) l₂ in
    let l₄ = next_if (bit_of map 8) l₃ in
    let l₅ = next_if (bit_of map 16) l₄ in
    let l₆ = next_if (bit_of map 32) l₅ in
    let advance = field_steps (bit_of map 1) l _ c e in
    let left_bearing = field_steps (bit_of map 2) l₁ _ c advance.2 in
    let anchor_across = field_steps (bit_of map 4) l₂ _ c left_bearing.2 in
    let anchor_up = field_steps (bit_of map 8) l₃ _ c anchor_across.2 in
    let mark_class = field_steps (bit_of map 16) l₄ _ c anchor_up.2 in
    let kern = field_steps (bit_of map 32) l₅ _ c mark_class.2 in
    let none = steps (end l₆) _ c kern.2 in
    let made : Card = record { advance = advance.0; left_bearing = left_bearing.0; anchor_across = anchor_across.0; anchor_up = anchor_up.0; mark_class = mark_class.0; kern = kern.0 } in
    let sum = map_from_told map made small advance.1.0 left_bearing.1.0 anchor_across.1.0 anchor_up.1.0 mark_class.1.0 kern.1.0 in
    let text : spaced map ++ rest l ≡ card_text made =
    rw (sum, advance.1.1, left_bearing.1.1, anchor_across.1.1, anchor_up.1.1, mark_class.1.1, kern.1.1, none_once l₆.words l₆.place none.0 none.1) in
    text ∙ ap card_text (same_Ok made c none.2)

map_once : (l : Left) (map : ℕ) → fit (number MOST_MAP) l ≡ Ok map → (rest l ≡ spaced map ++ rest (next l)) × (map ≤ MOST_MAP)
map_once l map e =
    let w = word_fitted (number MOST_MAP) l.words l.place map e in
    (word_once (number MOST_MAP) decimal (λ v m is. (number_once MOST_MAP v m is).0) l map e, (number_once MOST_MAP w.0 map w.1).1)

-- ---- calls

write_once : (l : Left) (c : Call) → write_of l ≡ Ok c → 119 ∷ rest l ≡ call_text c
unfolding write_of
write_once l c e =
    let seat = steps (fit seat_or_entry l) _ c e in
    let entry = steps (fit seat_or_entry (next l)) _ c seat.2 in
    let map = steps (fit (number MOST_MAP) (next (next l))) _ c entry.2 in
    let card = steps (card_of map.0 (next (next (next l)))) _ c map.2 in
    let m = map_once (next (next l)) map.0 map.1 in
    let text : 119 ∷ rest l ≡ call_text (call.Write seat.0 entry.0 card.0) =
    rw (seat_or_entry_once l seat.0 seat.1, seat_or_entry_once (next l) entry.0 entry.1, m.0, card_once map.0 (next (next (next l))) card.0 m.1 card.1) in
    text ∙ ap call_text (same_Ok (call.Write seat.0 entry.0 card.0) c card.2)

-- a call that has one number
one_once : (name : ℕ) (make : ℕ → Call) → ((n : ℕ) → call_text (make n) ≡ name ∷ spaced n) → (l : Left) (c : Call) → (alone l >>= (λ n. Ok (make n))) ≡ Ok c → name ∷ rest l ≡ call_text c
one_once name make is l c e =
    let n = steps (alone l) _ c e in
    ap (λ t. name ∷ t) (alone_once l n.0 n.1) ∙ sym (is n.0) ∙ ap call_text (same_Ok (make n.0) c n.2)

-- a letter that is tried, and those behind it
or_once : (name tried : ℕ) (l : Left) (here other : Result Call ℕ) (c : Call) → (here ≡ Ok c → tried ∷ rest l ≡ call_text c) → (other ≡ Ok c → name ∷ rest l ≡ call_text c) → cond (name == tried) here other ≡ Ok c → name ∷ rest l ≡ call_text c
or_once name tried l here other c this that = cond_both (name == tried) here other (λ r. r ≡ Ok c → name ∷ rest l ≡ call_text c) (λ is e. ap (λ n. n ∷ rest l) (eqb-true name tried is) ∙ this e) (λ is e. that e)

call_once : (name : ℕ) (l : Left) (c : Call) → call_of name l ≡ Ok c → name ∷ rest l ≡ call_text c
unfolding call_of
call_once name l c =
    or_once name 112 l _ _ c (one_once 112 call.Proof (λ _. refl) l c)
    (or_once name 101 l _ _ c (one_once 101 call.Edit (λ _. refl) l c)
    (or_once name 114 l _ _ c (read_once l c)
    (or_once name 119 l _ _ c (write_once l c)
    (or_once name 108 l _ _ c (one_once 108 call.Lock (λ _. refl) l c)
    (or_once name 115 l _ _ c (one_once 115 call.Stamp (λ _. refl) l c)
    (or_once name 117 l _ _ c (one_once 117 call.Put (λ _. refl) l c)
    (or_once name 116 l _ _ c (one_once 116 call.Settle (λ _. refl) l c)
    (or_once name 100 l _ _ c (one_once 100 call.Drop (λ _. refl) l c)
    (or_once name 113 l _ _ c (one_once 113 call.End (λ _. refl) l c)
    (or_once name 99 l _ _ c (one_once 99 call.Collect (λ _. refl) l c) (λ e. cc)))))))))))

letter_once : (w : List ℕ) (b : ℕ) → letter w ≡ Some b → w ≡ b ∷ []
letter_once [] b e = absurd (none-some b e)
letter_once (byte ∷ []) b e = ap (λ c. c ∷ []) (cond_some (is_letter (byte ∷ [])) byte b e).1
letter_once (byte ∷ next ∷ bytes) b e = absurd (none-some b e)

words_once : (line : List ℕ) (c : Call) → read_words (all_of line) ≡ Ok c → line ≡ call_text c
unfolding read_words
words_once line c e =
    let l : Left = all_of line in
    let name = steps (fit letter l) _ c e in
    ap (drop 1) (sym (spaced_line line) ∙ word_once letter (λ b. b ∷ []) letter_once l name.0 name.1) ∙ call_once name.0 (next l) c name.2

-- a line that is read to a call is that call's
pub line_once : (line : List ℕ) (c : Call) → read line ≡ Ok c → line ≡ call_text c
line_once line c = cond_both (nat_lt MOST_LINE (length line)) (Err 0) (read_words (all_of line)) (λ r. r ≡ Ok c → line ≡ call_text c) (λ long e. cc) (λ short. words_once line c)

-- the same of whatever a line is read to
pub answer_once : (line : List ℕ) (r : Result Call ℕ) → r ≡ read line → IfOk r (λ c. line ≡ call_text c)
answer_once line (Ok c) e = line_once line c (sym e)
answer_once line (Err place) e = tt
