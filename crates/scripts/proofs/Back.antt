-- The line of a call is read back as that call.
use Rattle.std.proofs.Common.{◌≡◌, ℕ, ◌+◌, ◌<◌, ◌≤◌, true, false, cond, List, [], ◌∷◌, ◌++◌, length, ℤ, is_some, Option, Some, None, Ok, Err, decimal, refl, sym, ap, ◌∙◌, append-nil, arith}
use Rattle.std.proofs.lemmas.Bool.{le-ltb}
use Rattle.std.proofs.lemmas.Bool.Decides.{nat_tests}
use Rattle.std.proofs.lemmas.List.Elements.{All-cons, All-nil}
use Rattle.cards.specs.Cards.{map_of, Fit, Fits}
use Rattle.cards.specs.declared.card.Card.{Card}
use Rattle.rules.specs.declared.call.Call.{Call}
use Rattle.rules.specs.declared.call.Call.TheVariants as call
use Rattle.scripts.specs.Words.{is_space, is_letter, words}
use Rattle.scripts.specs.Lines.{Left, fit, fit_if, next_if, seat_or_entry, alone, read_of, card_of, write_of, call_of, read_words, read, ◌>>=◌}
use Rattle.scripts.specs.Texts.{spaced, fields, numbers_of, call_text}
use Rattle.scripts.specs.declared.reader.TheConstants.{MOST_LINE, MOST_MAP}
use Rattle.scripts.proofs.Bits.{map_told}
use Rattle.scripts.proofs.Numbers.{number_back, field_back}
use Rattle.scripts.proofs.Spaced.{spaced_words, AllUnspaced, words_back, number_unspaced, with_field, words_of, fields_spaced, fields_unspaced}

-- what the arguments of every call that a program holds satisfy
abbrev pub Holdable : Call → Type 0
Holdable (call.Proof seat) = seat < 65536
Holdable (call.Edit seat) = seat < 65536
Holdable (call.Read seat entry) = (seat < 65536) × (entry < 65536)
Holdable (call.Write seat entry card) = (seat < 65536) × (entry < 65536) × Fits card
Holdable (call.Lock seat) = seat < 65536
Holdable (call.Stamp seat) = seat < 65536
Holdable (call.Put seat) = seat < 65536
Holdable (call.Settle seat) = seat < 65536
Holdable (call.Drop seat) = seat < 65536
Holdable (call.End seat) = seat < 65536
Holdable (call.Collect entry) = entry < 65536

-- words that are left, from a place on
abbrev pub at : List (List ℕ) → ℕ → Left
at more place = record { words = more; place = place }

-- ---- cards

-- the place behind a field
abbrev behind : Option ℤ → ℕ → ℕ
behind None place = place
behind (Some z) place = place + 1

field_read : (o : Option ℤ) (more : List (List ℕ)) (place : ℕ) → Fit o → fit_if (is_some o) (at (with_field o more) place) ≡ Ok o
field_read None more place h = refl
field_read (Some z) more place h = rw (field_back z h)

field_passed : (o : Option ℤ) (more : List (List ℕ)) (place : ℕ) → next_if (is_some o) (at (with_field o more) place) ≡ at more (behind o place)
field_passed None more place = refl
field_passed (Some z) more place = refl

card_read : (c : Card) (place : ℕ) → Fits c → card_of (map_of c) (at (words_of (fields c)) place) ≡ Ok c
unfolding card_of
card_read c place h =
    let t = map_told c in
    rw (
      t.advance,
      field_read c.advance _ place h.0,
      field_passed c.advance _ place,
      t.left_bearing,
      field_read c.left_bearing _ _ h.1,
      field_passed c.left_bearing,
      t.anchor_across,
      field_read c.anchor_across _ _ h.2,
      field_passed c.anchor_across,
      t.anchor_up,
      field_read c.anchor_up _ _ h.3,
      field_passed c.anchor_up,
      t.mark_class,
      field_read c.mark_class _ _ h.4,
      field_passed c.mark_class,
      t.kern,
      field_read c.kern _ _ h.5,
      field_passed c.kern,
    )

-- ---- the numbers of a call

number_read : (n : ℕ) (more : List (List ℕ)) (place : ℕ) → n < 65536 → fit seat_or_entry (at (decimal n ∷ more) place) ≡ Ok n
number_read n more place h = rw (number_back n h 65535 (omega arith))

alone_read : (n place : ℕ) → n < 65536 → alone (at (decimal n ∷ []) place) ≡ Ok n
unfolding alone
alone_read n place h = rw (number_read n [] place h)

reading_read : (seat entry place : ℕ) → seat < 65536 → entry < 65536 → read_of (at (decimal seat ∷ decimal entry ∷ []) place) ≡ Ok (call.Read seat entry)
unfolding read_of
reading_read seat entry place h k = rw (number_read seat (decimal entry ∷ []) place h, alone_read entry (place + 1) k)

write_read : (seat entry : ℕ) (card : Card) (place : ℕ) → seat < 65536 → entry < 65536 → Fits card
    → write_of (at (decimal seat ∷ decimal entry ∷ decimal (map_of card) ∷ words_of (fields card)) place) ≡ Ok (call.Write seat entry card)
unfolding write_of
write_read seat entry card place h k fits =
    let rest : List (List ℕ) = words_of (fields card) in
    let map = number_back (map_of card) (omega (arith, (map_told card).small)) MOST_MAP (map_told card).small in
    rw (number_read seat (decimal entry ∷ decimal (map_of card) ∷ rest) place h, number_read entry (decimal (map_of card) ∷ rest) (place + 1) k, map, card_read card (place + 1 + 1 + 1) fits)

-- ---- calls

unspaced_name : (name : ℕ) → is_letter (name ∷ []) ≡ true → is_space name ≡ false
unspaced_name name small = grind (arith, nat_tests)

-- a line of a small letter and other words
line_read : (name : ℕ) (text : List ℕ) (ws : List (List ℕ)) → is_letter (name ∷ []) ≡ true → text ≡ spaced_words ws → AllUnspaced ws → length (name ∷ text) ≤ MOST_LINE → read (name ∷ text) ≡ call_of name (at ws 2)
unfolding read_words
line_read name text ws small e us short =
    let all : words (name ∷ text) ≡ (name ∷ []) ∷ ws = ap (λ t. words (name ∷ t)) e ∙ words_back (name ∷ []) ws (All-cons (λ byte. is_space byte ≡ false) name [] (unspaced_name name small) (All-nil (λ byte. is_space byte ≡ false))) us in
    ap (λ long. cond long (Err 0) (read_words (at (words (name ∷ text)) 1))) (le-ltb MOST_LINE (length (name ∷ text)) short)
    ∙ ap (λ l. read_words (at l 1)) all ∙ rw small

-- a call that has one number
one_back : (name n : ℕ) (make : ℕ → Call) → is_letter (name ∷ []) ≡ true → n < 65536 → length (name ∷ spaced n) ≤ MOST_LINE → ((l : Left) → call_of name l ≡ (alone l >>= (λ m. Ok (make m)))) → read (name ∷ spaced n) ≡ Ok (make n)
one_back name n make small h short is =
    line_read name (spaced n) (decimal n ∷ []) small (ap (λ t. 32 ∷ t) (sym (append-nil (decimal n)))) (number_unspaced n h, tt) short
    ∙ is (at (decimal n ∷ []) 2) ∙ rw (alone_read n 2 h)

pub read_back : (c : Call) → Holdable c → length (call_text c) ≤ MOST_LINE → read (call_text c) ≡ Ok c
unfolding call_of
read_back (call.Proof seat) h l = one_back 112 seat call.Proof refl h l (λ _. refl)
read_back (call.Edit seat) h l = one_back 101 seat call.Edit refl h l (λ _. refl)
read_back (call.Read seat entry) h l =
    line_read 114 (spaced seat ++ spaced entry) (decimal seat ∷ decimal entry ∷ []) refl
    (ap (λ t. spaced seat ++ (32 ∷ t)) (sym (append-nil (decimal entry)))) (number_unspaced seat h.0, (number_unspaced entry h.1, tt)) l
    ∙ reading_read seat entry 2 h.0 h.1
read_back (call.Write seat entry card) h l =
    line_read 119 (numbers_of (call.Write seat entry card)) (decimal seat ∷ decimal entry ∷ decimal (map_of card) ∷ words_of (fields card)) refl
    (ap (λ t. spaced seat ++ (spaced entry ++ (spaced (map_of card) ++ t))) (fields_spaced (fields card)))
    (number_unspaced seat h.0, (number_unspaced entry h.1, (number_unspaced (map_of card) (omega (arith, (map_told card).small)), fields_unspaced (fields card) (h.2.0, (h.2.1, (h.2.2, (h.2.3, (h.2.4, (h.2.5, tt))))))))) l
    ∙ write_read seat entry card 2 h.0 h.1 h.2
read_back (call.Lock seat) h l = one_back 108 seat call.Lock refl h l (λ _. refl)
read_back (call.Stamp seat) h l = one_back 115 seat call.Stamp refl h l (λ _. refl)
read_back (call.Put seat) h l = one_back 117 seat call.Put refl h l (λ _. refl)
read_back (call.Settle seat) h l = one_back 116 seat call.Settle refl h l (λ _. refl)
read_back (call.Drop seat) h l = one_back 100 seat call.Drop refl h l (λ _. refl)
read_back (call.End seat) h l = one_back 113 seat call.End refl h l (λ _. refl)
read_back (call.Collect entry) h l = one_back 99 entry call.Collect refl h l (λ _. refl)
