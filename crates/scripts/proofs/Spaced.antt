-- A line as its words, each with a space before it.
use Rattle.std.proofs.Common.{◌≡◌, ℕ, ◌<◌, false, List, [], ◌∷◌, ◌++◌, length, All, ℤ, FitsSigned, Option, Some, None, decimal, pos, negsuc, suc, w16, refl, ap, ◌∙◌, append-nil, arith}
use Rattle.std.specs.Fmt.{signed_decimal}
use Rattle.std.specs.List.{flat_map, join_with_byte}
use Rattle.std.specs.Str.Parse.{AllDigits}
use Rattle.std.proofs.lemmas.Bool.{ne_eqb}
use Rattle.std.proofs.lemmas.List.Elements.{All-cons, All-nil}
use Rattle.std.proofs.lemmas.List.Splits.{slice_split_none, slice_split_at, join_with_byte-slice_split, length-slice_split}
use Rattle.std.proofs.lemmas.Str.Parse.{digit_from_value}
use Rattle.cards.specs.Cards.{Fit}
use Rattle.scripts.specs.Words.{is_space, words}
use Rattle.scripts.specs.Texts.{spaced_field}
use Rattle.scripts.proofs.Numbers.{numeral}

abbrev pub spaced_words : List (List ℕ) → List ℕ
spaced_words [] = []
spaced_words (w ∷ ws) = 32 ∷ (w ++ spaced_words ws)

-- ---- the words of a line, joined again

spaced_join : (ws : List (List ℕ)) → 0 < length ws → spaced_words ws ≡ 32 ∷ join_with_byte 32 ws
spaced_join [] l = absurd (omega arith)
spaced_join (w ∷ []) l = ap (λ t. 32 ∷ t) (append-nil w)
spaced_join (w ∷ v ∷ ws) l = ap (λ t. 32 ∷ (w ++ t)) (spaced_join (v ∷ ws) (omega arith))

pub spaced_line : (line : List ℕ) → spaced_words (words line) ≡ 32 ∷ line
spaced_line line = spaced_join (words line) (omega (arith, length-slice_split is_space line)) ∙ ap (λ t. 32 ∷ t) (join_with_byte-slice_split 32 line)

-- ---- words without a space, found again

abbrev pub Unspaced : List ℕ → Type 0
Unspaced word = All (λ byte. is_space byte ≡ false) word

abbrev pub AllUnspaced : List (List ℕ) → Type 0
AllUnspaced [] = Unit {0}
AllUnspaced (w ∷ ws) = Unspaced w × AllUnspaced ws

pub words_back : (w : List ℕ) (ws : List (List ℕ)) → Unspaced w → AllUnspaced ws → words (w ++ spaced_words ws) ≡ w ∷ ws
words_back w [] u us = rw (append-nil w) (slice_split_none is_space w u)
words_back w (v ∷ ws) u us = slice_split_at is_space w 32 (v ++ spaced_words ws) u refl ∙ ap (λ l. w ∷ l) (words_back v ws us.0 us.1)

unspaced : (ds : List ℕ) → AllDigits 10 ds → Unspaced ds
unspaced [] d = All-nil (λ byte. is_space byte ≡ false)
unspaced (c ∷ cs) d = All-cons (λ byte. is_space byte ≡ false) c cs (ne_eqb c 32 (λ e. omega (arith, digit_from_value c d.0))) (unspaced cs d.1)

pub number_unspaced : (n : ℕ) → n < 65536 → Unspaced (decimal n)
number_unspaced n h = unspaced (decimal n) (numeral n h).1

field_unspaced : (z : ℤ) → FitsSigned w16 z → Unspaced (signed_decimal z)
field_unspaced (pos n) h = number_unspaced n (omega (arith, h.sfits))
field_unspaced (negsuc n) h = All-cons (λ byte. is_space byte ≡ false) 45 (decimal (suc n)) refl (number_unspaced (suc n) (omega (arith, h.sfits)))

-- ---- fields

-- a field's word before others, where it is there
abbrev pub with_field : Option ℤ → List (List ℕ) → List (List ℕ)
with_field None more = more
with_field (Some z) more = signed_decimal z ∷ more

abbrev pub words_of : List (Option ℤ) → List (List ℕ)
words_of [] = []
words_of (o ∷ os) = with_field o (words_of os)

abbrev pub AllFit : List (Option ℤ) → Type 0
AllFit [] = Unit {0}
AllFit (o ∷ os) = Fit o × AllFit os

pub fields_spaced : (os : List (Option ℤ)) → flat_map spaced_field os ≡ spaced_words (words_of os)
fields_spaced [] = refl
fields_spaced (None ∷ os) = fields_spaced os
fields_spaced (Some z ∷ os) = ap (λ t. 32 ∷ (signed_decimal z ++ t)) (fields_spaced os)

pub fields_unspaced : (os : List (Option ℤ)) → AllFit os → AllUnspaced (words_of os)
fields_unspaced [] h = tt
fields_unspaced (None ∷ os) h = fields_unspaced os h.1
fields_unspaced (Some z ∷ os) h = (field_unspaced z h.0, fields_unspaced os h.1)
