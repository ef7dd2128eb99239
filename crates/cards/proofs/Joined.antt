-- The text of a card, written field by field.
use Rattle.std.proofs.Common.{◌≡◌, ℕ, ◌+◌, ◌<◌, List, [], ◌∷◌, ◌++◌, map, length, get_or, take, Option, Some, None, ℤ, Bor, filter_map, codes, sym, refl, ap, ◌∙◌}
use Rattle.std.specs.List.{join_by, cons_option}
use Rattle.std.specs.Fmt.{signed_decimal}
use Rattle.std.proofs.lemmas.List.{append_assoc, append-nil, map-append, take_more}
use Rattle.std.proofs.lemmas.List.Elements.{filter_map-append}
use Rattle.std.proofs.lemmas.List.Concat.{flat_map-append}
use Rattle.cards.specs.Shown.{shown_field}

-- a field as the loop takes it
abbrev pub Named : Type 0
Named = Bor (List ℕ) × Option ℤ

abbrev seen : Named → List ℕ × Option ℤ
seen f = (f.0.now, f.1)

-- the texts of those that are there
abbrev pub texts : List Named → List (List ℕ)
texts fs = filter_map shown_field (map seen fs)

abbrev pub joined : List (List ℕ) → List ℕ
joined = join_by (λ text. text) (codes ", ")

-- what stands before one more text
abbrev pub before_next : List (List ℕ) → List ℕ
before_next [] = []
before_next (t ∷ ts) = codes ", "

joined_more : (ts : List (List ℕ)) (t : List ℕ) → joined ts ++ (before_next ts ++ t) ≡ joined (ts ++ t ∷ [])
joined_more [] t = sym (append-nil t)
joined_more (x ∷ xs) t =
    let more = flat_map-append (λ y. codes ", " ++ y) xs (t ∷ []) in
    append_assoc x _ _ ∙ ap (λ l. x ++ l) (rw (more, append-nil (codes ", " ++ t)))

texts_more : (fs : List Named) (f : Named) → texts (fs ++ f ∷ []) ≡ texts fs ++ cons_option (shown_field (seen f)) []
texts_more fs f = rw (map-append seen fs (f ∷ [])) (filter_map-append shown_field (map seen fs) (seen f ∷ []))

-- one more field, which is there or is not
one_there : (fs : List Named) (i : ℕ) (d : Named) (z : ℤ) → i < length fs → (get_or fs i d).1 ≡ Some z → texts (take (i + 1) fs) ≡ texts (take i fs) ++ ((get_or fs i d).0.now ++ (codes " " ++ signed_decimal z)) ∷ []
one_there fs i d z l e = rw (take_more fs i d l, texts_more (take i fs) (get_or fs i d), e)

pub one_absent : (fs : List Named) (i : ℕ) (d : Named) → i < length fs → (get_or fs i d).1 ≡ None → texts (take (i + 1) fs) ≡ texts (take i fs)
one_absent fs i d l e = rw (take_more fs i d l, texts_more (take i fs) (get_or fs i d), e) (append-nil _)

-- behind a field that is there stands a comma
pub comma : (fs : List Named) (i : ℕ) (d : Named) (z : ℤ) → i < length fs → (get_or fs i d).1 ≡ Some z → before_next (texts (take (i + 1) fs)) ≡ codes ", "
comma fs i d z l e = ap before_next (one_there fs i d z l e) ∙ behind (texts (take i fs)) _
  where
    behind : (ts : List (List ℕ)) (t : List ℕ) → before_next (ts ++ t ∷ []) ≡ codes ", "
    behind [] t = refl
    behind (x ∷ xs) t = refl

pub joined_there : (fs : List Named) (i : ℕ) (d : Named) (z : ℤ) (before : List ℕ) → i < length fs → (get_or fs i d).1 ≡ Some z → before ≡ before_next (texts (take i fs)) → joined (texts (take i fs)) ++ (before ++ ((get_or fs i d).0.now ++ (codes " " ++ signed_decimal z))) ≡ joined (texts (take (i + 1) fs))
joined_there fs i d z before l e b = rw (b, one_there fs i d z l e) (joined_more (texts (take i fs)) _)
