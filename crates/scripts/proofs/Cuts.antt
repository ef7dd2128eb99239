-- Bytes cut at one of them, into the words of a line or the lines of a script.
use Rattle.std.proofs.Common.{◌≡◌, ℕ, ◌+◌, ◌-◌, ◌<◌, ◌≤◌, Bool, true, false, cond, ltb, List, [], ◌∷◌, length, take, drop, Some, None, Err, refl, sym, ap, ◌∙◌, subst, arith, length-drop}
use Rattle.std.specs.List.{position, position_or_len, slice_split, join_with_byte}
use Rattle.std.proofs.lemmas.List.Splits.{slice_split_first, slice_split_none, length-slice_split, join_with_byte-slice_split}
use Rattle.std.proofs.lemmas.List.Sums.{fails_before_first}
use Rattle.std.proofs.lemmas.List.Elements.{All-from_get_or}
use Rattle.std.proofs.lemmas.List.{take_all}
use Rattle.std.proofs.lemmas.Bool.{ltb-true, ltb-false}
use Rattle.std.proofs.lemmas.Option.{cond_some}
use Rattle.scripts.specs.Words.{is_space, words}
use Rattle.scripts.specs.Lines.{end_of}
use Rattle.scripts.specs.Scripts.{is_end, without_empty_last, lines}

missed : (n : ℕ) (t : Bool) → cond t (Some n) None ≡ None → t ≡ false
missed n true e = cc
missed n false e = refl

module _ (p : ℕ → Bool) (bytes : List ℕ) where
  pub cut_at : (at : ℕ) → position p bytes ≡ Some at → slice_split p bytes ≡ take at bytes ∷ slice_split p (take (length bytes - (at + 1)) (drop (at + 1) bytes))
  cut_at at e =
      let f = cond_some (ltb (position_or_len p bytes) (length bytes)) (position_or_len p bytes) at e in
      let parts = slice_split_first p bytes 0 (ltb-true _ _ f.0) in
      let here = subst (λ (n : ℕ). slice_split p bytes ≡ take n bytes ∷ slice_split p (drop (n + 1) bytes)) f.1 parts in
      let all : take (length bytes - (at + 1)) (drop (at + 1) bytes) ≡ drop (at + 1) bytes = take_all _ (drop (at + 1) bytes) (omega (arith, length-drop (at + 1) bytes)) in
      rw all here

  pub uncut : position p bytes ≡ None → slice_split p bytes ≡ bytes ∷ []
  uncut e =
      let past : length bytes ≤ position_or_len p bytes = ltb-false _ _ (missed (position_or_len p bytes) _ e) in
      slice_split_none p bytes (All-from_get_or (λ x. p x ≡ false) bytes 0 (λ i h. fails_before_first p bytes i 0 (omega arith)))

-- ---- words

some_word : (ws : List (List ℕ)) (place : ℕ) → 0 < length ws → Err place ≡ end_of ws place
some_word [] place l = absurd (omega arith)
some_word (w ∷ ws) place l = refl

-- there is a word in every line
pub has_word : (line : List ℕ) (place : ℕ) → Err place ≡ end_of (words line) place
has_word line place = some_word (words line) place (omega (arith, length-slice_split is_space line))

-- ---- lines

more_parts : (part : List ℕ) (parts : List (List ℕ)) → 0 < length parts → without_empty_last (part ∷ parts) ≡ part ∷ without_empty_last parts
more_parts part [] l = absurd (omega arith)
more_parts [] (next ∷ parts) l = refl
more_parts (byte ∷ part) (next ∷ parts) l = refl

pub first_line : (script line more : List ℕ) → slice_split is_end script ≡ line ∷ slice_split is_end more → lines script ≡ line ∷ lines more
first_line script line more e = ap without_empty_last e ∙ more_parts line (slice_split is_end more) (omega (arith, length-slice_split is_end more))

pub last_line : (script line : List ℕ) → 0 < length script → slice_split is_end script ≡ line ∷ [] → lines script ≡ line ∷ []
last_line script [] l e = let same : script ≡ [] = sym (join_with_byte-slice_split 10 script) ∙ ap (join_with_byte 10) e in absurd (omega (arith, ap length same))
last_line script (byte ∷ line) l e = ap without_empty_last e
