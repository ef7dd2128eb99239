-- What a word and a cursor stand for.
use Rattle.std.specs.Prelude.{ℕ, List, IsTrue, IsFalse}
use Rattle.scripts.specs.Words.{is_space, parts_in, is_letter, is_number}
use Rattle.scripts.specs.Lines.{Left}
use Rattle.scripts.specs.declared.cursor.Cursor.{Cursor}
use Rattle.scripts.specs.declared.word.Word.{Word}
use Rattle.scripts.specs.declared.word.Word.TheVariants as kind

-- the bytes of a word
abbrev pub bytes_of : Word → List ℕ
bytes_of (kind.Letter bytes) = bytes.now
bytes_of (kind.Number bytes) = bytes.now
bytes_of (kind.Other bytes) = bytes.now

-- a word is of its kind
abbrev pub HasKind : Word → Type 0
HasKind (kind.Letter bytes) = IsTrue (is_letter bytes.now) × IsFalse (is_number bytes.now)
HasKind (kind.Number bytes) = IsFalse (is_letter bytes.now) × IsTrue (is_number bytes.now)
HasKind (kind.Other bytes) = IsFalse (is_letter bytes.now) × IsFalse (is_number bytes.now)

-- what a cursor has left to read
abbrev pub left_of : Cursor → Left
left_of c = record { words = parts_in is_space c.left; place = c.place }
