-- Words and their numbers. The low three bits of a word's number are its tag.
use Rattle.std.specs.Prelude.{ℕ, List, ℤ, codes}
use Rattle.scheme_data.specs.Decimal.{number_text}
use Rattle.scheme_data.specs.Fixnum.{fixnum_word}

-- a fixnum (tag 0), or one of the constants (tag 3)
pub data Word : Type 0 where
  Fixnum : ℤ → Word
  False : Word
  True : Word
  Nil : Word
  Unspec : Word
  Eof : Word

-- the 64 bits of a word as a number
abbrev pub bits_of : Word → ℕ
bits_of (Fixnum n) = fixnum_word n
bits_of False = 3
bits_of True = 11
bits_of Nil = 19
bits_of Unspec = 27
bits_of Eof = 35

-- how `display` prints a word
abbrev pub printed : Word → List ℕ
printed (Fixnum n) = number_text n
printed False = codes "#f"
printed True = codes "#t"
printed Nil = codes "()"
printed Unspec = codes "#unspecified"
printed Eof = codes "#eof-object"
