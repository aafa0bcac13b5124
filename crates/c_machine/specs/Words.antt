-- Words and numbers as 64 bits.
use Rattle.std.specs.Prelude.{ℕ, ◌+◌, ◌-◌, ◌/◌, ◌%◌, ◌^◌, List, nat_eq, nat_lt, ℤ, pos, negsuc, int_lt, if◌then◌else◌}
use Rattle.scheme_data.specs.Decimal.{number_text}
use Rattle.c_meaning.specs.Word.{False, True, Nil, Unspec, Eof, bits_of, printed}
use Rattle.c_meaning.specs.Operations.{small}

-- the number of which these bits are the two's complement
abbrev pub long_of : ℕ → ℤ
long_of n = if nat_lt n (2 ^ 63) then pos n else negsuc (2 ^ 64 - (n + 1))

-- the fixnum of a word with the tag of fixnums
abbrev pub fixnum_of : ℕ → ℤ
fixnum_of w = if nat_lt w (2 ^ 63) then pos (w / 8) else negsuc ((2 ^ 64 - w) / 8 - 1)

-- how a constant prints, by its bits
abbrev pub constant_text : ℕ → List ℕ
constant_text w =
    if nat_eq w (bits_of False) then printed False
    else (if nat_eq w (bits_of True) then printed True
    else (if nat_eq w (bits_of Nil) then printed Nil
    else (if nat_eq w (bits_of Unspec) then printed Unspec else printed Eof)))

-- how `display` prints the word of these bits
abbrev pub word_text : ℕ → List ℕ
word_text w = if nat_eq (w % 8) 0 then number_text (fixnum_of w) else constant_text w

abbrev pub byte_of : ℤ → ℕ
byte_of (pos n) = small n
byte_of (negsuc n) = 0

-- 0 of `#f`, and 1 of all else
abbrev pub truth_of : ℕ → ℕ
truth_of w = if nat_eq w (bits_of False) then 0 else 1

-- `#f` of 0, and `#t` of all else
abbrev pub boxed_truth_of : ℕ → ℕ
boxed_truth_of v = if nat_eq v 0 then bits_of False else bits_of True

abbrev pub less_of : ℤ → ℤ → ℕ
less_of a b = if int_lt a b then 1 else 0

-- the fixnum from 0 to 255 of these bits, and 0 for all else
abbrev pub status_of : ℕ → ℕ
status_of w = if nat_eq (w % 8) 0 then byte_of (fixnum_of w) else 0
