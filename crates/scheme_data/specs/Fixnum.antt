-- Fixnums, the numbers from -2^60 to 2^60 - 1, and their words, 8 n in two's complement.
use Rattle.std.specs.Prelude.{◌≡◌, ℕ, ◌+◌, ◌-◌, ◌*◌, ◌%◌, ◌^◌, nat_lt, ℤ, pos, negsuc, Bool, IsTrue}

abbrev pub is_fixnum : ℤ → Bool
is_fixnum (pos n) = nat_lt n (2 ^ 60)
is_fixnum (negsuc n) = nat_lt n (2 ^ 60)

abbrev pub IsFixnum : ℤ → Type 0
IsFixnum n = IsTrue (is_fixnum n)

-- a number from -2^63 to 2^63 - 1 in two's complement
abbrev pub long_word : ℤ → ℕ
long_word (pos n) = n
long_word (negsuc n) = 2 ^ 64 - (n + 1)

abbrev pub fixnum_word : ℤ → ℕ
fixnum_word (pos n) = 8 * n
fixnum_word (negsuc n) = 2 ^ 64 - 8 * (n + 1)

-- the words whose tag, the low three bits, is 0
abbrev pub IsFixnumWord : ℕ → Type 0
IsFixnumWord w = w % 8 ≡ 0
