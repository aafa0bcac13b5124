-- The text of a number begins before the letters.
use Rattle.std.proofs.Common.{◌≡◌, ℕ, zero, suc, ◌+◌, ◌/◌, ◌%◌, ◌<◌, ◌≤◌, List, [], ◌∷◌, Bool, true, false, nat_lt, lit<, if◌then◌else◌, refl, arith}
use Rattle.std.specs.Prelude.{ℤ, pos, negsuc}
use Rattle.std.proofs.lemmas.Bool.{ltb-true}
use Rattle.scheme_data.specs.Decimal.{digits_onto, decimal_text, number_text}
use Rattle.c_read.proofs.Heads.{Low}

-- a digit stands first
abbrev pub Headed : List ℕ → Type 0
Headed [] = ⊥
Headed (b ∷ bs) = (48 ≤ b) × (b ≤ 57)

headed_onto : (count n : ℕ) (text : List ℕ) → Headed text → Headed (digits_onto count n text)
headed_onto zero n text h = h
headed_onto (suc count) n text h = go (λ m ts. headed_onto count m ts) (nat_lt n 10) refl
  where
    go : ((m : ℕ) (ts : List ℕ) → Headed ts → Headed (digits_onto count m ts)) → (b : Bool) → nat_lt n 10 ≡ b → Headed (if b then (48 + n) ∷ text else digits_onto count (n / 10) ((48 + n % 10) ∷ text))
    go ih true e = let l : n < 10 = ltb-true n 10 e in (omega arith, omega arith)
    go ih false e = ih (n / 10) ((48 + n % 10) ∷ text) (omega arith, omega arith)

headed_some : (count n : ℕ) → Headed (digits_onto (suc count) n [])
headed_some count n = go (nat_lt n 10) refl
  where
    go : (b : Bool) → nat_lt n 10 ≡ b → Headed (if b then (48 + n) ∷ [] else digits_onto count (n / 10) ((48 + n % 10) ∷ []))
    go true e = let l : n < 10 = ltb-true n 10 e in (omega arith, omega arith)
    go false e = headed_onto count (n / 10) ((48 + n % 10) ∷ []) (omega arith, omega arith)

pub headed_decimal : (n : ℕ) → Headed (decimal_text n)
unfolding decimal_text
headed_decimal n = headed_some 19 n

low_headed : (word : List ℕ) → Headed word → Low word
unfolding Low
low_headed [] h = h
low_headed (b ∷ bs) h = omega (arith, h.1)

pub low_number : (n : ℤ) → Low (number_text n)
unfolding Low
low_number (pos n) = low_headed (number_text (pos n)) (headed_decimal n)
low_number (negsuc n) = lit< tt
