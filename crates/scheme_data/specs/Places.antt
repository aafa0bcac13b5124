-- Places in a text.
use Rattle.std.specs.Prelude.{ℕ, ◌+◌, List, [], ◌∷◌, nat_eq, nat_lt, if◌then◌else◌}
use Rattle.scheme_data.specs.declared.datum.Place.{Place}

-- a number of lines or columns stands at its last value
abbrev pub next_number : ℕ → ℕ
next_number n = if nat_lt n 4294967295 then n + 1 else n

-- the place after a byte
abbrev pub after : Place → ℕ → Place
after at b = if nat_eq b 10 then record { line = next_number at.line; column = 1 } else record { line = at.line; column = next_number at.column }

-- the place after bytes
abbrev pub end_from : Place → List ℕ → Place
end_from at [] = at
end_from at (b ∷ bs) = end_from (after at b) bs

abbrev pub start : Place
start = record { line = 1; column = 1 }

-- the place after the last byte of a text
abbrev pub end : List ℕ → Place
end bytes = end_from start bytes
