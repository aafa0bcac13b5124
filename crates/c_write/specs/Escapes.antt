-- How the bytes of a string are written.
use Rattle.std.specs.Prelude.{ℕ, ◌+◌, ◌/◌, ◌%◌, List, [], ◌∷◌, nat_eq, ◌||◌, if◌then◌else◌}
use Rattle.std.specs.List.{flat_map}
use Rattle.c_tree.specs.Lexical.{is_plain}

abbrev pub escaped_byte : ℕ → List ℕ
escaped_byte b =
    if is_plain b then b ∷ []
    else (if nat_eq b 34 || nat_eq b 92 then 92 ∷ b ∷ []
    else 92 ∷ (48 + b / 64) ∷ (48 + b / 8 % 8) ∷ (48 + b % 8) ∷ [])

abbrev pub escaped : List ℕ → List ℕ
escaped bytes = flat_map escaped_byte bytes
