-- Comments: from `;` to the end of the line, and from `#|` to the `|#` that belongs to it.
use Rattle.std.specs.Prelude.{ℕ, ◌+◌, ◌-◌, List, [], ◌∷◌, nat_eq, Bool, not, ◌&&◌, ◌||◌, if◌then◌else◌, Option, Some, None}

abbrev pub not_newline : ℕ → Bool
not_newline b = not (nat_eq b 10)

-- `|#`
abbrev pub is_closing : ℕ → ℕ → Bool
is_closing last b = nat_eq last 124 && nat_eq b 35

-- `#|`
abbrev pub is_opening : ℕ → ℕ → Bool
is_opening last b = nat_eq last 35 && nat_eq b 124

-- A byte of `#|` or `|#` belongs to no other of them: after one the last byte is taken as 0.
abbrev pub last_after : ℕ → ℕ → ℕ
last_after last b = if is_closing last b || is_opening last b then 0 else b

abbrev pub inside_after : ℕ → ℕ → ℕ → ℕ
inside_after last inside b = if is_closing last b then inside - 1 else (if is_opening last b then inside + 1 else inside)

-- the `|#` of the comment itself
abbrev pub is_end : ℕ → ℕ → ℕ → Bool
is_end last inside b = is_closing last b && nat_eq inside 0

abbrev pub one_more : Option ℕ → Option ℕ
one_more None = None
one_more (Some n) = Some (n + 1)

-- how many bytes a block comment goes on for, after the last byte, with so many others open inside it; none where it doesn't end
abbrev pub comment_len : ℕ → ℕ → List ℕ → Option ℕ
comment_len last inside [] = None
comment_len last inside (b ∷ bs) =
    if is_end last inside b then Some 1
    else one_more (comment_len (last_after last b) (inside_after last inside b) bs)
