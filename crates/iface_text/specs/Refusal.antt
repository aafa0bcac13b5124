-- The first line of a text that no interface could have there.
use Rattle.std.specs.Prelude.{◌≡◌, ◌≢◌, ℕ, ◌+◌, ◌-◌, ◌^◌, min, List, [], ◌∷◌, ◌++◌, Bool, nat_eq, length}
use Rattle.std.specs.List.{slice_split}
use Rattle.iface_text.specs.Format.{IfaceTree, HasSpelling, lines_of}

abbrev pub is_line_end : ℕ → Bool
is_line_end b = nat_eq b 10

-- the lines of a text, and last what follows the last byte 10
abbrev pub lines_and_rest : List ℕ → List (List ℕ)
lines_and_rest bytes = slice_split is_line_end bytes

-- some interface's lines begin with these
pub record Viable (lines : List (List ℕ)) : Type 0 where
  pub iface : IfaceTree
  pub has_spelling : HasSpelling iface
  pub others : List (List ℕ)
  pub are : lines_of iface ≡ lines ++ others

-- After these lines comes one that no interface could have there. The last of all isn't ended: it is bad unless it is empty and the lines are an interface's.
abbrev pub IsBad : List (List ℕ) → List ℕ → List (List ℕ) → Type 0
IsBad before line [] = line ≡ [] → (i : IfaceTree) → HasSpelling i → lines_of i ≢ before
IsBad before line (_ ∷ _) = Viable (before ++ line ∷ []) → ⊥

-- the number of the line that stands after so many, and 2 ^ 32 - 1 for all that are greater
abbrev pub line_after : ℕ → ℕ
line_after n = min (n + 1) (2 ^ 32 - 1)

-- the first bad line of a text has this number
pub record FirstBad (bytes : List ℕ) (number : ℕ) : Type 0 where
  pub before : List (List ℕ)
  pub line : List ℕ
  pub after : List (List ℕ)
  pub are : lines_and_rest bytes ≡ before ++ line ∷ after
  pub viable : Viable before
  pub bad : IsBad before line after
  pub numbered : number ≡ line_after (length before)
