-- What stands next in a mangled name, and how such a name ends.
use Rattle.std.specs.Prelude.{◌≡◌, ℕ, List, [], ◌∷◌, ◌++◌, Bool, true, false, ◌||◌}
use Rattle.std.specs.Option.{is_some}
use Rattle.c_tree.specs.Names.{mangled_byte, unmangled_at, is_mangled_symbol, begins_cut, is_of_module}
use Rattle.c_words.specs.Walks.{Walk, ended}
use Rattle.c_words.specs.declared.manglings.Spelled.{Spelled}
use Rattle.c_words.specs.declared.manglings.Spelled.TheVariants as spelled
use Rattle.c_words.specs.declared.manglings.Ending.{Ending}
use Rattle.c_words.specs.declared.manglings.Ending.TheVariants as ending

-- with `_` in front of what is left
abbrev pub barred : Walk → Walk
barred w = record { whole = w.whole; left = 95 ∷ w.left }

-- at the end, or with the spelling of a byte or `__` in front
abbrev pub begins_well : List ℕ → Bool
begins_well [] = true
begins_well (b ∷ bs) = begins_cut (b ∷ bs) || is_some (unmangled_at b bs)

-- what stands next, and the walk before it and behind it
abbrev pub IsNext : Spelled → Walk → Walk → Type 0
IsNext (spelled.Byte b) old new = (old.left ≡ mangled_byte b ++ new.left) × (new.whole ≡ old.whole)
IsNext spelled.End old new = (old.left ≡ []) × (new ≡ old)
IsNext spelled.Cut old new = (old.left ≡ 95 ∷ 95 ∷ new.left) × (new.whole ≡ old.whole)
IsNext spelled.Wrong old new = (begins_well old.left ≡ false) × (new.whole ≡ old.whole)

-- what is left is the mangling of a symbol; or one, `__` and what is left then; or neither
abbrev pub EndsSo : Ending → Walk → Walk → Type 0
EndsSo ending.AtEnd old new =
    (is_mangled_symbol old.left ≡ true)
    × ((is_name : List ℕ → Bool) → is_of_module is_name old.left ≡ false)
    × (new ≡ ended old)
EndsSo ending.AtCut old new =
    (is_mangled_symbol old.left ≡ false)
    × ((is_name : List ℕ → Bool) → is_of_module is_name old.left ≡ is_name new.left)
    × (new.whole ≡ old.whole)
EndsSo ending.Wrong old new =
    (is_mangled_symbol old.left ≡ false)
    × ((is_name : List ℕ → Bool) → is_of_module is_name old.left ≡ false)
    × (new ≡ ended old)

-- what is left begins with a mangled module and `__`, and what is left then; or all was gone over
abbrev pub IsBehindModule : Bool → Walk → Walk → Type 0
IsBehindModule true old new = ((is_name : List ℕ → Bool) → is_of_module is_name old.left ≡ is_name new.left) × (new.whole ≡ old.whole)
IsBehindModule false old new = ((is_name : List ℕ → Bool) → is_of_module is_name old.left ≡ false) × (new ≡ ended old)
