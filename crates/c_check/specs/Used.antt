-- The names that pieces use.
use Rattle.std.specs.Prelude.{◌≡◌, ℕ, List, [], ◌∷◌, ◌++◌, Bool, false, not, ◌&&◌, nat_eq}
use Rattle.std.specs.List.{flat_map}
use Rattle.c_tree.specs.declared.pieces.Piece.{Piece}
use Rattle.c_tree.specs.declared.pieces.Piece.TheVariants as piece
use Rattle.c_tree.specs.declared.function.CItem.{CItem}
use Rattle.c_tree.specs.Functions.{item_of, items_of}
use Rattle.c_meaning.specs.Breaches.{has}
use Rattle.c_meaning.specs.Checked.{used_in_call, used_in_expr, used_by, name_of_item}
use Rattle.c_check.specs.declared.used.Noted.{Noted}

abbrev pub piece_used : Piece → List (List ℕ)
piece_used (piece.Assign x e) = x ∷ used_in_expr e
piece_used (piece.Call c) = used_in_call c
piece_used (piece.Return e) = used_in_expr e
piece_used (piece.If e) = used_in_expr e
piece_used _ = []

abbrev pub used_pieces : List Piece → List (List ℕ)
used_pieces [] = []
used_pieces (p ∷ ps) = piece_used p ++ used_pieces ps

-- whether a name begins as that of a local
abbrev pub begins_as_local : List ℕ → Bool
begins_as_local [] = false
begins_as_local (b ∷ bs) = nat_eq b 120

abbrev pub is_left_out : Bool → List ℕ → Bool
is_left_out skips name = skips && begins_as_local name

-- names were noted behind others, but for those that are left out
pub record IsUsed (old : Noted) (names : List (List ℕ)) (new : Noted) : Type 0 where
  pub skips : new.skips ≡ old.skips
  pub found : (n : List ℕ) → is_left_out old.skips n ≡ false → has new.names n ≡ has (old.names ++ names) n

abbrev pub stands_out : CItem → Bool
stands_out item = not (begins_as_local (name_of_item (item_of item)))

-- what is found of the names of these items
abbrev pub SameOf : List CItem → List (List ℕ) → List (List ℕ) → Type 0
SameOf [] names others = Unit {0}
SameOf (i ∷ is) names others = (has names (name_of_item (item_of i)) ≡ has others (name_of_item (item_of i))) × SameOf is names others

abbrev pub IsUsedBy : List CItem → List (List ℕ) → Type 0
IsUsedBy items used = SameOf items used (flat_map used_by (items_of items))
