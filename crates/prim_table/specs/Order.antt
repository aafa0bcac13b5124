-- The order of rows by their names, byte by byte.
use Rattle.std.specs.Prelude.{List, [], ◌∷◌, Bool, true, ◌&&◌}
use Rattle.std.specs.List.{list_all}
use Rattle.std.specs.Cmp.Lexicographic.{slice_cmp}
use Rattle.std.specs.Ordering.{nat_cmp, is_lt}
use Rattle.prim_table.specs.declared.primitives.Primitive.{Primitive}
use Rattle.prim_table.specs.Table.{name_of}

abbrev pub is_before : Primitive → Primitive → Bool
is_before p q = is_lt (slice_cmp nat_cmp (name_of p) (name_of q))

-- each name is before those after it
abbrev pub are_rising : List Primitive → Bool
are_rising [] = true
are_rising (p ∷ ps) = list_all (is_before p) ps && are_rising ps
