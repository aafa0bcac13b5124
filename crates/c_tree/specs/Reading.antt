-- What is in front of a name that is taken apart.
use Rattle.std.specs.Prelude.{ℕ, List, ◌++◌, Option, Some, None}
use Rattle.c_tree.specs.Names.{Cut}

abbrev pub cut_onto : List ℕ → Option Cut → Option Cut
cut_onto front None = None
cut_onto front (Some c) = Some (record { before = front ++ c.before; behind = c.behind })
