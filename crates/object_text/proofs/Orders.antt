-- What is called comes before what is imported besides.
use Rattle.std.proofs.Common.{List, Bool, true, false}
use Rattle.std.specs.List.{list_all}
use Rattle.core_tree.specs.declared.tree.Use.{Use}
use Rattle.core_tree.specs.WellFormed.{is_need, are_ordered}

-- whether these may come after others, of which one was imported besides or none
abbrev pub ordered_after : Bool → List Use → Bool
ordered_after true us = list_all is_need us
ordered_after false us = are_ordered us
