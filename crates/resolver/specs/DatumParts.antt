-- What the parts of a head's reader give.
use Rattle.std.specs.Prelude.{Option, Some, None}
use Rattle.scheme_data.specs.Data.{Plain, Listed, Plains}

-- the parts of a list; a dotted list is none
abbrev pub parts_of : Plain → Option Plains
parts_of (Listed ds) = Some ds
parts_of _ = None
