-- The head as it is kept, seen as a plain record.
use Rattle.std.specs.Prelude.{map}
use Rattle.resolver.specs.declared.built_head.Import.{Import}
use Rattle.resolver.specs.declared.built_head.Export.{Export}
use Rattle.resolver.specs.declared.built_head.BuiltHead.{BuiltHead}
use Rattle.resolver.specs.BuiltHeads.{ImportTree, ExportTree, HeadTree}

abbrev pub import_tree : Import → ImportTree
import_tree i = record { module_name = i.module_name; names = i.names }

abbrev pub export_tree : Export → ExportTree
export_tree e = record { name = e.name; count = e.count }

abbrev pub head_tree : BuiltHead → HeadTree
head_tree h = record { name = h.name; imports = map import_tree h.imports; exports = map export_tree h.exports; main = h.main }
