-- A row of another module that is imported, as a use.
use Rattle.std.specs.Prelude.{if◌then◌else◌}
use Rattle.core_tree.specs.declared.tree.Use.{Use}
use Rattle.core_tree.specs.declared.tree.Use.TheVariants.{From, Need}
use Rattle.resolver.specs.declared.uses.Taken.{Taken}

abbrev pub use_of : Taken → Use
use_of t = if t.is_called then From t.module_name.now t.row.now else Need t.module_name.now t.row.now
