use Rattle.std.proofs.Common.{rules}
use Rattle.core_tree.specs.Tree.{module_tree}
use Rattle.unit_compile.proofs.Objects.{writable}
use Rattle.unit_compile.proofs.compile.object_of.Goals as goal

pub returns-clause-writable : goal.returns-clause-writable
returns-clause-writable c = writable (module_tree c.args.m) _ c.requires (search rules)
