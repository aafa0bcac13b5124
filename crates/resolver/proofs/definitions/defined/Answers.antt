use Rattle.resolver.proofs.DefinedForms.{no_definition_below}
use Rattle.resolver.proofs.definitions.defined.Goals as goal

pub returns-in_default-ds : goal.returns-in_default-ds
returns-in_default-ds c = no_definition_below _ c.in-Some.ds.now c.in-Some.ensures c.in_default-ds.len_below
