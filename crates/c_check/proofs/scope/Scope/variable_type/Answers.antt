use Rattle.c_check.proofs.Arguments.{found_in}
use Rattle.c_check.proofs.scope.Scope.variable_type.Goals as goal

pub returns : goal.returns
returns c = found_in c.or.result c.type_of.result c.type_of-2.result c.args.self.now.variables c.args.self.now.globals.now c.args.x.now c.or.ensures c.type_of.ensures c.type_of-2.ensures
