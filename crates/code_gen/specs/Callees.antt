-- What the generator's structs of functions stand for.
use Rattle.core_tree.specs.Tree.{FunctionTree, Callee, function_tree}
use Rattle.code_gen.specs.declared.callees.Called.{Called}
use Rattle.code_gen.specs.declared.callees.OwnFunction.{OwnFunction}

abbrev pub callee_in : Called → Callee
callee_in c = record { module_name = c.module_name.now; name = c.name.now; params = c.params }

abbrev pub function_of : OwnFunction → FunctionTree
function_of f = function_tree f.name.now f.lambda.now
