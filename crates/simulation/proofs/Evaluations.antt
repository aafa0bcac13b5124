-- Expressions in the functions of modules.
use Rattle.std.specs.Prelude.{List}
use Rattle.c_tree.specs.declared.tree.CExpr.{CExpr}
use Rattle.c_tree.specs.Code.{Fun}
use Rattle.c_meaning.specs.State.{State, Frame, Answer}
use Rattle.c_meaning.specs.Execution.{Names, Lower, enter, eval_by}

abbrev pub eval : List Fun → Lower → Names → CExpr → Frame → State → Answer
eval p lower names e f s = eval_by p (enter lower) lower names e f s
