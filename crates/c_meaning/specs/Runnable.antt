-- The programs whose forms the machine does so far: functions alone, no entries, locals by their names, and no loop within another, no label but a loop's, no `goto`, no `BGL_CATCH` and no `BGL_PROTECT`.
use Rattle.std.specs.Prelude.{List, Bool, true, false, not, ◌&&◌, IsTrue}
use Rattle.std.specs.List.{list_all}
use Rattle.c_tree.specs.declared.tree.CAtom.{CAtom}
use Rattle.c_tree.specs.declared.tree.CAtom.TheVariants as atom
use Rattle.c_tree.specs.declared.tree.CArg.{CArg}
use Rattle.c_tree.specs.declared.tree.CArg.TheVariants as arg
use Rattle.c_tree.specs.declared.tree.Callee.{Callee}
use Rattle.c_tree.specs.declared.tree.Callee.TheVariants as callee
use Rattle.c_tree.specs.declared.tree.CCall.{CCall}
use Rattle.c_tree.specs.declared.tree.CExpr.{CExpr}
use Rattle.c_tree.specs.declared.tree.CExpr.TheVariants as expr
use Rattle.c_tree.specs.declared.tree.CVar.{CVar}
use Rattle.c_tree.specs.Names.{is_entry, is_local_name}
use Rattle.c_tree.specs.Code.{Code, done, assign, call, return, test, loop, Fun, Item, external, global, declared, defined}
use Rattle.c_meaning.specs.Plain.{is_built_op, variables_of}

-- a global has no local's name, and a program without globals reads none
abbrev pub is_runnable_atom : CAtom → Bool
is_runnable_atom (atom.Sym x) = false
is_runnable_atom _ = true

abbrev pub is_runnable_argument : CArg → Bool
is_runnable_argument (arg.Atom a) = is_runnable_atom a
is_runnable_argument (arg.Str text) = true
is_runnable_argument (arg.Entry name) = false

abbrev pub is_runnable_callee : Callee → Bool
is_runnable_callee (callee.Fun name) = true
is_runnable_callee (callee.Op op) = is_built_op op

abbrev pub is_runnable_call : CCall → Bool
is_runnable_call c = is_runnable_callee c.callee && list_all is_runnable_argument c.args

abbrev pub is_runnable_expr : CExpr → Bool
is_runnable_expr (expr.Atom a) = is_runnable_atom a
is_runnable_expr (expr.Call c) = is_runnable_call c

-- statements without a loop
abbrev pub is_straight : Code → Bool
is_straight done = true
is_straight (assign x e rest) = is_runnable_expr e && is_straight rest
is_straight (call c rest) = is_runnable_call c && is_straight rest
is_straight (return e rest) = is_runnable_expr e && is_straight rest
is_straight (test e a b rest) = is_runnable_expr e && (is_straight a && (is_straight b && is_straight rest))
is_straight _ = false

-- or one loop
abbrev pub is_runnable_code : Code → Bool
is_runnable_code (loop l body done) = is_straight body
is_runnable_code code = is_straight code

abbrev pub is_local : CVar → Bool
is_local v = is_local_name v.name

abbrev pub is_runnable_function : Fun → Bool
is_runnable_function f = list_all is_local (variables_of f) && is_runnable_code f.code

abbrev pub is_runnable_item : Item → Bool
is_runnable_item (external v) = false
is_runnable_item (global v) = false
is_runnable_item (declared t name params) = not (is_entry name)
is_runnable_item (defined f) = not (is_entry f.name) && is_runnable_function f

abbrev pub is_runnable : List Item → Bool
is_runnable items = list_all is_runnable_item items

abbrev pub IsRunnable : List Item → Type 0
IsRunnable items = IsTrue (is_runnable items)
