-- Whether statements in one list are runnable, each asked alone.
use Rattle.std.specs.Prelude.{suc, List, ◌∷◌, length, nat_eq, Bool, false, ◌&&◌}
use Rattle.std.specs.List.{list_all}
use Rattle.c_tree.specs.declared.tree.CStmt.{CStmt}
use Rattle.c_tree.specs.declared.tree.CStmt.TheVariants as stmt
use Rattle.c_tree.specs.declared.function.CItem.{CItem}
use Rattle.c_tree.specs.Functions.{item_of}
use Rattle.c_meaning.specs.Runnable.{is_runnable_call, is_runnable_expr, is_runnable_item}

-- a statement without its blocks, where no loop may stand
abbrev pub is_straight_statement : CStmt → Bool
is_straight_statement (stmt.Assign x e) = is_runnable_expr e
is_straight_statement (stmt.Call c) = is_runnable_call c
is_straight_statement (stmt.Return e) = is_runnable_expr e
is_straight_statement (stmt.If e p q) = is_runnable_expr e
is_straight_statement _ = false

-- one loop around all others, or statements without a loop
abbrev pub are_runnable : List CStmt → Bool
are_runnable (stmt.Loop l p ∷ ss) = nat_eq p.end (suc (length ss)) && list_all is_straight_statement ss
are_runnable ss = list_all is_straight_statement ss

abbrev pub item_runs : CItem → Bool
item_runs i = is_runnable_item (item_of i)
