-- Functions and programs as plain trees. A statement holds those that follow it.
use Rattle.std.specs.Prelude.{ℕ, List}
use Rattle.c_tree.specs.declared.tree.CTy.{CTy}
use Rattle.c_tree.specs.declared.tree.CExpr.{CExpr}
use Rattle.c_tree.specs.declared.tree.CCall.{CCall}
use Rattle.c_tree.specs.declared.tree.CVar.{CVar}

pub data Code : Type 0 where
  done : Code
  assign : List ℕ → CExpr → Code → Code
  call : CCall → Code → Code
  return : CExpr → Code → Code
  -- a condition, the blocks of `if` and `else`, what follows
  test : CExpr → Code → Code → Code → Code
  -- a label, the block of the `for`, what follows
  loop : List ℕ → Code → Code → Code
  -- a block, the label behind it, what follows
  ended : Code → List ℕ → Code → Code
  goto : List ℕ → Code → Code
  -- the locals for the exit and for what an escape carries, the block, what follows
  catch : List ℕ → List ℕ → Code → Code → Code
  -- a block, the block that is done however the first was left, what follows
  protect : Code → Code → Code → Code

-- a definition of a function
pub record Fun : Type 0 where
  pub result : CTy
  pub name : List ℕ
  pub params : List CVar
  pub locals : List CVar
  pub code : Code

pub data Item : Type 0 where
  external : CVar → Item
  global : CVar → Item
  declared : CTy → List ℕ → List CTy → Item
  defined : Fun → Item
