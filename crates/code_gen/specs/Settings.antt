-- What a module and a function give to the statements in it.
use Rattle.std.specs.Prelude.{List}
use Rattle.core_tree.specs.declared.tree.VarId.{VarId}
use Rattle.core_tree.specs.Tree.{Tree, Trees, ModuleTree, module_tree}
use Rattle.core_tree.specs.WellFormed.{IsExpression, AreExpressions, IsBody}
use Rattle.c_tree.specs.declared.tree.CVar.{CVar}
use Rattle.c_tree.specs.Code.{Code}
use Rattle.plan_rules.specs.declared.rep.Rep.{Rep}
use Rattle.plan_rules.specs.Representation.{Scope}
use Rattle.built_table.specs.declared.primitives.Ty.{Ty}
use Rattle.plan_rules.specs.Translation.{Name, Statements, Tr, TrUnused, TrAllUnused, TrLast, TrArguments}
use Rattle.code_gen.specs.Scopes.{scope_with}
use Rattle.code_gen.specs.declared.context.Context.{Context}

pub record Setting : Type 0 where
  pub in_module : ModuleTree
  pub params : List VarId

abbrev pub setting : Context → Setting
setting c = record { in_module = module_tree c.functions.now; params = c.params }

abbrev pub scope_in : Setting → Scope
scope_in w = scope_with w.params

-- Nodes that may stand there ----------------------------------------------------------------

abbrev pub IsNode : Setting → Tree → Type 0
IsNode w n = IsExpression w.in_module w.params n

abbrev pub AreNodes : Setting → Trees → Type 0
AreNodes w ns = AreExpressions w.in_module w.params ns

abbrev pub IsBodyIn : Setting → Tree → Type 0
IsBodyIn w n = IsBody w.in_module w.params n

-- Their statements --------------------------------------------------------------------------

abbrev pub TrIn : Setting → List CVar → Tree → Rep → List Name → Statements
TrIn w vars n h live target code rest = Tr w.in_module (scope_in w) vars n h live target code rest

abbrev pub TrUnusedIn : Setting → List CVar → Tree → List Name → Code → Code → Type 0
TrUnusedIn w vars n live code rest = TrUnused w.in_module (scope_in w) vars n live code rest

abbrev pub TrAllUnusedIn : Setting → List CVar → Trees → List Name → Code → Code → Type 0
TrAllUnusedIn w vars ns live code rest = TrAllUnused w.in_module (scope_in w) vars ns live code rest

abbrev pub TrLastIn : Setting → List CVar → Trees → Rep → List Name → Statements
TrLastIn w vars ns h live target code rest = TrLast w.in_module (scope_in w) vars ns h live target code rest

abbrev pub TrArgumentsIn : Setting → List CVar → List Ty → Trees → List Name → List Name → Code → Code → Type 0
TrArgumentsIn w vars types ns live temporaries code rest = TrArguments w.in_module (scope_in w) vars types ns live temporaries code rest
