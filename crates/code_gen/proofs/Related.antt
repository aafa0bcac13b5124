-- What nodes are related to: the code of a constant, a variable, and a call whose arguments are ready.
use Rattle.std.proofs.Common.{◌≡◌, List, Some, true, false, refl, sym, ap, ◌∙◌, subst}
use Rattle.built_table.specs.declared.primitives.Ty.{Ty}
use Rattle.built_table.specs.declared.primitives.Primitive.{Primitive as Builtin}
use Rattle.built_table.specs.Table.{params_of, result_of}
use Rattle.core_tree.specs.declared.tree.Const.{Const}
use Rattle.core_tree.specs.declared.tree.VarId.{VarId}
use Rattle.core_tree.specs.declared.tree.GlobalRef.{GlobalRef}
use Rattle.core_tree.specs.Tree.{Tree, Constant, Variable, If, Call, Primitive, Trees, Callee, callee_of}
use Rattle.c_tree.specs.Operations.{primitive_op}
use Rattle.c_tree.specs.declared.tree.CArg.{CArg}
use Rattle.c_tree.specs.declared.tree.CAtom.TheVariants as atom
use Rattle.c_tree.specs.declared.tree.CCall.{CCall}
use Rattle.c_tree.specs.declared.tree.CExpr.{CExpr}
use Rattle.c_tree.specs.declared.tree.CExpr.TheVariants as expr
use Rattle.c_tree.specs.declared.tree.CVar.{CVar}
use Rattle.c_tree.specs.Code.{Code, done, call}
use Rattle.plan_rules.specs.declared.rep.Rep.{Rep}
use Rattle.plan_rules.specs.declared.rep.Rep.TheVariants.{Obj, Bool as Truth_rep}
use Rattle.plan_rules.specs.Representation.{PlainAt, slot_of, rep_in, rep_of, has_of, constant_expr, operation, call_of}
use Rattle.plan_rules.specs.Translation.{Name, Target, deliver, Applied, Branches, Miscounted, haves, objects, is_counted, c_name_of, TrConstant, TrVariable, TrVariableUnused, TrCounted, TrCall, Tr, TrUnused}
use Rattle.code_gen.specs.Settings.{Setting, scope_in, TrIn, TrUnusedIn, TrArgumentsIn}
use Rattle.code_gen.specs.Emission.{AreReady, Delivered}

module _ (w : Setting) where
  pub tr_constant : (vars : List CVar) (k : Const) (h : Rep) (e : CExpr) (live : List Name) (target : Target) (code rest : Code) → constant_expr k h ≡ Some e → code ≡ deliver target e rest
      → TrIn w vars (Constant k) h live target code rest
  unfolding Tr
  tr_constant vars k h e live target code rest found is = subst (λ o. TrConstant w.in_module (scope_in w) vars o target code rest) (sym found) is

  pub unused_constant_is : (vars : List CVar) (k : Const) (live : List Name) (code rest : Code) → code ≡ rest → TrUnusedIn w vars (Constant k) live code rest
  unfolding TrUnused
  unused_constant_is vars k live code rest e = e

  -- Variables -------------------------------------------------------------------------------

  pub tr_variable : (vars : List CVar) (x : VarId) (y : Name) (live : List Name) (target : Target) (code rest : Code) → slot_of x (scope_in w) ≡ Some (PlainAt Obj y)
      → code ≡ deliver target (expr.Atom (atom.Name y)) rest → TrIn w vars (Variable x) Obj live target code rest
  unfolding Tr
  tr_variable vars x y live target code rest found e =
      subst (λ o. TrVariable w.in_module (scope_in w) vars o Obj target code rest) (sym found) (refl, e)

  pub unused_variable_is : (vars : List CVar) (x : VarId) (y : Name) (live : List Name) (code rest : Code) → slot_of x (scope_in w) ≡ Some (PlainAt Obj y)
      → code ≡ rest → TrUnusedIn w vars (Variable x) live code rest
  unfolding TrUnused
  unused_variable_is vars x y live code rest found e =
      subst (λ o. TrVariableUnused w.in_module (scope_in w) vars o code rest) (sym found) e

  pub variable_has : (x : VarId) (y : Name) (wanted : Rep) → slot_of x (scope_in w) ≡ Some (PlainAt Obj y) → Obj ≡ has_of (scope_in w) (Variable x) wanted
  variable_has x y wanted found = sym (ap rep_in found)

  -- Branches --------------------------------------------------------------------------------

  pub tr_if : (vars : List CVar) (a b c : Tree) (live : List Name) (target : Target) (code rest : Code)
      → Branches vars (has_of (scope_in w) a Truth_rep) (λ target code rest. TrIn w vars a (has_of (scope_in w) a Truth_rep) live target code rest) live
      (λ code. Delivered w b live vars target code done) (λ code. Delivered w c live vars target code done) code rest → TrIn w vars (If a b c) Obj live target code rest
  unfolding Tr
  tr_if vars a b c live target code rest chosen = (refl, chosen)

  pub unused_if_is : (vars : List CVar) (a b c : Tree) (live : List Name) (code rest : Code)
      → Branches vars (has_of (scope_in w) a Truth_rep) (λ target code rest. TrIn w vars a (has_of (scope_in w) a Truth_rep) live target code rest) live
      (λ code. TrUnusedIn w vars b live code done) (λ code. TrUnusedIn w vars c live code done) code rest → TrUnusedIn w vars (If a b c) live code rest
  unfolding TrUnused
  unused_if_is vars a b c live code rest chosen = chosen

  -- Calls -----------------------------------------------------------------------------------

  pub applied_to : (vars : List CVar) (types : List Ty) (ns : Trees) (live : List Name) (args : List CArg) (finish : List CArg → Code) (code last : Code)
      → AreReady w types ns live args vars code last → last ≡ finish args
      → Applied vars (λ temporaries code middle. TrArgumentsIn w vars types ns live temporaries code middle) types (haves (scope_in w) types ns) live finish code
  applied_to vars types ns live args finish code last r e = record {
    temporaries = r.temporaries;
    made = r.made;
    middle = r.middle;
    last = last;
    values = r.values;
    fit = r.fit;
    is = e ∙ ap finish r.args_are;
  }

  pub tr_primitive : (vars : List CVar) (p : Builtin) (ns : Trees) (h : Rep) (live : List Name) (args : List CArg) (target : Target) (code middle rest : Code) → h ≡ rep_of (result_of p)
      → AreReady w (params_of p) ns live args vars code middle → middle ≡ deliver target (expr.Call (operation (primitive_op p) args)) rest → TrIn w vars (Primitive p ns) h live target code rest
  unfolding Tr
  tr_primitive vars p ns h live args target code middle rest h_is ready e =
      (h_is, applied_to vars (params_of p) ns live args (λ args. deliver target (expr.Call (operation (primitive_op p) args)) rest) code middle ready e)

  pub unused_primitive_is : (vars : List CVar) (p : Builtin) (ns : Trees) (live : List Name) (args : List CArg) (code middle rest : Code)
      → AreReady w (params_of p) ns live args vars code middle → middle ≡ call (operation (primitive_op p) args) rest → TrUnusedIn w vars (Primitive p ns) live code rest
  unfolding TrUnused
  unused_primitive_is vars p ns live args code middle rest ready e =
      applied_to vars (params_of p) ns live args (λ args. call (operation (primitive_op p) args) rest) code middle ready e

  module _ (vars : List CVar) (g : GlobalRef) (f : Callee) (ns : Trees) (live : List Name) (found : callee_of w.in_module g ≡ Some f) where
    abbrev Evaluated : List Name → Code → Code → Type 0
    Evaluated temporaries code middle = TrArgumentsIn w vars (objects ns) ns live temporaries code middle

    counted : (args : List CArg) (finish : CCall → Code) (code last rest : Code) → is_counted f ns ≡ true → AreReady w (objects ns) ns live args vars code last
        → last ≡ finish (call_of (c_name_of f) args) → TrCall w.in_module (scope_in w) vars (callee_of w.in_module g) Evaluated ns live finish code rest
    counted args finish code last rest right ready e =
        let applied = applied_to vars (objects ns) ns live args (λ args. finish (call_of (c_name_of f) args)) code last ready e in
        subst (λ o. TrCall w.in_module (scope_in w) vars o Evaluated ns live finish code rest) (sym found)
        (subst (λ b. TrCounted w.in_module (scope_in w) vars b f Evaluated ns live finish code rest) (sym right) applied)

    miscounted : (finish : CCall → Code) (code rest : Code) → is_counted f ns ≡ false → Miscounted vars Evaluated f.params code rest
        → TrCall w.in_module (scope_in w) vars (callee_of w.in_module g) Evaluated ns live finish code rest
    miscounted finish code rest wrong raised =
        subst (λ o. TrCall w.in_module (scope_in w) vars o Evaluated ns live finish code rest) (sym found)
        (subst (λ b. TrCounted w.in_module (scope_in w) vars b f Evaluated ns live finish code rest) (sym wrong) raised)

    pub tr_counted : (args : List CArg) (target : Target) (code middle rest : Code) → is_counted f ns ≡ true → AreReady w (objects ns) ns live args vars code middle
        → middle ≡ deliver target (expr.Call (call_of (c_name_of f) args)) rest → TrIn w vars (Call g ns) Obj live target code rest
    unfolding Tr
    tr_counted args target code middle rest right ready e = (refl, counted args (λ c. deliver target (expr.Call c) rest) code middle rest right ready e)

    pub tr_miscounted : (target : Target) (code rest : Code) → is_counted f ns ≡ false → Miscounted vars Evaluated f.params code rest → TrIn w vars (Call g ns) Obj live target code rest
    unfolding Tr
    tr_miscounted target code rest wrong raised = (refl, miscounted (λ c. deliver target (expr.Call c) rest) code rest wrong raised)

    pub unused_counted_is : (args : List CArg) (code middle rest : Code) → is_counted f ns ≡ true → AreReady w (objects ns) ns live args vars code middle
        → middle ≡ call (call_of (c_name_of f) args) rest → TrUnusedIn w vars (Call g ns) live code rest
    unfolding TrUnused
    unused_counted_is args code middle rest right ready e = counted args (λ c. call c rest) code middle rest right ready e

    pub unused_miscounted_is : (code rest : Code) → is_counted f ns ≡ false → Miscounted vars Evaluated f.params code rest → TrUnusedIn w vars (Call g ns) live code rest
    unfolding TrUnused
    unused_miscounted_is code rest wrong raised = miscounted (λ c. call c rest) code rest wrong raised
