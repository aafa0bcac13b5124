-- Constants and variables have their values where they go.
use Rattle.std.proofs.Common.{◌≡◌, ℕ, List, [], ◌∷◌, true, false, Option, Some, None, refl, sym, ap, subst}
use Rattle.std.specs.Prelude.{pos}
use Rattle.core_tree.specs.declared.tree.Const.{Const}
use Rattle.core_tree.specs.declared.tree.Const.TheVariants.{Int, Bool as Truth}
use Rattle.core_tree.specs.declared.tree.VarId.{VarId}
use Rattle.core_tree.specs.Tree.{ModuleTree}
use Rattle.meaning.specs.Value.{Value, Fixnum, Boolean, State}
use Rattle.meaning.specs.Value as src
use Rattle.meaning.specs.Evaluation.{Environment, valued, value_of, constant}
use Rattle.c_tree.specs.declared.op.Op.{Op}
use Rattle.c_tree.specs.declared.tree.CAtom.TheVariants as atom
use Rattle.c_tree.specs.declared.tree.CExpr.{CExpr}
use Rattle.c_tree.specs.declared.tree.CExpr.TheVariants as expr
use Rattle.c_tree.specs.declared.tree.CVar.{CVar}
use Rattle.c_tree.specs.Code.{Code, Fun}
use Rattle.c_meaning.specs.Word as word
use Rattle.c_meaning.specs.State.{Cell, AWord, ANumber, Frame, State as CState}
use Rattle.c_meaning.specs.State as c
use Rattle.c_meaning.specs.Execution.{Lower, position_of, exec}
use Rattle.plan_rules.specs.declared.rep.Rep.{Rep}
use Rattle.plan_rules.specs.declared.rep.Rep.TheVariants.{Obj, Long, Bool as Truth_rep}
use Rattle.plan_rules.specs.Representation.{Slot, PlainAt, Scope, slot_of, operation, local, constant_expr}
use Rattle.plan_rules.specs.Translation.{Name, Target, deliver, TrConstant, TrVariable, TrVariableUnused}
use Rattle.simulation.proofs.Frames.{names, Free}
use Rattle.simulation.proofs.Worlds.{World, IsRep, grows_same, frozen_same, hide, Same}
use Rattle.simulation.proofs.Boxes.{Boxes}
use Rattle.simulation.proofs.Ends.{Base, moved_same, Answers, At, Passed, delivered}
use Rattle.simulation.proofs.Scopes.{InSlot, stands, Ready}
use Rattle.simulation.proofs.Evaluations.{eval}

module _ (vars : List CVar) (p : List Fun) (lower : Lower) where
  -- an expression that changes nothing is delivered
  plain : (r : Rep) (b : Base) (target : Target) (e : CExpr) (code rest : Code) (v : Value) (cell : Cell) (t : CState) → code ≡ deliver target e rest → eval p lower (names vars) e b.frame t ≡ c.Has cell t → IsRep b.world r v cell → Free vars b.live target → Same b.world b.state t → At vars p lower target r rest b (src.Gives v b.state) (exec p lower (names vars) code b.frame t)
  plain r b target e code rest v cell t is gives here free same =
      subst (λ x. At vars p lower target r rest b (src.Gives v b.state) (exec p lower (names vars) x b.frame t)) (sym is)
      (delivered vars p lower target r rest b (src.Gives v b.state) e t free
      (record { later = b.world; cell = cell; t = t; is = gives; here = here; grows = grows_same b.world; frozen = frozen_same (hide b.world) b.state; same = same }))

  -- a number in a local is boxed
  pub boxed_answers : (o : Op) (x : Name) (v : Value) (world : World) (f : Frame) (s : State) (t : CState) → Boxes o world v (f (position_of x (names vars))) t → Same world s t → Answers world s Obj v s (eval p lower (names vars) (expr.Call (operation o (local x ∷ []))) f t)
  boxed_answers o x v world f s t h same =
      record { later = world; cell = AWord h.w; t = t; is = h.is; here = record { w = h.w; is = refl; means = h.means }; grows = grows_same world; frozen = frozen_same (hide world) s; same = same }

  module _ (m : ModuleTree) (scope : Scope) (env : Environment) (limit : ℕ) where
    pub constant_ends : (k : Const) (h : Rep) (b : Base) (target : Target) (code rest : Code) (t : CState) → TrConstant m scope vars (constant_expr k h) target code rest → Free vars b.live target → Same b.world b.state t → At vars p lower target h rest b (src.Gives (constant k) b.state) (exec p lower (names vars) code b.frame t)
    constant_ends (Int n) Obj b target code rest t is free same =
        plain Obj b target _ code rest (Fixnum n) (AWord (word.Fixnum n)) t is refl (record { w = word.Fixnum n; is = refl; means = refl }) free same
    constant_ends (Int n) Long b target code rest t is free same = plain Long b target _ code rest (Fixnum n) (ANumber n) t is refl (record { n = n; value = refl; is = refl }) free same
    constant_ends (Int n) Truth_rep b target code rest t is free same = absurd is
    constant_ends (Truth true) Obj b target code rest t is free same = plain Obj b target _ code rest (Boolean true) (AWord word.True) t is refl (record { w = word.True; is = refl; means = refl }) free same
    constant_ends (Truth false) Obj b target code rest t is free same = plain Obj b target _ code rest (Boolean false) (AWord word.False) t is refl (record { w = word.False; is = refl; means = refl }) free same
    constant_ends (Truth k) Long b target code rest t is free same = absurd is
    constant_ends (Truth true) Truth_rep b target code rest t is free same = plain Truth_rep b target _ code rest (Boolean true) (ANumber (pos 1)) t is refl (record { b = true; value = refl; is = refl }) free same
    constant_ends (Truth false) Truth_rep b target code rest t is free same = plain Truth_rep b target _ code rest (Boolean false) (ANumber (pos 0)) t is refl (record { b = false; value = refl; is = refl }) free same

    -- a value in its slot
    slot_ends : (slot : Slot) (h : Rep) (b : Base) (target : Target) (code rest : Code) (v : Value) (t : CState) → InSlot vars b.world b.frame b.live slot v → TrVariable m scope vars (Some slot) h target code rest → Free vars b.live target → Same b.world b.state t → At vars p lower target h rest b (src.Gives v b.state) (exec p lower (names vars) code b.frame t)
    slot_ends (PlainAt r y) h b target code rest v t at is free same =
        subst (λ z. At vars p lower target z rest b (src.Gives v b.state) (exec p lower (names vars) code b.frame t)) (sym is.0)
        (plain r b target (expr.Atom (atom.Name y)) code rest v (b.frame (position_of y (names vars))) t is.1 refl at.here free same)

    pub variable_ends : (x : VarId) (found : Option Slot) → slot_of x scope ≡ found → (h : Rep) (b : Base) (target : Target) (code rest : Code) (t : CState) → TrVariable m scope vars found h target code rest → Free vars b.live target → Ready vars scope env limit b t → At vars p lower target h rest b (valued (value_of x env) b.state) (exec p lower (names vars) code b.frame t)
    variable_ends x None e h b target code rest t is free ready = absurd is
    variable_ends x (Some slot) e h b target code rest t is free ready =
        let at = stands vars b.world b.frame b.live x slot ready.scoped e in
        subst (λ o. At vars p lower target h rest b (valued o b.state) (exec p lower (names vars) code b.frame t)) (sym at.is) (slot_ends slot h b target code rest at.v t at.at is free ready.same)

    pub variable_unused : (x : VarId) (found : Option Slot) → slot_of x scope ≡ found → (b : Base) (code rest : Code) (t : CState) → TrVariableUnused m scope vars found code rest → Ready vars scope env limit b t → Passed vars p lower rest b (valued (value_of x env) b.state) (exec p lower (names vars) code b.frame t)
    variable_unused x None e b code rest t is ready = absurd is
    variable_unused x (Some slot) e b code rest t is ready =
        let at = stands vars b.world b.frame b.live x slot ready.scoped e in
        subst (λ o. Passed vars p lower rest b (valued o b.state) (exec p lower (names vars) code b.frame t)) (sym at.is)
        (record { later = b.world; g = b.frame; t = t; is = ap (λ x. exec p lower (names vars) x b.frame t) is; here = tt; moved = moved_same vars b; same = ready.same })
