-- The value of each node is put into a new local, and each call is written.
use Rattle.std.proofs.Common.{◌≡◌, ℕ, suc, ◌≤◌, List, true, false, Some, None, refl, sym, ap, ◌∙◌, subst, arith}
use Rattle.built_table.specs.declared.primitives.Ty.{Ty}
use Rattle.built_table.specs.declared.primitives.Primitive.{Primitive as Builtin}
use Rattle.built_table.specs.Table.{params_of, result_of}
use Rattle.core_tree.specs.declared.tree.Const.{Const}
use Rattle.core_tree.specs.declared.tree.VarId.{VarId}
use Rattle.core_tree.specs.declared.tree.GlobalRef.{GlobalRef}
use Rattle.core_tree.specs.Tree.{Tree, Constant, Variable, If, Call, Primitive, Trees, Callee, callee_of}
use Rattle.c_tree.specs.declared.tree.CArg.{CArg}
use Rattle.c_tree.specs.declared.tree.CAtom.TheVariants as atom
use Rattle.c_tree.specs.declared.tree.CCall.{CCall}
use Rattle.c_tree.specs.declared.tree.CExpr.{CExpr}
use Rattle.c_tree.specs.declared.tree.CExpr.TheVariants as expr
use Rattle.c_tree.specs.declared.pieces.Piece.TheVariants as piece
use Rattle.c_tree.specs.Code.{assign, call}
use Rattle.c_tree.specs.Names.{local_name}
use Rattle.plan_rules.specs.declared.rep.Rep.{Rep}
use Rattle.plan_rules.specs.declared.rep.Rep.TheVariants.{Obj, Bool as Truth_rep}
use Rattle.plan_rules.specs.Representation.{PlainAt, slot_of, rep_of, c_type_of, constant_rep, constant_expr, condition, call_of, raise_count}
use Rattle.plan_rules.specs.Translation.{Name, IsLocal, into, Miscounted, objects, is_counted, c_name_of}
use Rattle.code_gen.specs.declared.emitter.Emitter.{Emitter}
use Rattle.code_gen.specs.declared.emitter.Held.{Held}
use Rattle.code_gen.specs.declared.emitter.Target.TheVariants.{Into}
use Rattle.code_gen.specs.Settings.{Setting, scope_in, TrIn, TrArgumentsIn}
use Rattle.code_gen.specs.Emission.{held_names, AreBelow, Puts, Stores, LeavesUnset, Gives, IsValue, IsTested, IsDelivered, AreArguments, AreReady, IsReady, IsPrimitiveCall, IsCounted, IsMiscounted, IsFunctionCall}
use Rattle.code_gen.proofs.Counts.{below_more, fresh_at}
use Rattle.code_gen.proofs.Steps.{Means, same, then, call_emits}
use Rattle.code_gen.proofs.Values.{value_stored, value_unset}
use Rattle.code_gen.proofs.Related.{tr_constant, tr_variable, variable_has, tr_primitive, tr_counted, tr_miscounted}

module _ (w : Setting) where
  abbrev pub Ready : ℕ → List Ty → Trees → List CArg → Means
  Ready next types ns args vars code rest = (live : List Name) → AreBelow next live → AreReady w types ns live args vars code rest

  -- the arguments are evaluated and the error is raised
  abbrev pub Raised : ℕ → Callee → Trees → Means
  Raised next f ns vars code rest =
      (live : List Name) → AreBelow next live → Miscounted vars (λ temporaries code middle. TrArgumentsIn w vars (objects ns) ns live temporaries code middle) f.params code rest

  pub value_constant : (s u : Emitter) (k : Const) (wanted h : Rep) (e : CExpr) (held : Held) → constant_expr k (constant_rep k wanted) ≡ Some e → h ≡ constant_rep k wanted → Stores s u h e held
      → IsValue w s u (Constant k) wanted held
  value_constant s u k wanted h e held e_is h_is stored =
      let is : constant_expr k h ≡ Some e = ap (constant_expr k) h_is ∙ e_is in
      value_stored w s s u (λ vars code rest. code ≡ rest) (Constant k) wanted h e held (same s) stored h_is
      (λ vars live below code middle rest a b. tr_constant w vars k h e live (into (local_name held.local)) code rest is (a ∙ b))

  pub value_variable : (s u : Emitter) (x : VarId) (n : ℕ) (wanted : Rep) (e : CExpr) (held : Held) → slot_of x (scope_in w) ≡ Some (PlainAt Obj (local_name n))
      → e ≡ expr.Atom (atom.Name (local_name n)) → Stores s u Obj e held → IsValue w s u (Variable x) wanted held
  value_variable s u x n wanted e held found e_is stored =
      value_stored w s s u (λ vars code rest. code ≡ rest) (Variable x) wanted Obj e held (same s) stored (variable_has w x (local_name n) wanted found)
      (λ vars live below code middle rest a b.
      tr_variable w vars x (local_name n) live (into (local_name held.local)) code rest found (a ∙ b ∙ ap (λ f. assign (local_name held.local) f rest) e_is))

  pub value_primitive : (s t u : Emitter) (p : Builtin) (ns : Trees) (wanted h : Rep) (c : CCall) (held : Held) → IsPrimitiveCall w s t p ns c → h ≡ rep_of (result_of p)
      → Stores t u h (expr.Call c) held → IsValue w s u (Primitive p ns) wanted held
  value_primitive s t u p ns wanted h c held called h_is stored =
      value_stored w s t u (Ready s.next (params_of p) ns called.args) (Primitive p ns) wanted h (expr.Call c) held called.ready.emits stored h_is
      (λ vars live below code middle rest a b.
      tr_primitive w vars p ns h live called.args (into (local_name held.local)) code middle rest h_is (a live below) (b ∙ ap (λ d. assign (local_name held.local) (expr.Call d) rest) called.is))

  pub value_counted : (s t u : Emitter) (g : GlobalRef) (ns : Trees) (wanted : Rep) (c : CCall) (held : Held) → IsFunctionCall w s t g ns (Some c)
      → Stores t u Obj (expr.Call c) held → IsValue w s u (Call g ns) wanted held
  value_counted s t u g ns wanted c held called stored =
      let is : IsCounted w s t called.callee ns c = called.written in
      value_stored w s t u (Ready s.next (objects ns) ns is.args) (Call g ns) wanted Obj (expr.Call c) held is.ready.emits stored refl
      (λ vars live below code middle rest a b.
      tr_counted w vars g called.callee ns live called.found is.args (into (local_name held.local)) code middle rest is.counted (a live below)
      (b ∙ ap (λ d. assign (local_name held.local) (expr.Call d) rest) is.is))

  pub value_miscounted : (s t u : Emitter) (g : GlobalRef) (ns : Trees) (wanted : Rep) (held : Held) → IsFunctionCall w s t g ns None → LeavesUnset t u Obj held → IsValue w s u (Call g ns) wanted held
  value_miscounted s t u g ns wanted held called unset =
      let is : IsMiscounted w s t called.callee ns = called.written in
      value_unset w s t u (Raised s.next called.callee ns) (Call g ns) wanted Obj held is.emits unset refl
      (λ vars live below code middle rest a b.
      tr_miscounted w vars g called.callee ns live called.found (into (local_name held.local)) code rest is.counted
      (subst (λ k. Miscounted vars (λ temporaries code middle. TrArgumentsIn w vars (objects ns) ns live temporaries code middle) called.callee.params code k) b (a live below)))

  -- the local is there before the blocks that put a word into it
  pub value_chosen : (s t u : Emitter) (a b c : Tree) (wanted : Rep) (held : Held) → LeavesUnset s t Obj held → IsDelivered w t u (If a b c) (Into held.local) → IsValue w s u (If a b c) wanted held
  value_chosen s t u a b c wanted held unset delivered =
      let x = local_name held.local in
      let later : t.next ≤ u.next = delivered.emits.grows.later in
      let next : t.next ≡ suc held.local = unset.next_is in
      let number : held.local ≡ s.next = unset.number in
      record {
        rep = unset.rep;
        below = omega arith;
        emits = then s t u (λ vars code rest. (code ≡ rest) × IsLocal vars x (c_type_of Obj))
            (λ vars code rest. (live : List Name) → AreBelow t.next live → TrIn w vars (If a b c) Obj live (into x) code rest)
            (λ vars code rest. Gives w (If a b c) Obj s.next held.local vars code rest) unset.emits delivered.emits
            (λ vars code middle rest p q. record {
              is_local = p.1;
              fresh = λ live below. fresh_at s.next held.local live (omega arith) unset.small below;
              given = λ live below. subst (λ k. TrIn w vars (If a b c) Obj live (into x) k rest) (sym p.0) (q live (below_more s.next t.next live (omega arith) below));
            });
      }

  pub is_tested : (s t : Emitter) (n : Tree) (held : Held) (e : CExpr) → IsValue w s t n Truth_rep held → e ≡ condition held.rep (local_name held.local) → IsTested w s t n e
  is_tested s t n held e value e_is = record {
    number = held.local;
    is = e_is ∙ ap (λ r. condition r (local_name held.local)) value.rep;
    emits = value.emits;
  }

  -- Calls -----------------------------------------------------------------------------------

  pub call_counted : (s t : Emitter) (g : GlobalRef) (f : Callee) (ns : Trees) (name : Name) (args : List CArg) → callee_of w.in_module g ≡ Some f → is_counted f ns ≡ true
      → IsReady w s t (objects ns) ns args → name ≡ c_name_of f → IsFunctionCall w s t g ns (Some (call_of name args))
  call_counted s t g f ns name args found right ready name_is = record {
    callee = f;
    found = found;
    written = record { args = args; counted = right; is = ap (λ n. call_of n args) name_is; ready = ready };
  }

  pub call_miscounted : (s t u : Emitter) (g : GlobalRef) (f : Callee) (ns : Trees) (held : List Held) (c : CCall) → callee_of w.in_module g ≡ Some f → is_counted f ns ≡ false
      → AreArguments w s t (objects ns) ns held → c ≡ raise_count f.params → Puts t u (piece.Call c) → IsFunctionCall w s u g ns None
  call_miscounted s t u g f ns held c found wrong a c_is puts = record {
    callee = f;
    found = found;
    written = record {
      counted = wrong;
      emits = then s t u
          (λ vars code rest. (live : List Name) → AreBelow s.next live → TrArgumentsIn w vars (objects ns) ns live (held_names held) code rest)
          (λ vars code rest. code ≡ call c rest)
          (Raised s.next f ns) a.emits (call_emits t u c puts)
          (λ vars code middle rest x y live below. record { temporaries = held_names held; middle = middle; values = x live below; is = y ∙ ap (λ d. call d rest) c_is });
    };
  }
