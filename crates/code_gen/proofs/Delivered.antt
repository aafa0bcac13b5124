-- The value of each node goes to a target as a word, and a test chooses between two blocks.
use Rattle.std.proofs.Common.{◌≡◌, ℕ, ◌≤◌, List, [], ◌∷◌, Some, None, ap, ◌∙◌, subst, arith}
use Rattle.built_table.specs.declared.primitives.Ty.TheVariants as ty
use Rattle.built_table.specs.declared.primitives.Primitive.{Primitive as Builtin}
use Rattle.built_table.specs.Table.{params_of, result_of}
use Rattle.core_tree.specs.declared.tree.Const.{Const}
use Rattle.core_tree.specs.declared.tree.VarId.{VarId}
use Rattle.core_tree.specs.declared.tree.GlobalRef.{GlobalRef}
use Rattle.core_tree.specs.Tree.{Tree, Constant, Variable, If, Call, Primitive, Trees}
use Rattle.c_tree.specs.declared.op.Op.{Op}
use Rattle.c_tree.specs.declared.tree.CAtom.TheVariants as atom
use Rattle.c_tree.specs.declared.tree.CCall.{CCall}
use Rattle.c_tree.specs.declared.tree.CExpr.{CExpr}
use Rattle.c_tree.specs.declared.tree.CExpr.TheVariants as expr
use Rattle.c_tree.specs.declared.tree.CVar.{CVar}
use Rattle.c_tree.specs.declared.pieces.Piece.TheVariants as piece
use Rattle.c_tree.specs.Code.{Code, done, assign, test}
use Rattle.c_tree.specs.Names.{local_name}
use Rattle.plan_rules.specs.declared.rep.Rep.{Rep}
use Rattle.plan_rules.specs.declared.rep.Rep.TheVariants.{Obj, Long, Bool as Truth_rep}
use Rattle.plan_rules.specs.Representation.{PlainAt, slot_of, rep_of, c_type_of, has_of, constant_expr, operation, local, Keep, Make, step}
use Rattle.plan_rules.specs.Translation.{Name, IsLocal, Target, deliver, into, Statements, Boxed, Coerced, Branches, objects}
use Rattle.code_gen.specs.declared.emitter.Emitter.{Emitter}
use Rattle.code_gen.specs.declared.emitter.Held.{Held}
use Rattle.code_gen.specs.declared.emitter.Target.{Target as NumberedTarget}
use Rattle.code_gen.specs.Settings.{Setting, scope_in, TrIn}
use Rattle.code_gen.specs.Emission.{target_of, piece_to, AreBelow, Puts, Emits, Stores, Gives, IsTested, IsPrimitiveCall, IsCounted, IsMiscounted, IsFunctionCall, Delivered, IsDelivered, GivesWord}
use Rattle.code_gen.proofs.Counts.{below_more, fresh_at}
use Rattle.code_gen.proofs.Steps.{Means, then, weaker, deliver_emits, Chosen, blocks}
use Rattle.code_gen.proofs.Related.{tr_constant, tr_variable, variable_has, tr_if, tr_primitive, tr_counted, tr_miscounted}
use Rattle.code_gen.proofs.Evaluated.{Ready, Raised}

-- Words -------------------------------------------------------------------------------------

-- a value that comes as a word, or is made one by an operation
coerced_kept : (vars : List CVar) (h : Rep) (given : Statements) (live : List Name) (target : Target) (code rest : Code) → Keep ≡ step ty.Obj h → given target code rest → Coerced vars h Obj given live target code rest
coerced_kept vars Obj given live target code rest keeps g = g
coerced_kept vars Long given live target code rest keeps g = absurd (cc)
coerced_kept vars Truth_rep given live target code rest keeps g = absurd (cc)

coerced_made : (vars : List CVar) (h : Rep) (o : Op) (given : Statements) (live : List Name) (target : Target) (code rest : Code) → Make o ≡ step ty.Obj h → Boxed vars o (c_type_of h) given live target code rest
    → Coerced vars h Obj given live target code rest
coerced_made vars Obj o given live target code rest makes g = absurd (cc)
coerced_made vars Long o given live target code rest makes g = subst (λ p. Boxed vars p (c_type_of Long) given live target code rest) (cc) g
coerced_made vars Truth_rep o given live target code rest makes g = subst (λ p. Boxed vars p (c_type_of Truth_rep) given live target code rest) (cc) g

-- what stands before the value
coerced_after : (vars : List CVar) (h : Rep) (given all : Statements) (live : List Name) (target : Target) (code middle rest : Code)
    → ((target : Target) (rest : Code) → given target middle rest → all target code rest) → Coerced vars h Obj given live target middle rest → Coerced vars h Obj all live target code rest
coerced_after vars Obj given all live target code middle rest more g = more target rest g
coerced_after vars Long given all live target code middle rest more g =
    record { temporary = g.temporary; middle = g.middle; fresh = g.fresh; is_local = g.is_local; value = more (into g.temporary) g.middle g.value; box = g.box }
coerced_after vars Truth_rep given all live target code middle rest more g =
    record { temporary = g.temporary; middle = g.middle; fresh = g.fresh; is_local = g.is_local; value = more (into g.temporary) g.middle g.value; box = g.box }

abbrev Called : CCall → Statements
Called c target code rest = code ≡ deliver target (expr.Call c) rest

pub gives_kept : (s t : Emitter) (h : Rep) (c : CCall) (to : NumberedTarget) → Keep ≡ step ty.Obj h → Puts s t (piece_to to (expr.Call c)) → GivesWord s t h c to
gives_kept s t h c to keeps puts = record {
  emits = weaker s t (λ vars code rest. code ≡ deliver (target_of to) (expr.Call c) rest)
      (λ vars code rest. (live : List Name) → AreBelow s.next live → Coerced vars h Obj (Called c) live (target_of to) code rest)
      (deliver_emits s t to (expr.Call c) puts) (λ vars code rest p live below. coerced_kept vars h (Called c) live (target_of to) code rest keeps p);
}

pub gives_made : (s t u : Emitter) (h : Rep) (o : Op) (c : CCall) (to : NumberedTarget) (held : Held) (e : CExpr) → Make o ≡ step ty.Obj h → Stores s t h (expr.Call c) held
    → e ≡ expr.Call (operation o (local (local_name held.local) ∷ [])) → Puts t u (piece_to to e) → GivesWord s u h c to
gives_made s t u h o c to held e makes stored e_is puts =
    let x = local_name held.local in
    let number : held.local ≡ s.next = stored.number in
    record {
      emits = then s t u (λ vars code rest. (code ≡ assign x (expr.Call c) rest) × IsLocal vars x (c_type_of h)) (λ vars code rest. code ≡ deliver (target_of to) e rest)
          (λ vars code rest. (live : List Name) → AreBelow s.next live → Coerced vars h Obj (Called c) live (target_of to) code rest)
          stored.emits (deliver_emits t u to e puts)
          (λ vars code middle rest a b live below.
          coerced_made vars h o (Called c) live (target_of to) code rest makes
          (record {
            temporary = x;
            middle = middle;
            fresh = fresh_at s.next held.local live (omega arith) stored.small below;
            is_local = a.1;
            value = a.0;
            box = b ∙ ap (λ f. deliver (target_of to) f rest) e_is;
          }));
    }

module _ (w : Setting) where
  abbrev Answered : ℕ → Tree → NumberedTarget → Means
  Answered next n to vars code rest = (live : List Name) → AreBelow next live → Delivered w n live vars (target_of to) code rest

  pub delivered_constant : (s t : Emitter) (k : Const) (e : CExpr) (to : NumberedTarget) → constant_expr k Obj ≡ Some e → Puts s t (piece_to to e) → IsDelivered w s t (Constant k) to
  delivered_constant s t k e to e_is puts = record {
    emits = weaker s t (λ vars code rest. code ≡ deliver (target_of to) e rest) (Answered s.next (Constant k) to) (deliver_emits s t to e puts)
        (λ vars code rest a live below. tr_constant w vars k Obj e live (target_of to) code rest e_is a);
  }

  pub delivered_variable : (s t : Emitter) (x : VarId) (n : ℕ) (e : CExpr) (to : NumberedTarget) → slot_of x (scope_in w) ≡ Some (PlainAt Obj (local_name n)) → e ≡ expr.Atom (atom.Name (local_name n))
      → Puts s t (piece_to to e) → IsDelivered w s t (Variable x) to
  delivered_variable s t x n e to found e_is puts =
      let is : Obj ≡ has_of (scope_in w) (Variable x) Obj = variable_has w x (local_name n) Obj found in
      record {
        emits = weaker s t (λ vars code rest. code ≡ deliver (target_of to) e rest) (Answered s.next (Variable x) to) (deliver_emits s t to e puts)
            (λ vars code rest a live below.
            subst (λ h. Coerced vars h Obj (λ target code rest. TrIn w vars (Variable x) h live target code rest) live (target_of to) code rest) is
            (tr_variable w vars x (local_name n) live (target_of to) code rest found (a ∙ ap (λ f. deliver (target_of to) f rest) e_is)));
      }

  -- Calls -------------------------------------------------------------------------------------

  pub delivered_primitive : (s t u : Emitter) (p : Builtin) (ns : Trees) (h : Rep) (c : CCall) (to : NumberedTarget) → h ≡ rep_of (result_of p) → IsPrimitiveCall w s t p ns c → GivesWord t u h c to
      → IsDelivered w s u (Primitive p ns) to
  delivered_primitive s t u p ns h c to h_is called gives =
      let started : s.next ≤ t.next = called.ready.emits.grows.later in
      record {
        emits = then s t u (Ready w s.next (params_of p) ns called.args)
            (λ vars code rest. (live : List Name) → AreBelow t.next live → Coerced vars h Obj (Called c) live (target_of to) code rest)
            (Answered s.next (Primitive p ns) to) called.ready.emits gives.emits
            (λ vars code middle rest a b live below.
            subst (λ k. Coerced vars k Obj (λ target code rest. TrIn w vars (Primitive p ns) k live target code rest) live (target_of to) code rest) h_is
            (coerced_after vars h (Called c) (λ target code rest. TrIn w vars (Primitive p ns) h live target code rest) live (target_of to) code middle rest
            (λ target end e. tr_primitive w vars p ns h live called.args target code middle end h_is (a live below) (e ∙ ap (λ d. deliver target (expr.Call d) end) called.is))
            (b live (below_more s.next t.next live started below))));
      }

  pub delivered_counted : (s t u : Emitter) (g : GlobalRef) (ns : Trees) (c : CCall) (to : NumberedTarget) → IsFunctionCall w s t g ns (Some c) → Puts t u (piece_to to (expr.Call c)) → IsDelivered w s u (Call g ns) to
  delivered_counted s t u g ns c to called puts =
      let is : IsCounted w s t called.callee ns c = called.written in
      record {
        emits = then s t u (Ready w s.next (objects ns) ns is.args) (λ vars code rest. code ≡ deliver (target_of to) (expr.Call c) rest) (Answered s.next (Call g ns) to)
            is.ready.emits (deliver_emits t u to (expr.Call c) puts)
            (λ vars code middle rest a b live below.
            tr_counted w vars g called.callee ns live called.found is.args (target_of to) code middle rest is.counted (a live below) (b ∙ ap (λ d. deliver (target_of to) (expr.Call d) rest) is.is));
      }

  pub delivered_miscounted : (s t : Emitter) (g : GlobalRef) (ns : Trees) (to : NumberedTarget) → IsFunctionCall w s t g ns None → IsDelivered w s t (Call g ns) to
  delivered_miscounted s t g ns to called =
      let is : IsMiscounted w s t called.callee ns = called.written in
      record {
        emits = weaker s t (Raised w s.next called.callee ns) (Answered s.next (Call g ns) to) is.emits
            (λ vars code rest a live below. tr_miscounted w vars g called.callee ns live called.found (target_of to) code rest is.counted (a live below));
      }

  -- Branches ----------------------------------------------------------------------------------

  -- what a block is related to, below the names that are live
  abbrev pub Block : Type 1
  Block = List CVar → List Name → Code → Code → Type 0

  abbrev pub Under : ℕ → Block → Means
  Under next one vars code rest = (live : List Name) → AreBelow next live → one vars live code rest

  pub branch : (s t u v x y z : Emitter) (a : Tree) (e : CExpr) (One Other : Block) → IsTested w s t a e → Puts t u (piece.If e) → Emits u v (Under u.next One) → Puts v x piece.Else
      → Emits x y (Under x.next Other) → Puts y z piece.End
      → Emits s z (λ vars code rest. (live : List Name) → AreBelow s.next live
      → Branches vars (has_of (scope_in w) a Truth_rep) (λ target code rest. TrIn w vars a (has_of (scope_in w) a Truth_rep) live target code rest) live
      (λ code. One vars live code done) (λ code. Other vars live code done) code rest)
  branch s t u v x y z a e One Other tested opens one turns other closes =
      let h = has_of (scope_in w) a Truth_rep in
      let at_test : s.next ≤ t.next = tested.emits.grows.later in
      let at_one : u.next ≡ t.next = opens.next_is in
      let at_turn : u.next ≤ v.next = one.grows.later in
      let at_other : x.next ≡ v.next = turns.next_is in
      let first : s.next ≤ u.next = omega arith in
      let second : s.next ≤ x.next = omega arith in
      then s t z (λ vars code rest. Gives w a h s.next tested.number vars code rest)
      (λ vars code rest. Chosen e (λ code. Under u.next One vars code done) (λ code. Under x.next Other vars code done) code rest)
      (λ vars code rest. (live : List Name) → AreBelow s.next live
      → Branches vars h (λ target code rest. TrIn w vars a h live target code rest) live (λ code. One vars live code done) (λ code. Other vars live code done) code rest)
      tested.emits (blocks t u v x y z e (Under u.next One) (Under x.next Other) opens one turns other closes)
      (λ vars code middle rest g k live below. record {
        temporary = local_name tested.number;
        middle = middle;
        first = k.first;
        second = k.second;
        fresh = g.fresh live below;
        is_local = g.is_local;
        given = g.given live below;
        is = k.is ∙ ap (λ c. test c k.first k.second rest) tested.is;
        taken = k.taken live (below_more s.next u.next live first below);
        else_taken = k.else_taken live (below_more s.next x.next live second below);
      })

  pub delivered_if : (s t u v x y z : Emitter) (a b c : Tree) (e : CExpr) (to : NumberedTarget) → IsTested w s t a e → Puts t u (piece.If e) → IsDelivered w u v b to → Puts v x piece.Else
      → IsDelivered w x y c to → Puts y z piece.End → IsDelivered w s z (If a b c) to
  delivered_if s t u v x y z a b c e to tested opens one turns other closes = record {
    emits = weaker s z
        (λ vars code rest. (live : List Name) → AreBelow s.next live
        → Branches vars (has_of (scope_in w) a Truth_rep) (λ target code rest. TrIn w vars a (has_of (scope_in w) a Truth_rep) live target code rest) live
        (λ code. Delivered w b live vars (target_of to) code done) (λ code. Delivered w c live vars (target_of to) code done) code rest)
        (Answered s.next (If a b c) to)
        (branch s t u v x y z a e (λ vars live code rest. Delivered w b live vars (target_of to) code rest) (λ vars live code rest. Delivered w c live vars (target_of to) code rest)
        tested opens one.emits turns other.emits closes)
        (λ vars code rest p live below. tr_if w vars a b c live (target_of to) code rest (p live below));
  }
