-- Values that nobody takes, and a body's parts in order.
use Rattle.std.proofs.Common.{◌≡◌, ℕ, zero, suc, ◌+◌, ◌<◌, ◌≤◌, List, [], ◌∷◌, ◌++◌, length, map, take, drop, get_or, Some, None, refl, sym, ap, ◌∙◌, subst, arith, add-one}
use Rattle.std.proofs.Math.Seq.{drop-cons}
use Rattle.std.proofs.lemmas.List.{drop_all, take_more}
use Rattle.built_table.specs.declared.primitives.Primitive.{Primitive as Builtin}
use Rattle.built_table.specs.Table.{params_of}
use Rattle.core_tree.specs.declared.tree.Const.{Const}
use Rattle.core_tree.specs.declared.tree.VarId.{VarId}
use Rattle.core_tree.specs.declared.tree.GlobalRef.{GlobalRef}
use Rattle.core_tree.specs.declared.tree.Node.{Node}
use Rattle.core_tree.specs.declared.tree.Top.{Top}
use Rattle.core_tree.specs.declared.tree.Top.TheVariants.{Function, Form}
use Rattle.core_tree.specs.Tree.{Tree, Constant, Variable, If, Sequence, Call, Primitive, Trees, none, more, trees, tree, forms_in}
use Rattle.c_tree.specs.declared.tree.CCall.{CCall}
use Rattle.c_tree.specs.declared.tree.CExpr.{CExpr}
use Rattle.c_tree.specs.declared.tree.CVar.{CVar}
use Rattle.c_tree.specs.declared.pieces.Piece.TheVariants as piece
use Rattle.c_tree.specs.Code.{Code, done, call}
use Rattle.plan_rules.specs.declared.rep.Rep.TheVariants.{Obj, Bool as Truth_rep}
use Rattle.plan_rules.specs.Representation.{PlainAt, slot_of, has_of}
use Rattle.plan_rules.specs.Translation.{Name, back, Branches, objects, Tr, TrAllUnused, TrLast}
use Rattle.code_gen.specs.declared.emitter.Emitter.{Emitter}
use Rattle.code_gen.specs.declared.emitter.Target.TheVariants.{Back}
use Rattle.code_gen.specs.Settings.{Setting, scope_in, AreNodes, TrIn, TrUnusedIn, TrAllUnusedIn, TrLastIn}
use Rattle.code_gen.specs.Emission.{AreBelow, Puts, Emits, IsTested, IsPrimitiveCall, IsCounted, IsMiscounted, IsFunctionCall, IsUnused, AreUnused, Delivered, IsDelivered, IsBodyOf}
use Rattle.code_gen.proofs.Counts.{below_more}
use Rattle.code_gen.proofs.Steps.{Means, same, then, weaker, call_emits}
use Rattle.code_gen.proofs.Related.{unused_constant_is, unused_variable_is, unused_if_is, unused_primitive_is, unused_counted_is, unused_miscounted_is}
use Rattle.code_gen.proofs.Evaluated.{Ready, Raised}
use Rattle.code_gen.proofs.Delivered.{branch}

module _ (w : Setting) where
  -- A value that nobody takes -----------------------------------------------------------------

  abbrev Unused : ℕ → Tree → Means
  Unused next n vars code rest = (live : List Name) → AreBelow next live → TrUnusedIn w vars n live code rest

  abbrev AllUnused : ℕ → Trees → Means
  AllUnused next ns vars code rest = (live : List Name) → AreBelow next live → TrAllUnusedIn w vars ns live code rest

  pub unused_constant : (s : Emitter) (k : Const) → IsUnused w s s (Constant k)
  unused_constant s k = record {
    emits = weaker s s (λ vars code rest. code ≡ rest) (Unused s.next (Constant k)) (same s) (λ vars code rest e live b. unused_constant_is w vars k live code rest e);
  }

  pub unused_variable : (s : Emitter) (x : VarId) (y : Name) → slot_of x (scope_in w) ≡ Some (PlainAt Obj y) → IsUnused w s s (Variable x)
  unused_variable s x y found = record {
    emits = weaker s s (λ vars code rest. code ≡ rest) (Unused s.next (Variable x)) (same s) (λ vars code rest e live b. unused_variable_is w vars x y live code rest found e);
  }

  pub unused_primitive : (s t u : Emitter) (p : Builtin) (ns : Trees) (c : CCall) → IsPrimitiveCall w s t p ns c → Puts t u (piece.Call c) → IsUnused w s u (Primitive p ns)
  unused_primitive s t u p ns c called puts = record {
    emits = then s t u (Ready w s.next (params_of p) ns called.args) (λ vars code rest. code ≡ call c rest) (Unused s.next (Primitive p ns))
        called.ready.emits (call_emits t u c puts)
        (λ vars code middle rest a b live below. unused_primitive_is w vars p ns live called.args code middle rest (a live below) (b ∙ ap (λ d. call d rest) called.is));
  }

  pub unused_counted : (s t u : Emitter) (g : GlobalRef) (ns : Trees) (c : CCall) → IsFunctionCall w s t g ns (Some c) → Puts t u (piece.Call c) → IsUnused w s u (Call g ns)
  unused_counted s t u g ns c called puts =
      let is : IsCounted w s t called.callee ns c = called.written in
      record {
        emits = then s t u (Ready w s.next (objects ns) ns is.args) (λ vars code rest. code ≡ call c rest) (Unused s.next (Call g ns))
            is.ready.emits (call_emits t u c puts)
            (λ vars code middle rest a b live below. unused_counted_is w vars g called.callee ns live called.found is.args code middle rest is.counted (a live below) (b ∙ ap (λ d. call d rest) is.is));
      }

  pub unused_miscounted : (s t : Emitter) (g : GlobalRef) (ns : Trees) → IsFunctionCall w s t g ns None → IsUnused w s t (Call g ns)
  unused_miscounted s t g ns called =
      let is : IsMiscounted w s t called.callee ns = called.written in
      record {
        emits = weaker s t (Raised w s.next called.callee ns) (Unused s.next (Call g ns)) is.emits
            (λ vars code rest a live below. unused_miscounted_is w vars g called.callee ns live called.found code rest is.counted (a live below));
      }

  pub unused_if : (s t u v x y z : Emitter) (a b c : Tree) (e : CExpr) → IsTested w s t a e → Puts t u (piece.If e) → IsUnused w u v b → Puts v x piece.Else → IsUnused w x y c → Puts y z piece.End
      → IsUnused w s z (If a b c)
  unused_if s t u v x y z a b c e tested opens one turns other closes = record {
    emits = weaker s z
        (λ vars code rest. (live : List Name) → AreBelow s.next live
        → Branches vars (has_of (scope_in w) a Truth_rep) (λ target code rest. TrIn w vars a (has_of (scope_in w) a Truth_rep) live target code rest) live
        (λ code. TrUnusedIn w vars b live code done) (λ code. TrUnusedIn w vars c live code done) code rest)
        (Unused s.next (If a b c))
        (branch w s t u v x y z a e (λ vars live code rest. TrUnusedIn w vars b live code rest) (λ vars live code rest. TrUnusedIn w vars c live code rest)
        tested opens one.emits turns other.emits closes)
        (λ vars code rest p live below. unused_if_is w vars a b c live code rest (p live below));
  }

  -- Forms -----------------------------------------------------------------------------------

  pub unused_none : (s : Emitter) → AreUnused w s s none
  unfolding TrAllUnused
  unused_none s = record {
    emits = weaker s s (λ vars code rest. code ≡ rest) (AllUnused s.next none) (same s) (λ vars code rest e live b. e);
  }

  pub unused_alone : (s t : Emitter) (n : Tree) → IsUnused w s t n → AreUnused w s t (more n none)
  unfolding TrAllUnused
  unused_alone s t n one = record {
    emits = weaker s t (Unused s.next n) (AllUnused s.next (more n none)) one.emits (λ vars code rest a live b. record { middle = rest; one = a live b; all = refl });
  }

  unused_append : (vars : List CVar) (xs ys : List Top) (live : List Name) (code middle rest : Code)
      → TrAllUnusedIn w vars (forms_in xs) live code middle → TrAllUnusedIn w vars (forms_in ys) live middle rest → TrAllUnusedIn w vars (forms_in (xs ++ ys)) live code rest
  unfolding TrAllUnused
  unused_append vars [] ys live code middle rest a b = subst (λ k. TrAllUnusedIn w vars (forms_in ys) live k rest) (sym a) b
  unused_append vars (Function name lambda ∷ xs) ys live code middle rest a b = unused_append vars xs ys live code middle rest a b
  unused_append vars (Form n ∷ xs) ys live code middle rest a b = record { middle = a.middle; one = a.one; all = unused_append vars xs ys live a.middle middle rest a.all b }

  -- one form more
  pub unused_more : (s t u : Emitter) (tops : List Top) (i : ℕ) (top : Top) → i < length tops → top ≡ get_or tops i top → AreUnused w s t (forms_in (take i tops)) → AreUnused w t u (forms_in (top ∷ []))
      → AreUnused w s u (forms_in (take (i + 1) tops))
  unused_more s t u tops i top within top_is so one =
      let started : s.next ≤ t.next = so.emits.grows.later in
      let tops_are : take i tops ++ top ∷ [] ≡ take (i + 1) tops = sym (take_more tops i top within ∙ ap (λ (f : Top). take i tops ++ f ∷ []) (sym top_is)) in
      subst (λ (fs : List Top). AreUnused w s u (forms_in fs)) tops_are (record {
        emits = then s t u (AllUnused s.next (forms_in (take i tops))) (AllUnused t.next (forms_in (top ∷ []))) (AllUnused s.next (forms_in (take i tops ++ top ∷ []))) so.emits one.emits
            (λ vars code middle rest a b live below. unused_append vars (take i tops) (top ∷ []) live code middle rest (a live below) (b live (below_more s.next t.next live started below)));
      })

  forms_got : (tops : List Top) (i : ℕ) (d : Top) → i < length tops → AreNodes w (forms_in tops) → AreNodes w (forms_in (get_or tops i d ∷ []))
  forms_got [] i d within h = absurd (omega arith)
  forms_got (Function name lambda ∷ tops) zero d within h = tt
  forms_got (Form n ∷ tops) zero d within h = (h.0, tt)
  forms_got (Function name lambda ∷ tops) (suc i) d within h = forms_got tops i d (omega arith) h
  forms_got (Form n ∷ tops) (suc i) d within h = forms_got tops i d (omega arith) h.1

  pub form_at : (tops : List Top) (i : ℕ) (top : Top) → i < length tops → top ≡ get_or tops i top → AreNodes w (forms_in tops) → AreNodes w (forms_in (top ∷ []))
  form_at tops i top within is h = subst (λ (f : Top). AreNodes w (forms_in (f ∷ []))) (sym is) (forms_got tops i top within h)

  -- All parts ---------------------------------------------------------------------------------

  -- the first parts are there, and whatever gives the others gives all
  abbrev pub BodySoFar : ℕ → List Node → ℕ → List CVar → Code → Code → Type 0
  BodySoFar next nodes i vars code rest = (live : List Name) → AreBelow next live → (last : Code)
      → TrLastIn w vars (trees (map tree (drop i nodes))) Obj live back rest last → TrLastIn w vars (trees (map tree nodes)) Obj live back code last

  pub record Walking (s e : Emitter) (nodes : List Node) (i : ℕ) : Type 0 where
    pub emits : Emits s e (BodySoFar s.next nodes i)

  pub walking_none : (s : Emitter) (nodes : List Node) → Walking s s nodes 0
  walking_none s nodes = record {
    emits = weaker s s (λ vars code rest. code ≡ rest) (BodySoFar s.next nodes 0) (same s)
        (λ vars code rest e live b last given. subst (λ k. TrLastIn w vars (trees (map tree nodes)) Obj live back k last) (sym e) given);
  }

  part_next : (vars : List CVar) (nodes : List Node) (i : ℕ) (n m : Node) (live : List Name) (middle rest last : Code)
      → drop i nodes ≡ n ∷ drop (suc i) nodes → drop (suc i) nodes ≡ m ∷ drop (suc (suc i)) nodes
      → TrUnusedIn w vars (tree n) live middle rest → TrLastIn w vars (trees (map tree (drop (suc i) nodes))) Obj live back rest last
      → TrLastIn w vars (trees (map tree (drop i nodes))) Obj live back middle last
  unfolding TrLast
  part_next vars nodes i n m live middle rest last e f one all =
      let A : List Node → Type 0 = λ ns. TrLastIn w vars (trees (map tree ns)) Obj live back middle last in
      let there : TrLastIn w vars (trees (map tree (m ∷ drop (suc (suc i)) nodes))) Obj live back rest last = subst (λ ns. TrLastIn w vars (trees (map tree ns)) Obj live back rest last) f all in
      let here : A (n ∷ m ∷ drop (suc (suc i)) nodes) = record { middle = rest; one = one; all = there } in
      subst A (sym e) (subst (λ ns. A (n ∷ ns)) (sym f) here)

  pub walking_one : (s e g : Emitter) (nodes : List Node) (i : ℕ) (n : Node) → i + 1 < length nodes → n ≡ get_or nodes i n → Walking s e nodes i → IsUnused w e g (tree n) → Walking s g nodes (i + 1)
  walking_one s e g nodes i n within n_is so one =
      let first : drop i nodes ≡ n ∷ drop (suc i) nodes = drop-cons nodes i n (omega arith) ∙ ap (λ u. u ∷ drop (suc i) nodes) (sym n_is) in
      let second : drop (suc i) nodes ≡ get_or nodes (suc i) n ∷ drop (suc (suc i)) nodes = drop-cons nodes (suc i) n (omega arith) in
      let started : s.next ≤ e.next = so.emits.grows.later in
      rw (add-one i) (record {
        emits = then s e g (BodySoFar s.next nodes i) (λ vars code rest. (live : List Name) → AreBelow e.next live → TrUnusedIn w vars (tree n) live code rest) (BodySoFar s.next nodes (suc i))
            so.emits one.emits
            (λ vars code middle rest p q live b last given.
            p live b last (part_next vars nodes i n (get_or nodes (suc i) n) live middle rest last first second (q live (below_more s.next e.next live started b)) given));
      })

  last_part : (vars : List CVar) (nodes : List Node) (i : ℕ) (n : Node) (live : List Name) (middle rest : Code) → drop i nodes ≡ n ∷ [] → Delivered w (tree n) live vars back middle rest
      → TrLastIn w vars (trees (map tree (drop i nodes))) Obj live back middle rest
  unfolding TrLast
  last_part vars nodes i n live middle rest e given =
      let A : List Node → Type 0 = λ ns. TrLastIn w vars (trees (map tree ns)) Obj live back middle rest in
      let here : A (n ∷ []) = given in
      subst A (sym e) here

  pub walking_last : (s e g : Emitter) (nodes : List Node) (i : ℕ) (n : Node) → i + 1 ≡ length nodes → n ≡ get_or nodes i n → Walking s e nodes i → IsDelivered w e g (tree n) Back → IsBodyOf w s g (Sequence (trees (map tree nodes)))
  unfolding Tr
  walking_last s e g nodes i n at_end n_is so one =
      let end : drop (suc i) nodes ≡ [] = drop_all (suc i) nodes (omega arith) in
      let first : drop i nodes ≡ n ∷ [] = drop-cons nodes i n (omega arith) ∙ ap (λ u. u ∷ drop (suc i) nodes) (sym n_is) ∙ ap (λ ns. n ∷ ns) end in
      let started : s.next ≤ e.next = so.emits.grows.later in
      record {
        emits = then s e g (BodySoFar s.next nodes i) (λ vars code rest. (live : List Name) → AreBelow e.next live → Delivered w (tree n) live vars back code rest)
            (λ vars code rest. (live : List Name) → AreBelow s.next live → TrIn w vars (Sequence (trees (map tree nodes))) Obj live back code rest)
            so.emits one.emits
            (λ vars code middle rest p q live b. p live b rest (last_part vars nodes i n live middle rest first (q live (below_more s.next e.next live started b))));
      }
