-- The trees of nodes: what a node that may stand somewhere has for parts, and the work that is left.
use Rattle.std.proofs.Common.{◌≡◌, ℕ, zero, suc, ◌+◌, ◌<◌, ◌≤◌, List, [], ◌∷◌, length, map, get_or, refl, sym, ap, ◌∙◌, subst, arith, rules}
use Rattle.std.specs.Prelude.{replicate, IsTrue, Bool, true, false, nat_eq}
use Rattle.std.proofs.lemmas.Bool.{eq-eqb, eqb-true}
use Rattle.std.specs.List.{list_any}
use Rattle.built_table.specs.declared.primitives.Ty.{Ty}
use Rattle.built_table.specs.declared.primitives.Ty.TheVariants as ty
use Rattle.built_table.specs.declared.primitives.Primitive.{Primitive as Builtin}
use Rattle.built_table.specs.Table.{params_of}
use Rattle.core_tree.specs.declared.tree.Const.{Const}
use Rattle.core_tree.specs.declared.tree.VarId.{VarId}
use Rattle.core_tree.specs.declared.tree.GlobalRef.{GlobalRef}
use Rattle.core_tree.specs.declared.tree.Node.{Node}
use Rattle.core_tree.specs.declared.tree.Node as node
use Rattle.core_tree.specs.declared.tree.Node.TheViews as view
use Rattle.core_tree.specs.Tree.{Tree, Constant, Variable, If, Sequence, Call, Primitive, Trees, none, more, trees, tree, count, Callee, callee_of}
use Rattle.core_tree.specs.WellFormed.{AsMany, IsFound, same_variable}
use Rattle.plan_rules.specs.Translation.{objects, is_counted}
use Rattle.code_gen.specs.Settings.{Setting, IsNode, AreNodes, IsBodyIn}

pub tree-Constant : (c : Const) → tree (node.Constant c) ≡ Constant c
tree-Constant c = search (rules, node.the_lemmas)

pub tree-Variable : (x : VarId) → tree (node.Variable x) ≡ Variable x
tree-Variable x = search (rules, node.the_lemmas)

pub tree-If : (a b c : Node) → tree (view.If a b c) ≡ If (tree a) (tree b) (tree c)
tree-If a b c = search (rules, node.the_lemmas)

pub tree-Sequence : (ns : List Node) → tree (view.Sequence ns) ≡ Sequence (trees (map tree ns))
tree-Sequence ns = search (rules, node.the_lemmas)

pub tree-Call : (g : GlobalRef) (ns : List Node) → tree (view.Call g ns) ≡ Call g (trees (map tree ns))
tree-Call g ns = search (rules, node.the_lemmas)

pub tree-Primitive : (p : Builtin) (ns : List Node) → tree (view.Primitive p ns) ≡ Primitive p (trees (map tree ns))
tree-Primitive p ns = search (rules, node.the_lemmas)

-- Parts -------------------------------------------------------------------------------------

abbrev parts : List Node → Trees
parts ns = trees (map tree ns)

-- an `if` by its parts, of which these are equal to x, y and z
pub chosen_tree : (n a b c x y z : Node) → n ≡ view.If a b c → x ≡ a → y ≡ b → z ≡ c → tree n ≡ If (tree x) (tree y) (tree z)
chosen_tree n a b c x y z e x_is y_is z_is =
    ap tree e ∙ tree-If a b c ∙ ap (λ (m : Node). If (tree m) (tree b) (tree c)) (sym x_is) ∙ ap (λ (m : Node). If (tree x) (tree m) (tree c)) (sym y_is) ∙ ap (λ (m : Node). If (tree x) (tree y) (tree m)) (sym z_is)

module _ (w : Setting) where
  pub variable_part : (n : Node) (x : VarId) → n ≡ node.Variable x → IsNode w (tree n) → IsTrue (list_any (same_variable x) w.params)
  variable_part n x e h = subst (IsNode w) (ap tree e ∙ tree-Variable x) h

  pub primitive_parts : (n : Node) (p : Builtin) (ns xs : List Node) → n ≡ view.Primitive p ns → xs ≡ ns → IsNode w (tree n) → AsMany (params_of p) (parts xs) × AreNodes w (parts xs)
  primitive_parts n p ns xs e are h =
      subst (λ (ms : List Node). AsMany (params_of p) (parts ms) × AreNodes w (parts ms)) (sym are) (subst (IsNode w) (ap tree e ∙ tree-Primitive p ns) h)

  pub call_parts : (n : Node) (g : GlobalRef) (ns xs : List Node) → n ≡ view.Call g ns → xs ≡ ns → IsNode w (tree n) → IsFound (callee_of w.in_module g) × AreNodes w (parts xs)
  call_parts n g ns xs e are h =
      subst (λ (ms : List Node). IsFound (callee_of w.in_module g) × AreNodes w (parts ms)) (sym are) (subst (IsNode w) (ap tree e ∙ tree-Call g ns) h)

  pub chosen_parts : (n a b c x y z : Node) → n ≡ view.If a b c → x ≡ a → y ≡ b → z ≡ c → IsNode w (tree n) → IsNode w (If (tree x) (tree y) (tree z))
  chosen_parts n a b c x y z e x_is y_is z_is h = subst (IsNode w) (chosen_tree n a b c x y z e x_is y_is z_is) h

  node_got : (ns : List Node) (i : ℕ) (d : Node) → i < length ns → AreNodes w (parts ns) → IsNode w (tree (get_or ns i d))
  node_got [] i d within h = absurd (omega arith)
  node_got (n ∷ ns) zero d within h = h.0
  node_got (n ∷ ns) (suc i) d within h = node_got ns i d (omega arith) h.1

  pub node_at : (ns : List Node) (i : ℕ) (n : Node) → i < length ns → n ≡ get_or ns i n → AreNodes w (parts ns) → IsNode w (tree n)
  node_at ns i n within is h = subst (λ (m : Node). IsNode w (tree m)) (sym is) (node_got ns i n within h)

  -- Bodies ----------------------------------------------------------------------------------

  parts_of_body : (ns : List Node) → IsBodyIn w (Sequence (parts ns)) → (0 < length ns) × AreNodes w (parts ns)
  parts_of_body [] h = absurd h
  parts_of_body (n ∷ ns) h = (omega arith, h)

  pub body_parts : (n : Node) (ns xs : List Node) → n ≡ view.Sequence ns → xs ≡ ns → IsBodyIn w (tree n) → (0 < length xs) × AreNodes w (parts xs)
  body_parts n ns xs e are h =
      subst (λ (ms : List Node). (0 < length ms) × AreNodes w (parts ms)) (sym are) (parts_of_body ns (subst (IsBodyIn w) (ap tree e ∙ tree-Sequence ns) h))

  pub constant_no_body : (n : Node) (c : Const) → n ≡ node.Constant c → IsBodyIn w (tree n) → ⊥
  constant_no_body n c e h = subst (IsBodyIn w) (ap tree e ∙ tree-Constant c) h

-- Counts ------------------------------------------------------------------------------------

pub as_many_length : (ts : List Ty) (ns : List Node) → AsMany ts (parts ns) → length ts ≡ length ns
as_many_length [] [] h = refl
as_many_length [] (n ∷ ns) h = absurd h
as_many_length (t ∷ ts) [] h = absurd h
as_many_length (t ∷ ts) (n ∷ ns) h = ap suc (as_many_length ts ns h)

pub objects_as_many : (ns : Trees) → AsMany (objects ns) ns
objects_as_many none = tt
objects_as_many (more n ns) = objects_as_many ns

pub objects_are : (ns : List Node) → replicate (length ns) ty.Obj ≡ objects (parts ns)
objects_are [] = refl
objects_are (n ∷ ns) = ap (λ ts. ty.Obj ∷ ts) (objects_are ns)

pub count_is : (ns : List Node) → count (parts ns) ≡ length ns
count_is [] = refl
count_is (n ∷ ns) = ap suc (count_is ns)

nat_other : (a b : ℕ) (t : Bool) → nat_eq a b ≡ t → (a ≡ b → ⊥) → nat_eq a b ≡ false
nat_other a b true e ne = absurd (ne (eqb-true a b e))
nat_other a b false e ne = e

pub right_count : (f : Callee) (ns : List Node) → length ns ≡ f.params → is_counted f (parts ns) ≡ true
right_count f ns e = eq-eqb (count (parts ns)) f.params (count_is ns ∙ e)

pub wrong_count : (f : Callee) (ns : List Node) → (length ns ≡ f.params → ⊥) → is_counted f (parts ns) ≡ false
wrong_count f ns ne = nat_other (count (parts ns)) f.params (is_counted f (parts ns)) refl (λ e. ne (sym (count_is ns) ∙ e))

-- the work that is left: what a recursion goes down
unfoldable mutual
  pub weight : Tree → ℕ
  weight (Constant c) = 1
  weight (Variable x) = 1
  weight (If a b c) = suc (weight a + (weight b + weight c))
  weight (Sequence ts) = suc (weights ts)
  weight (Call g ts) = suc (weights ts)
  weight (Primitive p ts) = suc (weights ts)

  pub weights : Trees → ℕ
  weights none = 0
  weights (more t ts) = weight t + weights ts

pub weight-Primitive : (n : Node) (p : Builtin) (ns xs : List Node) → n ≡ view.Primitive p ns → xs ≡ ns → weight (tree n) ≡ suc (weights (parts xs))
unfolding weight
weight-Primitive n p ns xs e are = ap weight (ap tree e ∙ tree-Primitive p ns) ∙ ap (λ (ms : List Node). suc (weights (parts ms))) (sym are)

pub weight-Call : (n : Node) (g : GlobalRef) (ns xs : List Node) → n ≡ view.Call g ns → xs ≡ ns → weight (tree n) ≡ suc (weights (parts xs))
unfolding weight
weight-Call n g ns xs e are = ap weight (ap tree e ∙ tree-Call g ns) ∙ ap (λ (ms : List Node). suc (weights (parts ms))) (sym are)

pub weight-If : (a b c : Tree) → weight (If a b c) ≡ suc (weight a + (weight b + weight c))
unfolding weight
weight-If a b c = refl

pub weight_chosen : (n a b c x y z : Node) → n ≡ view.If a b c → x ≡ a → y ≡ b → z ≡ c → weight (tree n) ≡ suc (weight (tree x) + (weight (tree y) + weight (tree z)))
weight_chosen n a b c x y z e x_is y_is z_is = ap weight (chosen_tree n a b c x y z e x_is y_is z_is) ∙ weight-If (tree x) (tree y) (tree z)

weight_got : (ns : List Node) (i : ℕ) (d : Node) → i < length ns → weight (tree (get_or ns i d)) ≤ weights (parts ns)
unfolding weights
weight_got [] i d within = absurd (omega arith)
weight_got (n ∷ ns) zero d within = omega arith
weight_got (n ∷ ns) (suc i) d within = omega (arith, weight_got ns i d (omega arith))

pub weight_at : (ns : List Node) (i : ℕ) (n : Node) → i < length ns → n ≡ get_or ns i n → weight (tree n) ≤ weights (parts ns)
weight_at ns i n within is = subst (λ (m : Node). weight (tree m) ≤ weights (parts ns)) (sym is) (weight_got ns i n within)
