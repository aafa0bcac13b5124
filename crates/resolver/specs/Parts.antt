-- What the parts of the resolver give.
use Rattle.std.specs.Prelude.{◌≡◌, ℕ, zero, suc, List, [], ◌∷◌, ◌++◌, map, length, Bool, Option, Some, None, if◌then◌else◌}
use Rattle.std.specs.List.{list_any}
use Rattle.scheme_data.specs.Names.{are_distinct}
use Rattle.scheme_data.specs.Data.{plain, plain_all}
use Rattle.resolver.specs.declared.built_head.BuiltHead.{BuiltHead}
use Rattle.resolver.specs.Trees.{head_tree}
use Rattle.core_tree.specs.declared.tree.Node.{Node}
use Rattle.core_tree.specs.declared.tree.Top.{Top}
use Rattle.core_tree.specs.declared.tree.Top.TheVariants as top
use Rattle.core_tree.specs.declared.tree.VarId.{VarId}
use Rattle.core_tree.specs.Tree.{FunctionTree, Trees, trees, tree, function_tree, functions_in, forms_in}
use Rattle.resolver.specs.declared.definitions.Definition.{Definition}
use Rattle.resolver.specs.declared.tops.TopForm.{TopForm}
use Rattle.resolver.specs.declared.tops.TopForm.TheVariants.{Define, Evaluate}
use Rattle.resolver.specs.declared.scope.Scope.{Scope}
use Rattle.resolver.specs.declared.scope.Operator.{Operator}
use Rattle.resolver.specs.declared.scope.Operator.TheVariants as operator
use Rattle.resolver.specs.declared.drafts.Draft.{Draft}
use Rattle.resolver.specs.Drafts.{Defines, Evaluates, defined, body, expression, top_scope, outside_in, outside_in_all}
use Rattle.resolver.specs.Drafts as drafts

abbrev pub node_trees : List Node → Trees
node_trees ns = trees (map tree ns)

abbrev pub definition_of : Definition → drafts.Definition
definition_of d = record { name = d.name.now; params = d.params; body = plain_all d.body.now }

abbrev pub top_of : TopForm → drafts.TopForm
top_of (Define d) = Defines (definition_of d)
top_of (Evaluate d) = Evaluates (plain d.now)

abbrev pub scope_of : Scope → drafts.Scope
scope_of s = record { functions = s.functions.now; outside = s.outside.now; params = s.params.now; first = s.first; in_main = s.in_main }

abbrev pub operator_of : Operator → drafts.Operator
operator_of operator.Branch = drafts.Branch
operator_of (operator.Function g) = drafts.Function g
operator_of (operator.Builtin p) = drafts.Builtins p

abbrev pub draft_from : BuiltHead → List (List ℕ) → List Top → drafts.Draft
draft_from head outside tops = record { head = head_tree head; outside = outside; functions = functions_in tops; forms = forms_in tops }

abbrev pub draft_tree : Draft → drafts.Draft
draft_tree d = draft_from d.head d.outside d.tops

-- names of which none stands twice
abbrev pub distinct : Option (List (List ℕ)) → Option (List (List ℕ))
distinct None = None
distinct (Some xs) = if are_distinct xs then Some xs else None

-- each element once, where it comes first, behind those that were seen
abbrev pub with_first : {X : Type 0} → (X → X → Bool) → List X → List X → List X
with_first same seen [] = seen
with_first same seen (x ∷ xs) = with_first same (if list_any (same x) seen then seen else seen ++ x ∷ []) xs

-- so many variables, in order of their numbers
abbrev pub numbered_from : ℕ → ℕ → List VarId
numbered_from first zero = []
numbered_from first (suc n) = record { 0 = first } ∷ numbered_from (suc first) n

-- Top-level forms ---------------------------------------------------------------------------

-- how many parameters a top-level form has
abbrev pub param_count : drafts.TopForm → ℕ
param_count (Defines d) = length d.params
param_count (Evaluates d) = 0

abbrev pub param_counts : List drafts.Definition → List ℕ
param_counts ds = map (λ d. length d.params) ds

-- the names of other modules' functions in a top-level form
abbrev pub outside_in_top : List (List ℕ) → List (List ℕ) → drafts.TopForm → List (List ℕ)
outside_in_top imported all (Defines d) = outside_in_all imported all d.params d.body
outside_in_top imported all (Evaluates d) = outside_in imported all [] d

-- in a module with these functions, which calls these of other modules, where the next parameter has this number
module _ (all outside : List (List ℕ)) (main : Option (List ℕ)) (first : ℕ) where
  abbrev pub function_at : drafts.Definition → Option FunctionTree
  function_at d = defined first d (body (drafts.scope_of all outside main first d) d.body)

  -- what is built of a top-level form, where it can be
  abbrev pub Builds : drafts.TopForm → Option Top → Type 0
  Builds (Defines d) None = function_at d ≡ None
  Builds (Defines d) (Some (top.Function name lambda)) = function_at d ≡ Some (function_tree name lambda)
  Builds (Defines d) (Some (top.Form n)) = ⊥
  Builds (Evaluates d) None = expression (top_scope all outside) d ≡ None
  Builds (Evaluates d) (Some (top.Function name lambda)) = ⊥
  Builds (Evaluates d) (Some (top.Form n)) = expression (top_scope all outside) d ≡ Some (tree n)
