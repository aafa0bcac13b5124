-- Expressions are formed as their module asks.
use Rattle.std.proofs.Common.{◌≡◌, ℕ, zero, suc, ◌+◌, ◌<◌, Bool, true, false, ◌||◌, if◌then◌else◌, nat_eq, codes, List, [], ◌∷◌, length, slice_get, Option, Some, None, refl, ap, ◌∙◌, arith}
use Rattle.std.specs.List.{list_any}
use Rattle.std.proofs.lemmas.Bool.{or_right}
use Rattle.std.proofs.lemmas.Bool.Decides.{nat_tests}
use Rattle.std.proofs.lemmas.List.Quantifiers.{position-Some}
use Rattle.scheme_data.specs.Data.{Plain, Number, Character, Truth, Unspecified, String, Symbol, Listed, Dotted, Vector, Plains, none, more, IsProper, AreProper}
use Rattle.built_table.specs.declared.primitives.Primitive.{Primitive as Builtin}
use Rattle.built_table.specs.declared.primitives.Ty.{Ty}
use Rattle.built_table.specs.Table.{params_of, prim_named}
use Rattle.name_table.specs.Names.{place_of}
use Rattle.resolver.specs.BuiltHeads.{is_word, symbol_of}
use Rattle.core_tree.specs.declared.tree.VarId.{VarId}
use Rattle.core_tree.specs.Tree.{Tree, Trees, FunctionTree, ModuleTree, found_own, found_use, callee_of}
use Rattle.core_tree.specs.Tree as tree
use Rattle.core_tree.specs.WellFormed.{AsMany, same_variable, IsFound, IsExpression, AreExpressions, IsBody}
use Rattle.resolver.specs.Names.{is_special}
use Rattle.resolver.specs.Drafts.{count, Scope, numbered, variable, taking, Operator, Branch, Function, Builtins, primitive_operator, outside_operator, global_operator, unless_bound, unless_special, operator, branched, applied, onto_trees, expression, expressions, non_empty, body, variables}
use Rattle.resolver.proofs.FormedParts.{Holds}

as_many : (tys : List Ty) (ts : Trees) → tree.count ts ≡ length tys → AsMany tys ts
as_many [] tree.none e = tt
as_many [] (tree.more t ts) e = absurd (omega arith)
as_many (y ∷ tys) tree.none e = absurd (omega arith)
as_many (y ∷ tys) (tree.more t ts) e = as_many tys ts (omega arith)

is_own : (name : List ℕ) (fs : List FunctionTree) (n : ℕ) → n < length fs → IsFound (found_own name (slice_get fs n))
is_own name [] n h = absurd (omega arith)
is_own name (f ∷ fs) zero h = tt
is_own name (f ∷ fs) (suc n) h = is_own name fs n (omega arith)

is_numbered : (first : ℕ) (xs : List (List ℕ)) (n : ℕ) → n < length xs → list_any (same_variable (record { 0 = first + n })) (variables first xs) ≡ true
is_numbered first [] n h = absurd (omega arith)
is_numbered first (x ∷ xs) zero h =
    let here : nat_eq (first + 0) first ≡ true = grind (arith, nat_tests) in
    ap (λ b. b || list_any (same_variable (record { 0 = first + 0 })) (variables (suc first) xs)) here
is_numbered first (x ∷ xs) (suc n) h =
    let same : first + suc n ≡ suc first + n = omega arith in
    ap (λ k. nat_eq k first || list_any (same_variable (record { 0 = k })) (variables (suc first) xs)) same
    ∙ or_right (nat_eq (suc first + n) first) (list_any (same_variable (record { 0 = suc first + n })) (variables (suc first) xs)) (is_numbered (suc first) xs n (omega arith))

-- Operators ---------------------------------------------------------------------------------

-- a function that is called is there, and a primitive takes so many arguments
abbrev Takes : ModuleTree → ℕ → Operator → Type 0
Takes m n Branch = Unit {0}
Takes m n (Function g) = IsFound (callee_of m g)
Takes m n (Builtins p) = n ≡ length (params_of p)

taken : (m : ModuleTree) (n : ℕ) (p : Option Builtin) → Holds (Takes m n) (primitive_operator (taking n p))
taken m n None = tt
taken m n (Some p) = go (nat_eq n (length (params_of p))) refl
  where
    go : (b : Bool) → nat_eq n (length (params_of p)) ≡ b → Holds (Takes m n) (primitive_operator (if b then Some p else None))
    go true e = grind (arith, nat_tests)
    go false e = tt

special_formed : (m : ModuleTree) (n : ℕ) (name : List ℕ) (o : Option Operator) → Holds (Takes m n) o → Holds (Takes m n) (unless_special name o)
special_formed m n name o h = go (is_word name (codes "if")) (is_special name)
  where
    go : (a b : Bool) → Holds (Takes m n) (if a then Some Branch else (if b then None else o))
    go true b = tt
    go false true = tt
    go false false = h

unless_formed : (m : ModuleTree) (n : ℕ) (bound : Option ℕ) (o : Option Operator) → Holds (Takes m n) o → Holds (Takes m n) (unless_bound bound o)
unless_formed m n (Some k) o h = tt
unless_formed m n None o h = h

-- Forms -------------------------------------------------------------------------------------

-- so many expressions
pub record AreArguments (m : ModuleTree) (ps : List VarId) (n : ℕ) (ts : Trees) : Type 0 where
  pub many : tree.count ts ≡ n
  pub each : AreExpressions m ps ts

branch_formed : (m : ModuleTree) (ps : List VarId) (ts : Trees) → AreExpressions m ps ts → Holds (IsExpression m ps) (branched ts)
branch_formed m ps tree.none h = tt
branch_formed m ps (tree.more a tree.none) h = tt
branch_formed m ps (tree.more a (tree.more b tree.none)) h = tt
branch_formed m ps (tree.more a (tree.more b (tree.more c tree.none))) h = (h.0, h.1.0, h.1.1.0)
branch_formed m ps (tree.more a (tree.more b (tree.more c (tree.more d ts)))) h = tt

applied_formed : (m : ModuleTree) (ps : List VarId) (n : ℕ) (o : Option Operator) (ts : Option Trees)
    → Holds (Takes m n) o → Holds (AreArguments m ps n) ts → Holds (IsExpression m ps) (applied o ts)
applied_formed m ps n None ts h k = tt
applied_formed m ps n (Some o) None h k = tt
applied_formed m ps n (Some Branch) (Some ts) h k = branch_formed m ps ts k.each
applied_formed m ps n (Some (Function g)) (Some ts) h k = (h, k.each)
applied_formed m ps n (Some (Builtins p)) (Some ts) h k = (as_many (params_of p) ts (k.many ∙ h), k.each)

onto_formed : (m : ModuleTree) (ps : List VarId) (n : ℕ) (t : Option Tree) (ts : Option Trees)
    → Holds (IsExpression m ps) t → Holds (AreArguments m ps n) ts → Holds (AreArguments m ps (1 + n)) (onto_trees t ts)
onto_formed m ps n None ts h k = tt
onto_formed m ps n (Some t) None h k = tt
onto_formed m ps n (Some t) (Some ts) h k = record { many = let e : tree.count ts ≡ n = k.many in omega arith; each = (h, k.each) }

sequence_formed : (m : ModuleTree) (ps : List VarId) (n : ℕ) (ts : Option Trees) → Holds (AreArguments m ps n) ts → Holds (IsBody m ps) (non_empty ts)
sequence_formed m ps n None h = tt
sequence_formed m ps n (Some tree.none) h = tt
sequence_formed m ps n (Some (tree.more t ts)) h = h.each

-- In a module with as many functions as the scope has names of functions, whose uses begin with what is called.
module _ (s : Scope) (m : ModuleTree) (same : length m.functions ≡ length s.functions) (called : (n : ℕ) → n < length s.outside → IsFound (found_use (slice_get m.uses n))) where
  abbrev params : List VarId
  params = variables s.first s.params

  variable_formed : (name : List ℕ) → Holds (IsExpression m params) (variable s (Some name))
  variable_formed name = go s.in_main (place_of name s.params) refl
    where
      go : (b : Bool) (o : Option ℕ) → place_of name s.params ≡ o → Holds (IsExpression m params) (numbered b s.first o)
      go b None e = tt
      go true (Some n) e = tt
      go false (Some n) e =
          let within = position-Some (is_word name) s.params n [] e in
          is_numbered s.first s.params n within.0

  outside_formed : (n : ℕ) (name : List ℕ) → Holds (Takes m n) (outside_operator n name (place_of name s.outside))
  outside_formed n name = go (place_of name s.outside) refl
    where
      go : (o : Option ℕ) → place_of name s.outside ≡ o → Holds (Takes m n) (outside_operator n name o)
      go None e = taken m n (prim_named name)
      go (Some k) e = let within = position-Some (is_word name) s.outside k [] e in called k within.0

  global_formed : (n : ℕ) (name : List ℕ) → Holds (Takes m n) (global_operator s n name (place_of name s.functions))
  global_formed n name = go (place_of name s.functions) refl
    where
      go : (o : Option ℕ) → place_of name s.functions ≡ o → Holds (Takes m n) (global_operator s n name o)
      go None e = outside_formed n name
      go (Some k) e =
          let within = position-Some (is_word name) s.functions k [] e in
          let inside : k < length s.functions = within.0 in
          is_own m.name m.functions k (omega arith)

  operator_formed : (n : ℕ) (name : Option (List ℕ)) → Holds (Takes m n) (operator s n name)
  operator_formed n None = tt
  operator_formed n (Some name) =
      let o : Option Operator = global_operator s n name (place_of name s.functions) in
      unless_formed m n (place_of name s.params) (unless_special name o) (special_formed m n name o (global_formed n name))

  mutual
    expression_formed : (d : Plain) → IsProper d → Holds (IsExpression m params) (expression s d)
    expression_formed (Number n) h = h
    expression_formed (Symbol name mark) h = variable_formed name
    expression_formed (Character b) h = tt
    expression_formed (Truth t) h = tt
    expression_formed Unspecified h = tt
    expression_formed (String text) h = tt
    expression_formed (Dotted es tail) h = tt
    expression_formed (Vector es) h = tt
    expression_formed (Listed none) h = tt
    expression_formed (Listed (more d ds)) h =
        applied_formed m params (count ds) (operator s (count ds) (symbol_of d)) (expressions s ds) (operator_formed (count ds) (symbol_of d)) (expressions_formed ds h.1)

    pub expressions_formed : (ds : Plains) → AreProper ds → Holds (AreArguments m params (count ds)) (expressions s ds)
    expressions_formed none h = record { many = refl; each = tt }
    expressions_formed (more d ds) h = onto_formed m params (count ds) (expression s d) (expressions s ds) (expression_formed d h.0) (expressions_formed ds h.1)

  pub body_formed : (ds : Plains) → AreProper ds → Holds (IsBody m params) (body s ds)
  body_formed ds h = sequence_formed m params (count ds) (expressions s ds) (expressions_formed ds h)
