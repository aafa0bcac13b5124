-- The linked program: the items of the units, and then `main`.
use Rattle.std.specs.Prelude.{ℕ, List, [], ◌∷◌, ◌++◌, map, codes}
use Rattle.std.specs.List.{flat_map}
use Rattle.c_tree.specs.declared.op.Op.TheVariants.{Args, Status}
use Rattle.c_tree.specs.declared.tree.CTy.TheVariants.{Obj, Int}
use Rattle.c_tree.specs.declared.tree.CExpr.TheVariants as expr
use Rattle.c_tree.specs.declared.tree.CCall.{CCall}
use Rattle.c_tree.specs.Code.{Code, done, assign, call, return, Item, defined}
use Rattle.c_tree.specs.Names.{maker_name, initializer_name}
use Rattle.core_tree.specs.Tree.{Callee}
use Rattle.plan_rules.specs.Representation.{operation, call_of, local}
use Rattle.plan_rules.specs.Translation.{c_name_of}

abbrev pub first_local : List ℕ
first_local = codes "x0"

abbrev pub second_local : List ℕ
second_local = codes "x1"

abbrev pub call_alone : List ℕ → CCall
call_alone name = call_of name []

-- calls of functions that take nothing, one after the other
abbrev pub calls_alone : List (List ℕ) → Code → Code
calls_alone [] rest = rest
calls_alone (name ∷ names) rest = call (call_alone name) (calls_alone names rest)

-- a function on the arguments, and its value's status
abbrev pub call_main : List ℕ → Code
call_main f =
    assign first_local (expr.Call (operation Args []))
    (assign second_local (expr.Call (call_of f (local first_local ∷ [])))
    (return (expr.Call (operation Status (local second_local ∷ []))) done))

-- all makers, all initialisations, and then the main function
abbrev pub main_code : List (List ℕ) → List ℕ → Code
main_code ms f = calls_alone (map maker_name ms) (calls_alone (map initializer_name ms) (call_main f))

-- `int main(void) { obj x0; obj x1; c_M(); ... i_M(); ... x0 = bgl_args(); x1 = F(x0); return bgl_status(x1); }`, where M are these modules in order
abbrev pub main_function : List (List ℕ) → List ℕ → Item
main_function ms f = defined (record {
  result = Int;
  name = codes "main";
  params = [];
  locals = record { ty = Obj; name = first_local } ∷ record { ty = Obj; name = second_local } ∷ [];
  code = main_code ms f;
})

-- a module's name and the items of its unit
pub record Part : Type 0 where
  pub module_name : List ℕ
  pub items : List Item

-- the program of these units, in the order in which their modules are initialised, with the main function that has this name in C
abbrev pub joined_with : List Part → List ℕ → List Item
joined_with parts f = flat_map (λ p. p.items) parts ++ main_function (map (λ p. p.module_name) parts) f ∷ []

unfoldable pub joined : List Part → Callee → List Item
joined parts main = joined_with parts (c_name_of main)
