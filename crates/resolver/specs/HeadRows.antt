-- Worked rows: the heads of small modules.
use Rattle.std.specs.Prelude.{◌≡◌, ℕ, List, [], ◌∷◌, codes, Some, None, refl}
use Rattle.scheme_data.specs.Data.{Plain, Symbol, Listed, Plains, none, more}
use Rattle.resolver.specs.BuiltHeads.{head_of}

abbrev pub symbol : List ℕ → Plain
symbol name = Symbol name 0

abbrev pub list : List Plain → Plain
list ds = Listed (all ds)
  where
    all : List Plain → Plains
    all [] = none
    all (d ∷ ds) = more d (all ds)

-- `(module NAME clause ...)`
abbrev pub head : List Plain → Plain
head clauses = list (symbol (codes "module") ∷ symbol (codes "b") ∷ clauses)

abbrev pub imports_f_and_g : Plain
imports_f_and_g = list (symbol (codes "import") ∷ list (symbol (codes "f") ∷ symbol (codes "g") ∷ symbol (codes "a") ∷ []) ∷ [])

abbrev pub exports_h : Plain
exports_h = list (symbol (codes "export") ∷ list (symbol (codes "h") ∷ symbol (codes "x") ∷ symbol (codes "y") ∷ []) ∷ [])

abbrev pub main_go : Plain
main_go = list (symbol (codes "main") ∷ symbol (codes "go") ∷ [])

clauses_stand_in_any_order :
    head_of (head (exports_h ∷ main_go ∷ imports_f_and_g ∷ []))
    ≡ Some (record {
      name = codes "b";
      imports = record { module_name = codes "a"; names = codes "f" ∷ codes "g" ∷ [] } ∷ [];
      exports = record { name = codes "h"; count = 2 } ∷ [];
      main = Some (codes "go");
    })
clauses_stand_in_any_order = refl

a_module_may_have_no_main : head_of (head []) ≡ Some (record { name = codes "b"; imports = []; exports = []; main = None })
a_module_may_have_no_main = refl

two_mains_are_none : head_of (head (main_go ∷ main_go ∷ [])) ≡ None
two_mains_are_none = refl

a_name_is_exported_once : head_of (head (exports_h ∷ exports_h ∷ [])) ≡ None
a_name_is_exported_once = refl

a_module_does_not_import_itself : head_of (head (list (symbol (codes "import") ∷ list (symbol (codes "f") ∷ symbol (codes "b") ∷ []) ∷ []) ∷ [])) ≡ None
a_module_does_not_import_itself = refl

an_item_has_a_name_before_its_module : head_of (head (list (symbol (codes "import") ∷ list (symbol (codes "a") ∷ []) ∷ []) ∷ [])) ≡ None
an_item_has_a_name_before_its_module = refl
