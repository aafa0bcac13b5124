-- Worked rows of several modules: in which order they are initialised, and what they print together.
use Rattle.std.specs.Prelude.{◌≡◌, [], ◌∷◌, ◌++◌, codes, None, Some, refl}
use Rattle.scheme_data.specs.Decimal.{decimal_text}
use Rattle.iface_text.specs.Lines.{untyped_row}
use Rattle.prim_table.specs.Errors.{number_of}
use Rattle.prim_table.specs.declared.errors.ErrCode.TheVariants.{WrongType}
use Rattle.base_io.specs.declared.end.End.TheVariants.{Ended, Raised, Spent}
use Rattle.core_tree.specs.declared.tree.GlobalRef.TheVariants.{Used}
use Rattle.core_tree.specs.declared.tree.Use.TheVariants.{From}
use Rattle.core_tree.specs.Tree.{Call, none, more, ModuleTree}
use Rattle.meaning.specs.Order.{Imports, Visits, no_more, skipped, visited, IsOrder}
use Rattle.meaning.specs.Program.{src}
use Rattle.meaning.specs.Rows.{int, sum_of, shown, line_end, observation, variable, function, x}

-- Orders ------------------------------------------------------------------------------------

-- 0 imports 1 and 2, which both import 3: first 3, then 1, 2 and 0
abbrev pub diamond : Imports
diamond = (1 ∷ 2 ∷ []) ∷ (3 ∷ []) ∷ (3 ∷ []) ∷ [] ∷ []

a_diamond_has_its_shared_module_once : IsOrder diamond 0 (3 ∷ 1 ∷ 2 ∷ 0 ∷ [])
a_diamond_has_its_shared_module_once =
    let g = diamond in
    let three : Visits g (1 ∷ 0 ∷ []) (3 ∷ []) (3 ∷ 1 ∷ 0 ∷ []) (3 ∷ []) = visited (1 ∷ 0 ∷ []) 3 [] (3 ∷ 1 ∷ 0 ∷ []) (3 ∷ 1 ∷ 0 ∷ []) [] [] refl (no_more (3 ∷ 1 ∷ 0 ∷ [])) (no_more (3 ∷ 1 ∷ 0 ∷ [])) in
    let last = 2 ∷ 3 ∷ 1 ∷ 0 ∷ [] in
    let two : Visits g (3 ∷ 1 ∷ 0 ∷ []) (2 ∷ []) last (2 ∷ []) = visited (3 ∷ 1 ∷ 0 ∷ []) 2 [] last last [] [] refl (skipped last 3 [] last [] refl (no_more last)) (no_more last) in
    let both : Visits g (0 ∷ []) (1 ∷ 2 ∷ []) last (3 ∷ 1 ∷ 2 ∷ []) = visited (0 ∷ []) 1 (2 ∷ []) (3 ∷ 1 ∷ 0 ∷ []) last (3 ∷ []) (2 ∷ []) refl three two in
    record { marked = last; visits = visited [] 0 [] last last (3 ∷ 1 ∷ 2 ∷ []) [] refl both (no_more last) }

-- 0 and 1 import each other, and 2 isn't reached
abbrev pub cycle : Imports
cycle = (1 ∷ []) ∷ (0 ∷ []) ∷ (0 ∷ []) ∷ []

a_cycle_ends_at_what_is_marked : IsOrder cycle 0 (1 ∷ 0 ∷ [])
a_cycle_ends_at_what_is_marked =
    let g = cycle in
    let last = 1 ∷ 0 ∷ [] in
    let one : Visits g (0 ∷ []) (1 ∷ []) last (1 ∷ []) = visited (0 ∷ []) 1 [] last last [] [] refl (skipped last 0 [] last [] refl (no_more last)) (no_more last) in
    record { marked = last; visits = visited [] 0 [] last last (1 ∷ []) [] refl one (no_more last) }

-- Programs ----------------------------------------------------------------------------------

-- `(module a (export (f x))) (display 1) (define (f x) (+ x 1))`
abbrev pub exporter : ModuleTree
exporter =
    record {
      name = codes "a";
      imports = [];
      functions = function (codes "f") (x 0 ∷ []) (more (sum_of (variable 0) (int 1)) none) ∷ [];
      forms = more (shown (int 1)) none;
      uses = [];
      exports = untyped_row (codes "f") 1 ∷ [];
      main = None;
    }

-- `(module b (import (f a)) (main go)) (display 2) (define (go args) (display (f 40)) (newline))`
abbrev pub importer : ModuleTree
importer =
    record {
      name = codes "b";
      imports = record { module_name = codes "a"; names = codes "f" ∷ [] } ∷ [];
      functions = function (codes "go") (x 0 ∷ []) (more (shown (Call (Used 0) (more (int 40) none))) (more line_end none)) ∷ [];
      forms = more (shown (int 2)) none;
      uses = From (codes "a") (untyped_row (codes "f") 1) ∷ [];
      exports = [];
      main = Some (codes "go");
    }

modules_are_initialized_in_order : src (exporter ∷ importer ∷ []) [] [] 2 ≡ observation (codes "1241" ++ 10 ∷ []) (Ended 0)
unfolding src decimal_text
modules_are_initialized_in_order = refl

a_call_of_another_module_takes_a_turn : src (exporter ∷ importer ∷ []) [] [] 1 ≡ observation (codes "12") Spent
unfolding src decimal_text
a_call_of_another_module_takes_a_turn = refl

-- `(module c (main go)) (+ 1 (display 7)) (display 8) (define (go args) 0)`
abbrev pub failing : ModuleTree
failing =
    record {
      name = codes "c";
      imports = [];
      functions = function (codes "go") (x 0 ∷ []) (more (int 0) none) ∷ [];
      forms = more (sum_of (int 1) (shown (int 7))) (more (shown (int 8)) none);
      uses = [];
      exports = [];
      main = Some (codes "go");
    }

an_error_in_a_form_ends_the_program : src (failing ∷ []) [] [] 9 ≡ observation (codes "7") (Raised (number_of WrongType) (codes "long"))
unfolding src decimal_text
an_error_in_a_form_ends_the_program = refl
