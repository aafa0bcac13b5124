-- What a well-formed module is compiled to has a text.
use Rattle.std.proofs.Common.{◌≡◌, ℕ, List, [], ◌∷◌, nat_eq, Bool, true, false, cond, IsTrue, Option, Some, None, refl, sym, subst}
use Rattle.std.specs.Cmp.Lexicographic.{pointwise, same_text}
use Rattle.scheme_data.specs.Symbols.{IsSymbol}
use Rattle.core_tree.specs.declared.tree.Use.{Use}
use Rattle.core_tree.specs.Tree.{FunctionTree, ModuleTree, function_named}
use Rattle.core_tree.specs.WellFormed.{AreFunctions, AreUses, IsMain, IsWellFormed, takes_as_many}
use Rattle.object_text.specs.Format.{ObjectTree, AreUseRows, IsMainName, CanBeWritten}
use Rattle.unit_compile.specs.Compilation.{IsObjectOf}

use_rows : (m : ModuleTree) (us : List Use) → AreUses m us → AreUseRows us
use_rows m [] are = tt
use_rows m (u ∷ us) are = (record { module_name = are.0.module_name; name = are.0.name; untyped = are.0.untyped }, use_rows m us are.1)

-- a function that is found has the name
name_found : (m : ModuleTree) (fs : List FunctionTree) (name : List ℕ) (params : ℕ) → AreFunctions m fs → IsTrue (takes_as_many params (function_named fs name)) → IsSymbol name
name_found m [] name params are found = absurd (cc)
name_found m (f ∷ fs) name params are found = go (pointwise nat_eq f.name name) refl found (λ h. name_found m fs name params are.1 h)
  where
    go : (b : Bool) → pointwise nat_eq f.name name ≡ b → IsTrue (takes_as_many params (cond b (Some f) (function_named fs name))) → (IsTrue (takes_as_many params (function_named fs name)) → IsSymbol name) → IsSymbol name
    go true same h later = subst IsSymbol (same_text f.name name (sym same)) are.0.name
    go false other h later = later h

main_name : (m : ModuleTree) (main : Option (List ℕ)) → AreFunctions m m.functions → IsMain m main → IsMainName main
main_name m None are main = tt
main_name m (Some name) are main = name_found m m.functions name 1 are main

pub writable : (m : ModuleTree) (o : ObjectTree) → IsWellFormed m → IsObjectOf m o → CanBeWritten o
writable m o w is = record {
  named = is.translated.named;
  header = record {
    module_name = rw is.name w.name;
    imports = rw is.imports w.imports;
    uses = rw is.uses (use_rows m m.uses w.uses);
    ordered = rw is.uses w.ordered;
    exports = rw is.exports w.rows;
    main = rw is.main (main_name m m.main w.functions w.main);
  };
}
