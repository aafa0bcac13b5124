-- Worked rows: which objects are refused, and for what.
use Rattle.std.specs.Prelude.{◌≡◌, ℕ, List, [], ◌∷◌, codes, Option, Some, None, refl}
use Rattle.iface_text.specs.declared.interface.Row.{Row}
use Rattle.iface_text.specs.Lines.{untyped_row}
use Rattle.core_tree.specs.declared.tree.Use.TheVariants.{From}
use Rattle.object_text.specs.Format.{ObjectTree}
use Rattle.linker.specs.declared.linking.LinkErr.TheVariants.{MissingModule, MissingName, NotBuilt}
use Rattle.linker.specs.Links.{link_refusal}

abbrev pub f : ℕ → Row
f n = untyped_row (codes "f") n

-- it exports these rows
abbrev pub exporter : List ℕ → List Row → ObjectTree
exporter name rows = record { module_name = name; imports = []; uses = []; exports = rows; main = None; items = [] }

-- it calls `f` of `a`, of one parameter
abbrev pub importer : List ℕ → Option (List ℕ) → ObjectTree
importer name main =
    record {
      module_name = name;
      imports = record { module_name = codes "a"; names = codes "f" ∷ [] } ∷ [];
      uses = From (codes "a") (f 1) ∷ [];
      exports = [];
      main = main;
      items = [];
    }

abbrev pub b : ObjectTree
b = importer (codes "b") (Some (codes "go"))

abbrev pub c : ObjectTree
c = importer (codes "c") None

two_modules_are_linked : link_refusal (b ∷ exporter (codes "a") (f 1 ∷ []) ∷ []) ≡ None
two_modules_are_linked = refl

a_module_is_missing : link_refusal (b ∷ []) ≡ Some (MissingModule 1 (codes "a"))
a_module_is_missing = refl

the_first_object_decides : link_refusal (exporter (codes "z") [] ∷ c ∷ b ∷ []) ≡ Some (MissingModule 2 (codes "a"))
the_first_object_decides = refl

a_name_is_missing : link_refusal (b ∷ exporter (codes "a") [] ∷ []) ≡ Some (MissingName 1 (codes "a") (codes "f"))
a_name_is_missing = refl

-- another module exports the name
names_are_of_their_modules : link_refusal (exporter (codes "z") (f 1 ∷ []) ∷ b ∷ exporter (codes "a") [] ∷ []) ≡ Some (MissingName 2 (codes "a") (codes "f"))
names_are_of_their_modules = refl

a_missing_module_comes_before_a_missing_name :
    link_refusal (b ∷ exporter (codes "a") [] ∷ record c { imports = record { module_name = codes "x"; names = codes "f" ∷ [] } ∷ [] } ∷ []) ≡ Some (MissingModule 3 (codes "x"))
a_missing_module_comes_before_a_missing_name = refl

another_signature_is_not_built : link_refusal (b ∷ exporter (codes "a") (f 2 ∷ []) ∷ []) ≡ Some NotBuilt
another_signature_is_not_built = refl

one_module_twice_is_not_built : link_refusal (b ∷ b ∷ []) ≡ Some NotBuilt
one_module_twice_is_not_built = refl

no_main_is_not_built : link_refusal (exporter (codes "a") [] ∷ []) ≡ Some NotBuilt
no_main_is_not_built = refl

two_mains_are_not_built : link_refusal (b ∷ importer (codes "c") (Some (codes "go")) ∷ exporter (codes "a") (f 1 ∷ []) ∷ []) ≡ Some NotBuilt
two_mains_are_not_built = refl
