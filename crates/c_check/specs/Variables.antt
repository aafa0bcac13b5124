-- Variables with distinct names.
use Rattle.std.specs.Prelude.{ℕ, List, map, Bool}
use Rattle.c_tree.specs.declared.tree.CVar.{CVar}
use Rattle.c_meaning.specs.Breaches.{has}

abbrev pub names_of : List CVar → List (List ℕ)
names_of vars = map (λ v. v.name) vars

abbrev pub has_variable : List CVar → List ℕ → Bool
has_variable vars name = has (names_of vars) name
