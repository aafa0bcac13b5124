-- The entries of a table, as the variables or the signatures that they stand for.
use Rattle.std.specs.Prelude.{ℕ, List, map}
use Rattle.c_tree.specs.declared.tree.CTy.{CTy}
use Rattle.c_tree.specs.declared.tree.CVar.{CVar}
use Rattle.c_meaning.specs.Plain.{Signature}
use Rattle.c_check.specs.Signatures.{signed}
use Rattle.c_check.specs.declared.declared.Shape.{Shape}

abbrev pub variable_of_entry : List ℕ × CTy → CVar
variable_of_entry e = record { ty = e.1; name = e.0 }

abbrev pub variables_of_entries : List (List ℕ × CTy) → List CVar
variables_of_entries entries = map variable_of_entry entries

abbrev pub signature_of_entry : List ℕ × Shape → Signature
signature_of_entry e = signed e.0 e.1

abbrev pub signatures_of_entries : List (List ℕ × Shape) → List Signature
signatures_of_entries entries = map signature_of_entry entries
