-- Signatures with distinct names, as the first of each name that was declared.
use Rattle.std.specs.Prelude.{ℕ, List, [], ◌∷◌, ◌++◌, Option, Some, None}
use Rattle.c_meaning.specs.Plain.{Signature, signature_named}
use Rattle.c_check.specs.declared.declared.Shape.{Shape}

-- a function's types under a name
abbrev pub signed : List ℕ → Shape → Signature
signed name shape = record { name = name; result = shape.gives; params = shape.params }

abbrev pub or_added : Option Signature → List Signature → Signature → List Signature
or_added None table s = table ++ s ∷ []
or_added (Some t) table s = table

-- a signature is added where its name is new
abbrev pub with_signature : List Signature → Signature → List Signature
with_signature table s = or_added (signature_named table s.name) table s
