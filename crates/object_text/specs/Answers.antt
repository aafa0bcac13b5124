-- What reading an object text answers.
use Rattle.std.specs.Prelude.{◌≡◌, ℕ, List, Result, Ok, Err}
use Rattle.object_text.specs.declared.object.Object.{Object}
use Rattle.object_text.specs.declared.object.ObjectErr.{ObjectErr}
use Rattle.object_text.specs.declared.object.ObjectErr.TheVariants.{NotObject, Memory}
use Rattle.object_text.specs.Format.{ObjectTree, ObjectText, object_tree}

abbrev pub ReadsObject : List ℕ → Result Object ObjectErr → Type 0
ReadsObject bytes (Ok o) = ObjectText bytes (object_tree o)
ReadsObject bytes (Err NotObject) = (o : ObjectTree) → ObjectText bytes o → ⊥
ReadsObject bytes (Err Memory) = Unit {0}

-- unless memory runs out
abbrev pub GivesObject : ObjectTree → Result Object ObjectErr → Type 0
GivesObject o (Ok r) = object_tree r ≡ o
GivesObject o (Err NotObject) = ⊥
GivesObject o (Err Memory) = Unit {0}
