-- What reading a C text answers.
use Rattle.std.specs.Prelude.{◌≡◌, ℕ, List, Result, Ok, Err}
use Rattle.scheme_data.specs.declared.datum.Place.{Place}
use Rattle.c_tree.specs.Code.{Item}
use Rattle.c_tree.specs.Functions.{items_of}
use Rattle.c_tree.specs.Spelling.{CText}
use Rattle.c_tree.specs.Faults.{IsBadAt}
use Rattle.c_tree.specs.declared.function.CProgram.{CProgram}
use Rattle.c_tree.specs.declared.function.CUnit.{CUnit}
use Rattle.c_read.specs.declared.read.CReadErr.{CReadErr}
use Rattle.c_read.specs.declared.read.CReadErr.TheVariants.{NotC, Memory}

-- the bytes are no C text, and here is the first place where no text could go on
pub record IsNoText (bytes : List ℕ) (at : Place) : Type 0 where
  pub no_tree : (items : List Item) → CText bytes items → ⊥
  pub bad : IsBadAt bytes at

abbrev pub ReadsProgram : List ℕ → Result CProgram CReadErr → Type 0
ReadsProgram bytes (Ok p) = CText bytes (items_of p.items)
ReadsProgram bytes (Err (NotC at)) = IsNoText bytes at
ReadsProgram bytes (Err Memory) = Unit {0}

abbrev pub ReadsUnit : List ℕ → Result CUnit CReadErr → Type 0
ReadsUnit bytes (Ok u) = CText bytes (items_of u.items)
ReadsUnit bytes (Err (NotC at)) = IsNoText bytes at
ReadsUnit bytes (Err Memory) = Unit {0}

-- unless memory runs out
abbrev pub GivesProgram : List Item → Result CProgram CReadErr → Type 0
GivesProgram items (Ok p) = items_of p.items ≡ items
GivesProgram items (Err (NotC at)) = ⊥
GivesProgram items (Err Memory) = Unit {0}

abbrev pub GivesUnit : List Item → Result CUnit CReadErr → Type 0
GivesUnit items (Ok u) = items_of u.items ≡ items
GivesUnit items (Err (NotC at)) = ⊥
GivesUnit items (Err Memory) = Unit {0}
