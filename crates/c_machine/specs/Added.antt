-- What calls add to the bytes of a sink, where it tells them.
use Rattle.std.specs.Prelude.{◌≡◌, ℕ, List, ◌++◌, Option, Some}
use Rattle.c_machine.specs.declared.stepping.Flow.{Flow}
use Rattle.c_machine.specs.declared.stepping.Flow.TheVariants.{Going, Over, WriteFault, Memory}

-- these bytes were added
abbrev pub Added : Option (List ℕ) → Option (List ℕ) → List ℕ → Type 0
Added before now bytes = (old : List ℕ) → before ≡ Some old → now ≡ Some (old ++ bytes)

-- the first of these bytes were added
pub record AddedPart (before now : Option (List ℕ)) (bytes : List ℕ) : Type 0 where
  pub part : List ℕ
  pub rest : List ℕ
  pub is : bytes ≡ part ++ rest
  pub added : Added before now part

-- what a call that writes has to have written
abbrev pub Writes : List ℕ → Flow → Option (List ℕ) → Option (List ℕ) → Type 0
Writes bytes Going before now = Added before now bytes
Writes bytes Over before now = ⊥
Writes bytes WriteFault before now = AddedPart before now bytes
Writes bytes Memory before now = ⊥
