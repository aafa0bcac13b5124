-- What a run writes.
use Rattle.std.specs.Prelude.{◌≡◌, ℕ, List, ◌++◌, Option, Some, None, Result, Ok, Err}
use Rattle.base_io.specs.Observation.{Observation}
use Rattle.base_io.specs.declared.end.End.{End}
use Rattle.base_io.specs.declared.end.RunErr.{RunErr}

-- a part of the output was written, up to some byte
pub record WrotePart (old : List ℕ) (new : Option (List ℕ)) (output : List ℕ) : Type 0 where
  pub added : List ℕ
  pub rest : List ℕ
  pub is : output ≡ added ++ rest
  pub written : new ≡ Some (old ++ added)

-- where the sink tells what is written: the whole output, or after an error a part of it
abbrev pub Ran : Option (List ℕ) → Option (List ℕ) → Observation → Result End RunErr → Type 0
Ran None new seen result = Unit {0}
Ran (Some old) new seen (Ok end) = new ≡ Some (old ++ seen.output)
Ran (Some old) new seen (Err e) = WrotePart old new seen.output
