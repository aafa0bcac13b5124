-- What is seen of a run.
use Rattle.std.specs.Prelude.{ℕ, List}
use Rattle.base_io.specs.declared.end.End.{End}

-- its output and its end
pub record Observation : Type 0 where
  pub output : List ℕ
  pub end : End
