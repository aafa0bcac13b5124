-- What a scope keeps beside its names.
use Rattle.std.specs.Prelude.{◌≡◌, ℕ, List}
use Rattle.marked_names.specs.Keys.{AreKeys, occurrences, count_of}
use Rattle.marked_names.specs.declared.counts.Counts.{Counts}

-- the keys of the bound names, the innermost last, and how often each of them is bound
pub record IsCounted (bound : List (List ℕ)) (counts : Counts) : Type 0 where
  pub are_keys : AreKeys bound
  pub counted : (k : List ℕ) → count_of counts.keys counts.counts.items k ≡ occurrences k bound
