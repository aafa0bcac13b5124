use Rattle.std.proofs.Common.{◌≡◌, ◌+◌, ◌≤◌, ◌++◌, ℕ, length}
use Rattle.iface_text.proofs.Counts.{objects_text, Left}
use Rattle.iface_text.proofs.lines.count_of_types.Given as goal

abbrev pub invariant-loop-rest : goal.invariant-loop-rest
invariant-loop-rest l = record {
  some : 1 ≤ l.count;
  within : l.count + length l.rest ≤ length l.types;
  read : l.types ≡ objects_text l.count ++ l.rest;
  left : (n : ℕ) → l.types ≡ objects_text n → Left l.rest;
}

abbrev pub decreases-loop-rest : goal.decreases-loop-rest
decreases-loop-rest l = length l.rest
