use Rattle.std.proofs.Common.{◌≡◌, ◌++◌, length}
use Rattle.core_forms.specs.Table.{are_clauses}
use Rattle.core_forms.specs.Code.{data_of}
use Rattle.derived_forms.proofs.derived.case_clauses.Given as goal

abbrev pub invariant-loop-clause : goal.invariant-loop-clause
invariant-loop-clause l = (l.items ++ l.clauses ≡ l.fn.clauses) × (are_clauses (data_of l.fn.clauses) ≡ are_clauses (data_of l.clauses))

abbrev pub decreases-loop-clause : goal.decreases-loop-clause
decreases-loop-clause l = length l.clauses
