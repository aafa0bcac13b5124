use Rattle.std.proofs.Common.{◌≡◌, length}
use Rattle.scheme_data.specs.Forms.{join}
use Rattle.core_forms.specs.Names.{new_names, with_names, pairs_of}
use Rattle.core_forms.specs.Table.{count}
use Rattle.core_forms.specs.Code.{data_of}
use Rattle.derived_forms.proofs.loops.new_names.Given as goal

abbrev pub invariant-loop-value : goal.invariant-loop-value
invariant-loop-value l = record {
  named : join (data_of l.made.names) (new_names l.at l.n 0 (data_of l.values)) ≡ new_names l.at l.initial.n 0 (data_of l.initial.values);
  bound : join (data_of l.made.bindings) (pairs_of l.at (new_names l.at l.n 0 (data_of l.values)) (data_of l.values)) ≡ pairs_of l.at (new_names l.at l.initial.n 0 (data_of l.initial.values)) (data_of l.initial.values);
  counted : with_names l.n (count (data_of l.values)) ≡ with_names l.initial.n (count (data_of l.initial.values));
}

abbrev pub decreases-loop-value : goal.decreases-loop-value
decreases-loop-value l = length l.values
