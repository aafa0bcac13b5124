use Rattle.std.proofs.Common.{◌≡◌, ◌+◌, ◌-◌, ◌≤◌, length, drop}
use Rattle.std.specs.List.{prefix_len}
use Rattle.iface_text.specs.Lines.{other_than}
use Rattle.iface_text.proofs.lines.len_before.Given as goal

abbrev pub invariant-loop-n : goal.invariant-loop-n
invariant-loop-n l = record {
  within : l.n ≤ length l.bytes;
  rest : l.n + prefix_len (other_than l.byte) (drop l.n l.bytes) ≡ prefix_len (other_than l.byte) l.bytes;
}

abbrev pub decreases-loop-n : goal.decreases-loop-n
decreases-loop-n l = length l.bytes - l.n
