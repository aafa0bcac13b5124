use Rattle.std.proofs.Common.{◌≡◌, ◌+◌, ◌-◌, ◌≤◌, length, drop}
use Rattle.std.specs.List.{prefix_len}
use Rattle.scheme_data.specs.Symbols.{is_symbol_byte}
use Rattle.scheme_data.proofs.symbol.symbol_len.Given as goal

abbrev pub invariant-loop-n : goal.invariant-loop-n
invariant-loop-n l = record {
  within : l.n ≤ length l.bytes;
  rest : l.n + prefix_len is_symbol_byte (drop l.n l.bytes) ≡ prefix_len is_symbol_byte l.bytes;
}

abbrev pub decreases-loop-n : goal.decreases-loop-n
decreases-loop-n l = length l.bytes - l.n
