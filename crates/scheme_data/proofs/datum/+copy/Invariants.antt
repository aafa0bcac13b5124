use Rattle.std.proofs.Common.{◌≡◌, take}
use Rattle.scheme_data.proofs.datum.+copy.Given as goal

abbrev pub invariant-copy_all-loop-d : goal.invariant-copy_all-loop-d
invariant-copy_all-loop-d l = l.items ≡ take l.d-index l.ds
