use Rattle.std.proofs.Common.{◌≡◌, drop}
use Rattle.c_check.specs.Hints.{hint_from, hint_of}
use Rattle.c_check.proofs.places.hint.Given as goal

abbrev pub invariant-loop-byte : goal.invariant-loop-byte
invariant-loop-byte l = hint_from l.n (drop l.byte-index l.name) ≡ hint_of l.name
