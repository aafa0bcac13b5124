use Rattle.std.proofs.Common.{◌≤◌, length}
use Rattle.base_io.proofs.Putting.{PutSoFar}
use Rattle.base_io.proofs.stream.put_all.Given as goal

abbrev pub invariant-loop-rest : goal.invariant-loop-rest
invariant-loop-rest g l = record {
  later : g.K.Sink.faults l.fn.out ≤ g.K.Sink.faults l.out;
  told : PutSoFar (g.K.Sink.written l.fn.out) (g.K.Sink.written l.out) l.bytes l.rest;
}

abbrev pub decreases-loop-rest : goal.decreases-loop-rest
decreases-loop-rest g l = length l.rest
