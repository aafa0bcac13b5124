use Rattle.std.proofs.Common.{◌≡◌, length}
use Rattle.iface_text.specs.Reading.{answer_to, answer_of}
use Rattle.iface_text.proofs.reader.read.Given as goal

abbrev pub invariant-loop-cut : goal.invariant-loop-cut
invariant-loop-cut l = answer_to l.reader l.line l.rest ≡ answer_of l.bytes

abbrev pub decreases-loop-cut : goal.decreases-loop-cut
decreases-loop-cut l = length l.rest
