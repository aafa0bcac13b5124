use Rattle.std.proofs.Common.{◌≡◌, length}
use Rattle.scheme_read.specs.Steps.{feed}
use Rattle.scheme_read.proofs.reader.Reader.feed.Given as goal

abbrev pub invariant-loop-frame : goal.invariant-loop-frame
invariant-loop-frame l = feed l.self.stack l.self.done l.datum ≡ feed l.fn.self.stack l.fn.self.done l.fn.first

abbrev pub decreases-loop-frame : goal.decreases-loop-frame
decreases-loop-frame l = length l.self.stack
