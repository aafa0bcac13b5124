use Rattle.std.proofs.Common.{length}
use Rattle.bglc.proofs.files.write_file.Given as goal

abbrev pub decreases-loop-rest : goal.decreases-loop-rest
decreases-loop-rest g l = length l.rest
