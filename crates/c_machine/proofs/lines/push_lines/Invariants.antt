use Rattle.std.proofs.Common.{◌≡◌, ◌∷◌, ◌++◌, length}
use Rattle.c_machine.specs.Decoded.{line}
use Rattle.c_machine.specs.declared.program.Instr.TheVariants.{Give}
use Rattle.c_machine.proofs.lines.push_lines.Given as goal

abbrev pub invariant-loop-line : goal.invariant-loop-line
invariant-loop-line l = l.code ++ l.lines ≡ line Give 1 ∷ l.fn.lines

abbrev pub decreases-loop-line : goal.decreases-loop-line
decreases-loop-line l = length l.lines
