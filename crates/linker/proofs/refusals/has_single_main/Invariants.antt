use Rattle.std.proofs.Common.{drop}
use Rattle.linker.proofs.Chosen.{Counting}
use Rattle.linker.proofs.refusals.has_single_main.Given as goal

abbrev pub invariant-loop-indexed : goal.invariant-loop-indexed
invariant-loop-indexed l = Counting l.objects l.mains l.indexed-index (drop l.indexed-index l.objects)
