use Rattle.std.proofs.Common.{take}
use Rattle.linker.specs.Modules.{trees, AreOnlyObjects}
use Rattle.linker.proofs.reading.read_objects.Given as goal

abbrev pub invariant-loop-text : goal.invariant-loop-text
invariant-loop-text l = AreOnlyObjects (take l.text-index l.texts) (trees l.objects.items)
