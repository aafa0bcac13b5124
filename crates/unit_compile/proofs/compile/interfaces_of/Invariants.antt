use Rattle.std.proofs.Common.{map, take}
use Rattle.iface_text.specs.Format.{iface_tree}
use Rattle.unit_compile.specs.Parts.{AreOnlyTexts}
use Rattle.unit_compile.proofs.compile.interfaces_of.Given as goal

abbrev pub invariant-loop-text : goal.invariant-loop-text
invariant-loop-text l = AreOnlyTexts (take l.text-index l.texts) (map iface_tree l.interfaces)
