use Rattle.std.proofs.Common.{take}
use Rattle.core_tree.specs.Tree.{forms_in}
use Rattle.code_gen.specs.Settings.{setting}
use Rattle.code_gen.specs.Emission.{AreUnused}
use Rattle.code_gen.proofs.bodies.forms.Given as goal

abbrev pub invariant-loop-i : goal.invariant-loop-i
invariant-loop-i l = AreUnused (setting l.ctx) l.fn.e l.e (forms_in (take l.i l.tops))
