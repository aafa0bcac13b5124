use Rattle.std.proofs.Common.{◌≡◌, ◌++◌, drop}
use Rattle.object_text.specs.Parts.{texts}
use Rattle.object_text.proofs.parts.write_run.Given as goal

abbrev pub invariant-loop-part : goal.invariant-loop-part
invariant-loop-part g l = l.text ++ texts g.T.Part.spelled (drop l.part-index l.parts) ≡ l.fn.text ++ texts g.T.Part.spelled l.parts
