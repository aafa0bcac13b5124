use Rattle.std.proofs.Common.{◌≡◌, ◌++◌, length}
use Rattle.object_text.specs.Parts.{texts, AllAre}
use Rattle.object_text.proofs.parts.read_run.Given as goal

abbrev pub invariant-loop-parts : goal.invariant-loop-parts
invariant-loop-parts g l = record {
  are : l.bytes ≡ texts g.T.Part.spelled l.parts ++ l.rest;
  are_parts : AllAre g.T.Part.IsPart l.parts;
  ends : g.T.Part.Ends l.rest;
}

abbrev pub decreases-loop-parts : goal.decreases-loop-parts
decreases-loop-parts g l = length l.rest
