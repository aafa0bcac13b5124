use Rattle.object_text.proofs.Runs.{push_text, push_are}
use Rattle.object_text.proofs.parts.read_run.Goals as goal

pub loop-parts-preserved : goal.loop-parts-preserved
loop-parts-preserved g c =
    let first = rw c.in-Some.is at c.in_ok-first.ensures.some in
    record {
      are = push_text g.T.Part.spelled c.loop-parts.parts c.push.new.self c.in-Some.first.part c.args.bytes.now c.loop-parts.rest.now c.in-Some.first.rest.now c.in_ok-push.ensures.ok c.loop-parts.invariant.are first.are;
      are_parts = rw c.in_ok-push.ensures.ok (push_are g.T.Part.IsPart c.loop-parts.parts c.in-Some.first.part c.loop-parts.invariant.are_parts first.is_part);
      ends = first.ends;
    }
