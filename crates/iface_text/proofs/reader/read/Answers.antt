use Rattle.iface_text.proofs.Refusals.{goes_on, stops_here, ends_here}
use Rattle.iface_text.proofs.reader.read.Goals as goal

pub returns-then-not-branch : goal.returns-then-not-branch
returns-then-not-branch c =
    let cut = c.in-Some.cut in
    stops_here c.loop-cut.reader c.take.new.self c.loop-cut.line cut.before.now c.loop-cut.rest.now cut.after.now c.args.bytes.now c.in_ok-take.field-0 c.not_interface.result
    c.loop-cut.invariant c.in-Some.ensures.some c.in-Some.ensures.before c.in_ok-take.ensures c.if-not-branch.true c.not_interface.ensures

pub loop-cut-preserved : goal.loop-cut-preserved
loop-cut-preserved c =
    let cut = c.in-Some.cut in
    goes_on c.loop-cut.reader c.take.new.self c.loop-cut.line c.saturating_add-line.result cut.before.now c.loop-cut.rest.now cut.after.now c.args.bytes.now c.in_ok-take.field-0
    c.loop-cut.invariant c.in-Some.ensures.some c.in-Some.ensures.before c.in_ok-take.ensures c.if-not-branch.false c.saturating_add-line.ensures

pub returns : goal.returns
returns c = ends_here c.loop-cut.reader c.loop-cut.line c.loop-cut.rest.now c.args.bytes.now c.finish.result c.loop-cut.invariant c.in_default.ensures.none c.finish.ensures
