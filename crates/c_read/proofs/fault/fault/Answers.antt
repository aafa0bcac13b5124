use Rattle.std.proofs.Common.{◌≤◌, length, arith}
use Rattle.std.proofs.lemmas.List.{take_rest}
use Rattle.c_read.proofs.Faulty.{reached_start, stepped_on, stepped_wrong, ended_short}
use Rattle.c_read.proofs.fault.fault.Goals as goal

pub loop-i-init : goal.loop-i-init
loop-i-init c = reached_start c.args.bytes.now c.in_ok-reach.reach c.in_ok-reach.ensures

pub loop-i-preserved : goal.loop-i-preserved
loop-i-preserved c =
    stepped_on c.args.bytes.now c.loop-i.i c.loop-i.reach c.step.new.self _ c.in_ok-step.field-0 c.loop-i-test.true (take_rest c.args.bytes.now c.loop-i.i) c.loop-i.invariant
    c.if-not-branch.false c.in_ok-step.ensures.answer

pub returns-then-not-branch : goal.returns-then-not-branch
returns-then-not-branch c =
    stepped_wrong c.args.bytes.now c.loop-i.i c.loop-i.reach c.step.new.self _ c.in_ok-step.field-0 c.loop-i-test.true (take_rest c.args.bytes.now c.loop-i.i) c.loop-i.invariant
    c.if-not-branch.true c.in_ok-step.ensures.answer c.in_ok-step.ensures.place

pub returns : goal.returns
returns c =
    let ended : length c.args.bytes.now ≤ c.loop-i.i = omega arith in
    ended_short c.args.bytes.now c.loop-i.i c.loop-i.reach c.loop-i.invariant ended c.requires
