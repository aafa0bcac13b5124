use Rattle.std.proofs.Common.{◌≡◌, ◌+◌, arith}
use Rattle.scheme_data.specs.Forms.{form}
use Rattle.syntax_rules.specs.Views.{the_macro}
use Rattle.expansion_steps.proofs.MacroUses.{counted-use, spent-use, refused-use}
use Rattle.expansion_steps.proofs.uses.expand_use.Goals as goal

pub returns-in-Ok : goal.returns-in-Ok
returns-in-Ok c =
    let n = c.args.counts.now in
    let mark : c.in-Some.mark ≡ n.expansions + 1 = omega (arith, c.in-Some.ensures) in
    counted-use (the_macro c.args.rules.now) n c.counted.new.counts (form c.args.datum.now) (form c.in-Ok.made) c.in-Some.mark c.saturating_sub-left.result c.counted.result
    c.if-counts-ge-MOST_EXPANSIONS.false c.saturating_sub-left.ensures mark (c.in-Ok.ensures {u = tt}).0 c.counted.ensures

pub returns-in-Err : goal.returns-in-Err
returns-in-Err c =
    let n = c.args.counts.now in
    let mark : c.in-Some.mark ≡ n.expansions + 1 = omega (arith, c.in-Some.ensures) in
    refused-use (the_macro c.args.rules.now) n (form c.args.datum.now) c.in-Some.mark c.saturating_sub-left.result c.in-Err.e c.refusal.result
    c.if-counts-ge-MOST_EXPANSIONS.false c.saturating_sub-left.ensures mark (c.in-Err.ensures {u = tt}) c.refusal.ensures

pub returns-then-counts-ge-MOST_EXPANSIONS : goal.returns-then-counts-ge-MOST_EXPANSIONS
returns-then-counts-ge-MOST_EXPANSIONS c =
    let n = c.args.counts.now in
    let mark : c.in-Some.mark ≡ n.expansions + 1 = omega (arith, c.in-Some.ensures) in
    spent-use (the_macro c.args.rules.now) n (form c.args.datum.now) c.in-Some.mark c.saturating_sub-left.result c.expand_once-made.result c.used_up.result
    c.if-counts-ge-MOST_EXPANSIONS.true mark c.expand_once-made.ensures c.used_up.ensures
