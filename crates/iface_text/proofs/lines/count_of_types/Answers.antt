use Rattle.std.proofs.Common.{◌≡◌, ◌++◌, length, None, Some, ap, arith}
use Rattle.std.specs.Prelude.{codes}
use Rattle.std.proofs.lemmas.Bool.Decides.{Decides-eqb}
use Rattle.std.proofs.lemmas.Slice.Eq.{strip_prefix_is}
use Rattle.iface_text.proofs.Counts.{no_first, left_stuck, left_more, read_more, is_some}
use Rattle.iface_text.proofs.lines.count_of_types.Goals as goal

pub returns-in_err-rest : goal.returns-in_err-rest
returns-in_err-rest c =
    rw c.from_residual.ensures (λ n. no_first n c.args.types.now (is_some c.args.types.now c.is_empty.result c.is_empty.ensures c.if-is_empty.false)
    (strip_prefix_is Decides-eqb c.args.types.now (codes "obj") None c.in_err-rest.ensures.cases))

pub returns-in_err-rest-2 : goal.returns-in_err-rest-2
returns-in_err-rest-2 c =
    rw c.from_residual-in_err-rest-2.ensures (λ n e. left_stuck c.loop-rest.rest.now (c.loop-rest.invariant.left n e)
    (is_some c.loop-rest.rest.now c.is_empty-in-loop-rest.result c.is_empty-in-loop-rest.ensures c.loop-rest-test.true)
    (strip_prefix_is Decides-eqb c.loop-rest.rest.now (codes " obj") None c.in_err-rest-2.ensures.cases))

pub loop-rest-preserved : goal.loop-rest-preserved
loop-rest-preserved c =
    let e : c.loop-rest.rest.now ≡ codes " obj" ++ c.in_ok-rest-2.rest.now = strip_prefix_is Decides-eqb c.loop-rest.rest.now (codes " obj") (Some c.in_ok-rest-2.rest) c.in_ok-rest-2.ensures.cases in
    let invariant = c.loop-rest.invariant in
    record {
      some = omega arith;
      within = omega (arith, ap length e);
      read = read_more c.loop-rest.count c.args.types.now c.loop-rest.rest.now c.in_ok-rest-2.rest.now invariant.some invariant.read e;
      left = λ n f. left_more c.loop-rest.rest.now c.in_ok-rest-2.rest.now (invariant.left n f) e;
    }
