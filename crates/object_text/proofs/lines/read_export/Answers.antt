use Rattle.std.proofs.Common.{Some}
use Rattle.std.specs.Prelude.{codes}
use Rattle.std.proofs.lemmas.Bool.Decides.{Decides-eqb}
use Rattle.std.proofs.lemmas.Slice.Eq.{strip_prefix_is}
use Rattle.object_text.proofs.Rows.{export_first}
use Rattle.object_text.proofs.lines.read_export.Goals as goal

pub returns-clause-some : goal.returns-clause-some
returns-clause-some c =
    let e = strip_prefix_is Decides-eqb c.args.bytes.now (codes "export ") (Some c.in-Some.after) c.in-Some.ensures.cases in
    export_first (λ f. f.part) (λ f. f.rest.now) c.args.bytes.now c.in-Some.after.now c.read_row_line.result e c.read_row_line.ensures.some
