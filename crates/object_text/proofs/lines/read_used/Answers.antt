use Rattle.std.proofs.Common.{◌≡◌, ◌++◌, Some, None}
use Rattle.std.specs.Prelude.{codes}
use Rattle.std.proofs.lemmas.Bool.Decides.{Decides-eqb}
use Rattle.std.proofs.lemmas.Slice.Eq.{strip_prefix_is}
use Rattle.object_text.proofs.HeaderLines.{no_blank, no_used_row}
use Rattle.object_text.proofs.lines.read_used.Goals as goal

pub returns-in_default-strip_prefix-clause-none : goal.returns-in_default-strip_prefix-clause-none
returns-in_default-strip_prefix-clause-none c =
    let n = c.in-Some.named in
    no_blank c.args.bytes.now c.args.front.now n.name.now n.rest.now c.in-Some.ensures.some (strip_prefix_is Decides-eqb n.rest.now (codes " ") None c.in_default-strip_prefix.ensures.cases)

pub returns-in_default-2-clause-none : goal.returns-in_default-2-clause-none
returns-in_default-2-clause-none c =
    let n = c.in-Some.named in
    let after = c.in-Some-strip_prefix.after in
    let e : n.rest.now ≡ codes " " ++ after.now = strip_prefix_is Decides-eqb n.rest.now (codes " ") (Some after) c.in-Some-strip_prefix.ensures.cases in
    let none = rw c.in_default-2.is at c.in_ok-row.ensures.none in
    no_used_row c.args.bytes.now c.args.front.now n.name.now n.rest.now after.now c.in-Some.ensures.some e none
