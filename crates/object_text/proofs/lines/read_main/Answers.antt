use Rattle.std.proofs.Common.{◌≡◌, ◌++◌, Some, None}
use Rattle.std.specs.Prelude.{codes}
use Rattle.std.proofs.lemmas.Bool.Decides.{Decides-eqb}
use Rattle.std.proofs.lemmas.Slice.Eq.{strip_prefix_is}
use Rattle.object_text.proofs.HeaderLines.{no_main_end, main_found}
use Rattle.object_text.proofs.lines.read_main.Goals as goal

pub returns-in_default-strip_prefix : goal.returns-in_default-strip_prefix
returns-in_default-strip_prefix c =
    let n = c.in-Some.named in
    no_main_end c.args.bytes.now n.name.now n.rest.now c.in-Some.ensures.some (strip_prefix_is Decides-eqb n.rest.now (codes " (obj) obj\n") None (rw c.as_slice.ensures at c.in_default-strip_prefix.ensures.cases))

pub returns : goal.returns
returns c =
    let n = c.in-Some.named in
    let rest = c.in-Some-strip_prefix.rest in
    let e : n.rest.now ≡ codes " (obj) obj\n" ++ rest.now = strip_prefix_is Decides-eqb n.rest.now (codes " (obj) obj\n") (Some rest) (rw c.as_slice.ensures at c.in-Some-strip_prefix.ensures.cases) in
    main_found c.args.bytes.now n.name.now c.in_ok-name.name n.rest.now rest.now c.in-Some.ensures.some e c.in_ok-name.ensures
