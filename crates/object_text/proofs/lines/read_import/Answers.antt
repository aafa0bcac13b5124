use Rattle.std.proofs.Common.{◌≡◌, ◌≢◌, ◌++◌, ◌∙◌, sym, refl, length, Some, None}
use Rattle.std.specs.Prelude.{codes}
use Rattle.std.proofs.lemmas.Bool.Decides.{Decides-eqb}
use Rattle.std.proofs.lemmas.Slice.Eq.{strip_prefix_is}
use Rattle.object_text.proofs.HeaderLines.{no_names, no_import_end, import_found}
use Rattle.object_text.proofs.lines.read_import.Goals as goal

pub returns-then-len-eq0-clause-none : goal.returns-then-len-eq0-clause-none
returns-then-len-eq0-clause-none c =
    let n = c.in-Some.named in
    let names = c.in_ok-names.names in
    no_names c.args.bytes.now n.name.now n.rest.now names.parts names.rest.now c.in-Some.ensures.some c.in_ok-names.ensures (sym c.len.ensures ∙ c.if-len-eq0.true)

pub returns-in_default-strip_prefix-clause-none : goal.returns-in_default-strip_prefix-clause-none
returns-in_default-strip_prefix-clause-none c =
    let n = c.in-Some.named in
    let names = c.in_ok-names.names in
    no_import_end c.args.bytes.now n.name.now n.rest.now names.parts names.rest.now c.in-Some.ensures.some c.in_ok-names.ensures
    (strip_prefix_is Decides-eqb names.rest.now (codes "\n") None c.in_default-strip_prefix.ensures.cases)

pub returns-clause-some : goal.returns-clause-some
returns-clause-some c =
    let n = c.in-Some.named in
    let names = c.in_ok-names.names in
    let rest = c.in-Some-strip_prefix.rest in
    let e : names.rest.now ≡ codes "\n" ++ rest.now = strip_prefix_is Decides-eqb names.rest.now (codes "\n") (Some rest) c.in-Some-strip_prefix.ensures.cases in
    let some : length names.parts ≢ 0 = λ z. c.if-len-eq0.false (c.len.ensures ∙ z) in
    import_found c.args.bytes.now n.name.now n.rest.now names.parts names.rest.now (record { module_name = c.in_ok-module_name.module_name; names = names.parts }) rest.now
    c.in-Some.ensures.some c.in_ok-names.ensures some e c.in_ok-module_name.ensures refl
