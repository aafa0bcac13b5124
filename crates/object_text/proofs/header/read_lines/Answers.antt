use Rattle.std.proofs.Common.{◌≡◌, ◌++◌, refl, Some, None}
use Rattle.std.specs.Prelude.{codes}
use Rattle.std.proofs.lemmas.Bool.Decides.{Decides-eqb}
use Rattle.std.proofs.lemmas.Slice.Eq.{strip_prefix_is}
use Rattle.object_text.specs.declared.header.Header.{Header}
use Rattle.object_text.proofs.HeaderParts.{name_found, no_line_end, AreRead}
use Rattle.object_text.proofs.Objects.{Holds, only_lines, some_lines, no_code}
use Rattle.object_text.proofs.header.read_lines.Goals as goal

pub returns-in_default-clause-none : goal.returns-in_default-clause-none
returns-in_default-clause-none c o unit h = c.in_default.ensures.none o.module_name _ (name_found c.args.bytes.now o unit h)

pub returns-in_default-strip_prefix-clause-none : goal.returns-in_default-strip_prefix-clause-none
returns-in_default-strip_prefix-clause-none c =
    let n = c.in-Some.named in
    no_line_end c.args.bytes.now n.name.now n.rest.now c.in-Some.ensures.some (strip_prefix_is Decides-eqb n.rest.now (codes "\n") None c.in_default-strip_prefix.ensures.cases)

pub returns-in_default-strip_prefix-2-clause-none : goal.returns-in_default-strip_prefix-2-clause-none
returns-in_default-strip_prefix-2-clause-none c =
    let n = c.in-Some.named in
    let rest = c.in-Some-strip_prefix.rest in
    let e : n.rest.now ≡ codes "\n" ++ rest.now = strip_prefix_is Decides-eqb n.rest.now (codes "\n") (Some rest) c.in-Some-strip_prefix.ensures.cases in
    let is = c.in_ok-imports.imports in
    let us = c.in_ok-uses.uses in
    let es = c.in_ok-exports.exports in
    let f = c.in_ok-main.main in
    no_code c.args.bytes.now n.name.now n.rest.now rest.now is.parts is.rest.now us.parts us.rest.now es.parts es.rest.now f.name f.rest.now
    (record { named = c.in-Some.ensures.some; line_end = e; imports = c.in_ok-imports.ensures; uses = c.in_ok-uses.ensures; exports = c.in_ok-exports.ensures; main = c.in_ok-main.ensures })
    (strip_prefix_is Decides-eqb f.rest.now (codes "code\n") None c.in_default-strip_prefix-2.ensures.cases)

pub returns : goal.returns
returns c =
    let n = c.in-Some.named in
    let rest = c.in-Some-strip_prefix.rest in
    let e : n.rest.now ≡ codes "\n" ++ rest.now = strip_prefix_is Decides-eqb n.rest.now (codes "\n") (Some rest) c.in-Some-strip_prefix.ensures.cases in
    let is = c.in_ok-imports.imports in
    let us = c.in_ok-uses.uses in
    let es = c.in_ok-exports.exports in
    let f = c.in_ok-main.main in
    let unit = c.in-Some-strip_prefix-2.unit in
    let k : f.rest.now ≡ codes "code\n" ++ unit.now = strip_prefix_is Decides-eqb f.rest.now (codes "code\n") (Some unit) c.in-Some-strip_prefix-2.ensures.cases in
    let header : Header = record { module_name = c.in_ok-module_name.module_name; imports = is.parts; uses = us.parts; exports = es.parts; main = f.name; unit = unit } in
    let read : AreRead c.args.bytes.now n.name.now n.rest.now rest.now is.parts is.rest.now us.parts us.rest.now es.parts es.rest.now f.name f.rest.now =
    record { named = c.in-Some.ensures.some; line_end = e; imports = c.in_ok-imports.ensures; uses = c.in_ok-uses.ensures; exports = c.in_ok-exports.ensures; main = c.in_ok-main.ensures } in
    let holds : Holds header n.name.now is.parts us.parts es.parts f.name f.rest.now = record { module_name = c.in_ok-module_name.ensures; imports = refl; uses = refl; exports = refl; main = refl; rest_is = k } in
    record {
      some = some_lines c.args.bytes.now n.name.now n.rest.now rest.now is.parts is.rest.now us.parts us.rest.now es.parts es.rest.now f.name f.rest.now header read holds;
      only = only_lines c.args.bytes.now n.name.now n.rest.now rest.now is.parts is.rest.now us.parts us.rest.now es.parts es.rest.now f.name f.rest.now header read holds;
      none = tt;
    }
