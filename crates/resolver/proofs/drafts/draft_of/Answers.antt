use Rattle.std.proofs.Common.{List, [], map, sym, ap, ◌∙◌}
use Rattle.std.proofs.lemmas.Result.{err_from_is_err_and}
use Rattle.std.specs.Option.{option_map}
use Rattle.scheme_data.specs.Names.{is_same}
use Rattle.resolver.specs.declared.built_head.Import.{Import}
use Rattle.resolver.specs.Trees.{import_tree, head_tree}
use Rattle.resolver.specs.Drafts.{imported_names, outside_in_tops}
use Rattle.resolver.specs.Parts.{top_of, draft_from, with_first}
use Rattle.resolver.proofs.Sources.{draft_is}
use Rattle.resolver.proofs.drafts.draft_of.Goals as goal

pub returns-in_default-2 : goal.returns-in_default-2
returns-in_default-2 c =
    draft_is (head_tree c.args.head) (map top_of c.args.forms.now) c.in-Some.names c.in_ok-outside.outside c.agrees.result _
    (sym c.in-Some.is ∙ c.in_ok-names.ensures) c.agrees.ensures c.if-not-agrees.false
    (c.in_ok-outside.ensures ∙ ap (λ (is : List Import). with_first is_same [] (outside_in_tops (imported_names (map import_tree is)) c.in-Some.names (map top_of c.args.forms.now))) c.as_slice-2.ensures)
    (sym (ap (option_map (draft_from c.args.head c.in_ok-outside.outside)) c.in_default-2.is) ∙ c.in_ok-tops.ensures)

pub returns : goal.returns
returns c =
    draft_is (head_tree c.args.head) (map top_of c.args.forms.now) c.in-Some.names c.in_ok-outside.outside c.agrees.result _
    (sym c.in-Some.is ∙ c.in_ok-names.ensures) c.agrees.ensures c.if-not-agrees.false
    (c.in_ok-outside.ensures ∙ ap (λ (is : List Import). with_first is_same [] (outside_in_tops (imported_names (map import_tree is)) c.in-Some.names (map top_of c.args.forms.now))) c.as_slice-2.ensures)
    (sym (ap (option_map (draft_from c.args.head c.in_ok-outside.outside)) c.in-Some-2.is) ∙ c.in_ok-tops.ensures)

pub returns-in_err-names : goal.returns-in_err-names
returns-in_err-names c =
    let p = err_from_is_err_and c.from_residual.result c.from_residual.ensures.1 in
    rw (p.1) tt

pub returns-in_err-counts : goal.returns-in_err-counts
returns-in_err-counts c =
    let p = err_from_is_err_and c.from_residual-in_err-counts.result c.from_residual-in_err-counts.ensures.1 in
    rw (p.1) tt

pub returns-in_err-outside : goal.returns-in_err-outside
returns-in_err-outside c =
    let p = err_from_is_err_and c.from_residual-in_err-outside.result c.from_residual-in_err-outside.ensures.1 in
    rw (p.1) tt

pub returns-in_err-tops : goal.returns-in_err-tops
returns-in_err-tops c =
    let p = err_from_is_err_and c.from_residual-in_err-tops.result c.from_residual-in_err-tops.ensures.1 in
    rw (p.1) tt
