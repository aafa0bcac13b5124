use Rattle.std.proofs.Common.{map, ap, sym, ◌∙◌, if◌then◌else◌, [], Some, None}
use Rattle.std.proofs.lemmas.Result.{err_from_is_err_and}
use Rattle.std.specs.Option.{option_map}
use Rattle.iface_text.specs.Format.{iface_tree}
use Rattle.core_tree.specs.WellFormed.{same_use}
use Rattle.resolver.specs.Trees.{import_tree}
use Rattle.resolver.specs.Elaboration.{each_use_once}
use Rattle.resolver.specs.Parts.{with_first}
use Rattle.resolver.specs.TakenRows.{use_of}
use Rattle.resolver.proofs.Firsts.{uses_first}
use Rattle.resolver.proofs.UseLists.{uses_are}
use Rattle.resolver.proofs.uses.uses_for.Goals as goal

pub returns-then-not-branch : goal.returns-then-not-branch
returns-then-not-branch c =
    ap (λ b. each_use_once (if b then Some (map use_of c.add_all_needs.new.taken) else None)) (sym c.if-not-branch.true)
    ∙ uses_are c.in_ok-interfaces.interfaces (map iface_tree c.args.ifaces.now) c.in_ok-interfaces.ensures (map import_tree c.args.head.now.imports) (map import_tree c.as_slice-imports.result.now) c.args.outside.now
    (map use_of c.in-Some.taken) (map use_of c.add_all_needs.new.taken) _ c.in_ok-add_all_needs.field-0
    (ap (map import_tree) c.as_slice-imports.ensures) c.in_ok-taken.ensures (ap (option_map (map use_of)) c.in-Some.is) c.in_ok-add_all_needs.ensures

pub returns : goal.returns
returns c =
    ap Some (c.in_ok-each_once.ensures ∙ ap (λ l. with_first same_use [] (map use_of l)) c.as_slice.ensures ∙ uses_first (map use_of c.add_all_needs.new.taken))
    ∙ ap (λ b. each_use_once (if b then Some (map use_of c.add_all_needs.new.taken) else None)) (sym c.if-not-branch.false)
    ∙ uses_are c.in_ok-interfaces.interfaces (map iface_tree c.args.ifaces.now) c.in_ok-interfaces.ensures (map import_tree c.args.head.now.imports) (map import_tree c.as_slice-imports.result.now) c.args.outside.now
    (map use_of c.in-Some.taken) (map use_of c.add_all_needs.new.taken) _ c.in_ok-add_all_needs.field-0
    (ap (map import_tree) c.as_slice-imports.ensures) c.in_ok-taken.ensures (ap (option_map (map use_of)) c.in-Some.is) c.in_ok-add_all_needs.ensures

pub returns-in_err-interfaces : goal.returns-in_err-interfaces
returns-in_err-interfaces c =
    let p = err_from_is_err_and c.from_residual.result c.from_residual.ensures.1 in
    rw (p.1) tt

pub returns-in_err-taken : goal.returns-in_err-taken
returns-in_err-taken c =
    let p = err_from_is_err_and c.from_residual-in_err-taken.result c.from_residual-in_err-taken.ensures.1 in
    rw (p.1) tt

pub returns-in_err-add_all_needs : goal.returns-in_err-add_all_needs
returns-in_err-add_all_needs c =
    let p = err_from_is_err_and c.from_residual-in_err-add_all_needs.result c.from_residual-in_err-add_all_needs.ensures.1 in
    rw (p.1) tt

pub returns-in_err-each_once : goal.returns-in_err-each_once
returns-in_err-each_once c =
    let p = err_from_is_err_and c.from_residual-in_err-each_once.result c.from_residual-in_err-each_once.ensures.1 in
    rw (p.1) tt
