use Rattle.std.proofs.Common.{map, sym, ap, ◌∙◌}
use Rattle.std.proofs.lemmas.Result.{err_from_is_err_and}
use Rattle.std.specs.Option.{option_map}
use Rattle.scheme_data.specs.Data.{plain_all}
use Rattle.iface_text.specs.Format.{iface_tree}
use Rattle.resolver.specs.Parts.{draft_tree}
use Rattle.resolver.proofs.Results.{module_formed}
use Rattle.resolver.proofs.resolve.resolve_module.Goals as goal

pub returns-clause-formed : goal.returns-clause-formed
returns-clause-formed c =
    module_formed c.module_of.result (map iface_tree c.args.ifaces.now) (plain_all c.args.forms.now) (draft_tree c.in-Some.draft) c.requires.proper c.requires.spelled
    (sym (ap (option_map draft_tree) c.in-Some.is) ∙ c.in_ok-draft.ensures) c.module_of.ensures

pub returns-in_err-draft-clause-value : goal.returns-in_err-draft-clause-value
returns-in_err-draft-clause-value c =
    let p = err_from_is_err_and c.from_residual.result c.from_residual.ensures.1 in
    rw (p.1) tt

pub returns-in_err-draft-clause-formed : goal.returns-in_err-draft-clause-formed
returns-in_err-draft-clause-formed c =
    let p = err_from_is_err_and c.from_residual.result c.from_residual.ensures.1 in
    rw (p.1) tt
