use Rattle.std.proofs.Common.{◌∙◌, ap}
use Rattle.c_meaning.specs.Plain.{role_of, signature_named}
use Rattle.c_meaning.specs.Checked.{result_breaches, types_breaches, params_before}
use Rattle.c_check.specs.Firsts.{first}
use Rattle.c_check.specs.Heads.{result_wrong}
use Rattle.c_check.proofs.Firsts.{first_of_two}
use Rattle.c_check.proofs.HeadParts.{wrong-result}
use Rattle.c_check.proofs.known.Known.declaration_fault.Goals as goal

pub returns : goal.returns
returns c =
    let role = role_of c.args.name.now in
    let before = signature_named c.args.self.now.functions c.args.name.now in
    first_of_two (result_breaches role before c.args.gives) (types_breaches role (params_before before) c.args.params.now)
    c.or.result c.result_fault.result c.types_fault.result c.or.ensures
    (c.result_fault.ensures ∙ (λ i. first (result_wrong (c.of.ensures i) (c.before-2.ensures.gives i) c.args.gives)) ∙ ap first (wrong-result role before c.args.gives))
    (c.types_fault.ensures ∙ (λ i. first (types_breaches (c.of.ensures i) (c.before-2.ensures.takes i) c.args.params.now)))
