use Rattle.std.proofs.Common.{◌≡◌, ◌∙◌, ◌++◌, [], ap, not, sym}
use Rattle.c_meaning.specs.declared.breach.BadCause.TheVariants.{Twice}
use Rattle.c_meaning.specs.Plain.{role_of, signature_named}
use Rattle.c_meaning.specs.Breaches.{unless, has}
use Rattle.c_meaning.specs.Checked.{result_breaches, params_breaches, params_before, locals_breaches, names_of_vars}
use Rattle.c_check.specs.Firsts.{first}
use Rattle.c_check.specs.Roles.{role_as}
use Rattle.c_check.specs.Heads.{gives_before, result_wrong, takes_before}
use Rattle.c_check.specs.Variables.{names_of}
use Rattle.c_check.specs.Knowns.{gives_of}
use Rattle.c_check.proofs.Firsts.{pair_found, last_of_four}
use Rattle.c_check.proofs.HeadParts.{wrong-result}
use Rattle.c_check.proofs.known.Known.head_fault.Goals as goal

pub returns-in-Some-clause-fault : goal.returns-in-Some-clause-fault
returns-in-Some-clause-fault c =
    let f = c.args.f.now in
    let k = c.args.self.now in
    let role = role_of f.name in
    let before = signature_named k.functions f.name in
    let named : role_as c.of.result ≡ role_of f.name = c.of.ensures ∙ ap role_of c.as_bytes-name.ensures in
    let gives : gives_before c.before-2.result ≡ gives_of (signature_named k.functions f.name) = c.before-2.ensures.gives ∙ ap (λ n. gives_of (signature_named k.functions n)) c.as_bytes-name.ensures in
    sym (pair_found (result_breaches role before f.result) (unless Twice (not (has k.names f.name))) (params_breaches role (params_before before) [] f.params ++ locals_breaches (names_of_vars f.params) f.locals)
    c.or-fault.result c.result_fault.result c.unless.result c.in-Some.cause c.or-fault.ensures
    (c.result_fault.ensures ∙ (λ i. first (result_wrong (named i) (gives i) f.result)) ∙ ap first (wrong-result role before f.result))
    (c.unless.ensures ∙ ap (λ b. first (unless Twice b)) (c.is_new.ensures ∙ ap (λ n. not (has k.names n)) c.as_bytes-name.ensures))
    c.in-Some.is)

pub returns-clause-fault : goal.returns-clause-fault
returns-clause-fault c =
    let f = c.args.f.now in
    let k = c.args.self.now in
    let role = role_of f.name in
    let before = signature_named k.functions f.name in
    let named : role_as c.of.result ≡ role_of f.name = c.of.ensures ∙ ap role_of c.as_bytes-name.ensures in
    let gives : gives_before c.before-2.result ≡ gives_of (signature_named k.functions f.name) = c.before-2.ensures.gives ∙ ap (λ n. gives_of (signature_named k.functions n)) c.as_bytes-name.ensures in
    let takes : takes_before c.before-2.result ≡ params_before (signature_named k.functions f.name) = c.before-2.ensures.takes ∙ ap (λ n. params_before (signature_named k.functions n)) c.as_bytes-name.ensures in
    let made : c.params_fault.new.variables ≡ f.params = c.in_ok-cause.ensures.ok c.in_default-2.is ∙ c.as_slice.ensures in
    last_of_four (result_breaches role before f.result) (unless Twice (not (has k.names f.name))) (params_breaches role (params_before before) [] f.params) (locals_breaches (names_of_vars f.params) f.locals)
    c.or-fault.result c.result_fault.result c.unless.result c.in_ok-cause.field-0 c.in_ok-fault.fault c.or-fault.ensures
    (c.result_fault.ensures ∙ (λ i. first (result_wrong (named i) (gives i) f.result)) ∙ ap first (wrong-result role before f.result))
    (c.unless.ensures ∙ ap (λ b. first (unless Twice b)) (c.is_new.ensures ∙ ap (λ n. not (has k.names n)) c.as_bytes-name.ensures))
    c.in_default.is
    (c.in_ok-cause.ensures.fault ∙ (λ i. first (params_breaches (named i) (takes i) [] (c.as_slice.ensures i)))) c.in_default-2.is
    (c.in_ok-fault.ensures.fault ∙ (λ i. first (locals_breaches (names_of (made i)) (c.as_slice-2.ensures i))))
