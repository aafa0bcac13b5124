use Rattle.std.proofs.Common.{◌∙◌, ap, refl}
use Rattle.c_tree.specs.Functions.{items_of}
use Rattle.c_meaning.specs.Checked.{breaches}
use Rattle.c_check.specs.Firsts.{first}
use Rattle.c_check.proofs.Ending.{no_breach}
use Rattle.c_check.proofs.checking.check.Goals as goal

pub invariant_of-result : goal.invariant_of-result
invariant_of-result c =
    no_breach (items_of c.args.p.items) c.in_ok-first_breach.field-0 (c.in_ok-first_breach.ensures ∙ ap (λ l. first (breaches (items_of l))) c.as_slice.ensures) c.in-None.is

pub returns-in-None : goal.returns-in-None
returns-in-None c =
    (refl, no_breach (items_of c.args.p.items) c.in_ok-first_breach.field-0 (c.in_ok-first_breach.ensures ∙ ap (λ l. first (breaches (items_of l))) c.as_slice.ensures) c.in-None.is)
