use Rattle.std.proofs.Common.{◌∙◌, ap}
use Rattle.c_meaning.specs.Plain.{variable_named}
use Rattle.c_meaning.specs.Breaches.{type_of}
use Rattle.c_check.proofs.Entries.{type-lookup}
use Rattle.c_check.proofs.variables.Variables.type_of.Goals as goal

pub returns : goal.returns
returns c =
    c.copied.ensures ∙ c.get.ensures
    ∙ type-lookup c.args.name.now c.self.inside.types
    ∙ ap (λ l. type_of (variable_named l c.args.name.now)) c.self.view_is
