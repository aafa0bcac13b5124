use Rattle.std.proofs.Common.{◌∙◌, ap}
use Rattle.std.specs.Option.{option_map}
use Rattle.c_meaning.specs.Plain.{signature_named}
use Rattle.c_check.specs.Signatures.{signed}
use Rattle.c_check.proofs.Entries.{shape-lookup}
use Rattle.c_check.proofs.declared.Declared.shape.Goals as goal

pub returns : goal.returns
returns c =
    ap (option_map (signed c.args.name.now)) c.get.ensures
    ∙ shape-lookup c.args.name.now c.self.inside.shapes
    ∙ ap (λ l. signature_named l c.args.name.now) c.self.view_is
