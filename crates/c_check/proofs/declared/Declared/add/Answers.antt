use Rattle.std.proofs.Common.{◌∙◌, ◌++◌, ◌∷◌, [], ap}
use Rattle.c_meaning.specs.Plain.{signature_named}
use Rattle.c_check.specs.Signatures.{signed}
use Rattle.c_check.proofs.Entries.{no-shape, signatures-push}
use Rattle.c_check.proofs.declared.Declared.add.Goals as goal

pub add-requires : goal.add-requires
add-requires c = no-shape c.args.name.now c.self.inside.shapes (ap (λ l. signature_named l c.args.name.now) c.self.view_is ∙ c.requires)

pub returns : goal.returns
returns c =
    signatures-push c.args.name.now c.args.shape c.self.inside.shapes c.add.new.self c.in_ok-add.ensures
    ∙ ap (λ l. l ++ signed c.args.name.now c.args.shape ∷ []) c.self.view_is
