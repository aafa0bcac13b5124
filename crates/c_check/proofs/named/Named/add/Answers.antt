use Rattle.std.proofs.Common.{◌∙◌, ◌++◌, ◌∷◌, [], ap}
use Rattle.c_check.specs.Keys.{has_key}
use Rattle.c_check.proofs.Keys.{pushed}
use Rattle.c_check.proofs.named.Named.add.Goals as goal

pub invariant_of-self-in_default : goal.invariant_of-self-in_default
invariant_of-self-in_default g c =
    (pushed c.self.inside.names c.self.inside.values.items c.args.name.now c.args.value c.insert.new.self c.push.new.self.items c.in_default.field-0 c.self.invariant (ap (has_key c.args.name.now) c.self.view_is ∙ c.requires) c.in_default.ensures.added c.in_default.ensures.ok c.in_ok-push.ensures.items).long

pub returns : goal.returns
returns g c =
    (pushed c.self.inside.names c.self.inside.values.items c.args.name.now c.args.value c.insert.new.self c.push.new.self.items c.in_default.field-0 c.self.invariant (ap (has_key c.args.name.now) c.self.view_is ∙ c.requires) c.in_default.ensures.added c.in_default.ensures.ok c.in_ok-push.ensures.items).are
    ∙ ap (λ es. es ++ (c.args.name.now, c.args.value) ∷ []) c.self.view_is
