use Rattle.std.proofs.Common.{◌∙◌, sym, ap}
use Rattle.std.specs.Map.{lookup}
use Rattle.scheme_data.specs.Names.{is_same}
use Rattle.c_check.proofs.Keys.{set-at, set-new, no-place}
use Rattle.c_check.proofs.named.Named.set.Goals as goal

pub add-requires : goal.add-requires
add-requires g c = no-place c.args.name.now c.self.inside.names c.self.inside.values.items c.args.self.now c.self.view_is c.self.invariant (sym c.position.ensures ∙ c.in-None.is)

pub returns-in-Some : goal.returns-in-Some
returns-in-Some g c = set-at c.args.name.now c.args.value c.self.inside.names c.self.inside.values.items c.in-Some.place c.args.self.now c.self.view_is c.self.invariant (sym c.position.ensures ∙ c.in-Some.is)

pub returns-in_ok-add-in-None : goal.returns-in_ok-add-in-None
returns-in_ok-add-in-None g c = λ key.
    ap (lookup (is_same key)) c.in_ok-add-in-None.ensures
    ∙ set-new c.args.name.now c.args.value c.args.self.now
    (no-place c.args.name.now c.self.inside.names c.self.inside.values.items c.args.self.now c.self.view_is c.self.invariant (sym c.position.ensures ∙ c.in-None.is)) key
