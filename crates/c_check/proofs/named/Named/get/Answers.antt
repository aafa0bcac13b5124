use Rattle.std.proofs.Common.{◌∙◌, ap, sym, slice_get}
use Rattle.std.specs.Map.{lookup}
use Rattle.scheme_data.specs.Names.{is_same}
use Rattle.c_check.proofs.Keys.{lookup-at, lookup-none}
use Rattle.c_check.proofs.named.Named.get.Goals as goal

pub returns-in_default : goal.returns-in_default
returns-in_default g c = sym (lookup-none c.args.name.now c.self.inside.names c.self.inside.values.items c.self.invariant (sym c.position.ensures ∙ c.in_default.is)) ∙ ap (lookup (is_same c.args.name.now)) c.self.view_is

pub returns : goal.returns
returns g c = c.value_at.ensures ∙ ap (λ vs. slice_get vs c.in-Some.place) c.deref.ensures.value ∙ sym (lookup-at c.args.name.now c.self.inside.names c.self.inside.values.items c.self.invariant c.in-Some.place (sym c.position.ensures ∙ c.in-Some.is)) ∙ ap (lookup (is_same c.args.name.now)) c.self.view_is
