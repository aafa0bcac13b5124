use Rattle.std.proofs.Common.{length, sym, ap, ◌∙◌}
use Rattle.name_table.specs.Names.{place_of}
use Rattle.c_check.proofs.Numbered.{place_first, place_behind, place_nowhere, place-fits}
use Rattle.c_check.proofs.places.Places.position.Goals as goal

pub overflow_add-result : goal.overflow_add-result
overflow_add-result c =
    place-fits c.args.name.now c.self.inside.numbered.items c.self.inside.others c.self.inside.len c.position.result c.in-Some-position.at c.len.result c.self.invariant c.position.ensures c.in-Some-position.is
    (c.len.ensures ∙ sym c.deref.ensures.len ∙ ap length c.deref.ensures.value)

pub returns-in-Some : goal.returns-in-Some
returns-in-Some c =
    place_first c.args.name.now c.self.inside.numbered.items c.self.inside.others c.in-Some.at c.numbered_place.result (c.numbered_place.ensures ∙ ap (place_of c.args.name.now) c.deref.ensures.value) c.in-Some.is
    ∙ ap (place_of c.args.name.now) c.self.view_is

pub returns-in-None-position : goal.returns-in-None-position
returns-in-None-position c =
    place_nowhere c.args.name.now c.self.inside.numbered.items c.self.inside.others c.numbered_place.result c.position.result (c.numbered_place.ensures ∙ ap (place_of c.args.name.now) c.deref.ensures.value) c.in-None.is c.position.ensures c.in-None-position.is
    ∙ ap (place_of c.args.name.now) c.self.view_is

pub returns-in-Some-position : goal.returns-in-Some-position
returns-in-Some-position c =
    place_behind c.args.name.now c.self.inside.numbered.items c.self.inside.others c.numbered_place.result c.position.result c.in-Some-position.at c.len.result (c.numbered_place.ensures ∙ ap (place_of c.args.name.now) c.deref.ensures.value) c.in-None.is c.position.ensures c.in-Some-position.is
    (c.len.ensures ∙ sym c.deref.ensures.len ∙ ap length c.deref.ensures.value)
    ∙ ap (place_of c.args.name.now) c.self.view_is
