use Rattle.std.proofs.Common.{get_or, refl, sym, ap, ◌∙◌}
use Rattle.linker.specs.declared.indexed.Indexed.{Indexed}
use Rattle.linker.specs.Links.{part_of}
use Rattle.linker.specs.Modules.{tree_of, trees}
use Rattle.linker.proofs.Chosen.{unit_taken}
use Rattle.linker.proofs.choosing.take_units.Goals as goal

pub loop-place-preserved : goal.loop-place-preserved
loop-place-preserved c =
    unit_taken (trees c.args.objects.now) c.args.order.now c.loop-place.place-index (get_or c.args.order.now c.loop-place.place-index 0) c.loop-place.units c.push.new.self c.in_ok-take_unit.field-0 c.loop-place.objects c.index-objects-place.result c.take_unit.new.indexed
    c.loop-place-test.true refl c.in_ok-push.ensures.ok (c.in_ok-take_unit.ensures ∙ ap (λ (o : Indexed). part_of (tree_of o)) (sym c.index-objects-place.is)) c.index-objects-place.is c.loop-place.invariant
