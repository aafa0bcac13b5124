use Rattle.c_tree.specs.Functions.{items_of}
use Rattle.linker.specs.Modules.{trees}
use Rattle.linker.proofs.Wholes.{imports_fit, order_fits, order_stands_once, units_named, text_is}
use Rattle.linker.proofs.linking.program_text.Goals as goal

pub initialization_order-requires-clause-within : goal.initialization_order-requires-clause-within
initialization_order-requires-clause-within c = imports_fit (trees c.args.modules.objects.items) c.in_ok-imports.imports c.in_ok-imports.ensures

pub take_units-requires-clause-within : goal.take_units-requires-clause-within
take_units-requires-clause-within c =
    order_fits c.args.modules.objects.items c.deref.result.now c.deref_mut.result.now c.in_ok-imports.imports c.in_ok-main.main.place c.in_ok-main.main.function c.in_ok-order.order c.as_slice.result.now
    c.deref.ensures.value c.deref_mut.ensures.value c.as_slice.ensures c.in_ok-imports.ensures c.in_ok-main.ensures c.in_ok-order.ensures

pub take_units-requires-clause-apart : goal.take_units-requires-clause-apart
take_units-requires-clause-apart c = order_stands_once c.in_ok-imports.imports c.in_ok-main.main.place c.in_ok-order.order c.as_slice.result.now c.as_slice.ensures c.in_ok-order.ensures

pub joined_program-requires-clause-named : goal.joined_program-requires-clause-named
joined_program-requires-clause-named c = units_named c.args.modules.objects.items c.deref_mut.result.now c.as_slice.result.now c.in_ok-units.units c.deref_mut.ensures.value c.in_ok-units.ensures c.requires.writable

pub returns : goal.returns
returns c =
    text_is c.args.modules.objects.items c.deref.result.now c.deref_mut.result.now c.in_ok-imports.imports c.in_ok-main.main.place c.in_ok-main.main.function c.in_ok-order.order c.as_slice.result.now c.in_ok-units.units (items_of c.in_ok-program.program.items) c.write_c.result
    c.deref.ensures.value c.deref_mut.ensures.value c.as_slice.ensures c.requires.accepted c.in_ok-main.ensures c.in_ok-imports.ensures c.in_ok-order.ensures c.in_ok-units.ensures c.in_ok-program.ensures.is c.write_c.ensures
