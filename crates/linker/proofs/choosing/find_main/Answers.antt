use Rattle.linker.specs.Modules.{trees}
use Rattle.linker.proofs.Chosen.{finding_starts, main_at}
use Rattle.linker.proofs.choosing.find_main.Goals as goal

pub loop-place-init : goal.loop-place-init
loop-place-init c = finding_starts (trees c.args.objects.now) c.requires.one c.requires.writable

pub returns-in-Some : goal.returns-in-Some
returns-in-Some c =
    main_at c.args.objects.now c.loop-place.place c.index-objects-place.result c.in-Some.name c.as_bytes-module_name.result.now c.as_bytes.result.now c.in_ok-function.function
    c.loop-place-test.true c.index-objects-place.is c.in-Some.is c.as_bytes-module_name.ensures c.as_bytes.ensures c.in_ok-function.ensures.value c.in_ok-function.ensures.named c.loop-place.invariant
