use Rattle.linker.specs.Modules.{unit_names}
use Rattle.linker.proofs.Programs.{main_pieces_are}
use Rattle.linker.proofs.joining.main_pieces.Goals as goal

pub returns : goal.returns
returns c =
    main_pieces_are (unit_names c.args.units.now) c.args.function c.new-pieces.result c.push_makers.new.body c.push_initializers.new.body c.push_run.new.body
    c.new-pieces.ensures c.in_ok-push_makers.ensures c.in_ok-push_initializers.ensures c.in_ok-push_run.ensures
