use Rattle.code_gen.proofs.Places.{not_absent}
use Rattle.code_gen.proofs.context.Params.local_of.Goals as goal

pub unreachable-requires : goal.unreachable-requires
unreachable-requires c = not_absent c.args.x c.args.self.now c.self.inside.params.now c.self.inside.locals c.self.view_is c.self.invariant.1 c.requires (c.in-None.ensures {u = tt}).value
