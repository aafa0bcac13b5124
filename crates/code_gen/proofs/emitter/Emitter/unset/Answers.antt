use Rattle.code_gen.proofs.Steps.{leaves_unset}
use Rattle.code_gen.proofs.emitter.Emitter.unset.Goals as goal

pub returns : goal.returns
returns c = leaves_unset c.args.self.now c.local.new.self c.args.rep c.in_ok-local.local c.in_ok-local.ensures
