use Rattle.code_gen.proofs.Steps.{stores}
use Rattle.code_gen.proofs.emitter.Emitter.store.Goals as goal

pub returns : goal.returns
returns c = stores c.args.self.now c.local.new.self c.deliver.new.self c.args.rep c.in_ok-local.local c.args.value c.in_ok-local.ensures c.in_ok-deliver.ensures
