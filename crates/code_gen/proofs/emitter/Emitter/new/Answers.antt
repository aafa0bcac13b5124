use Rattle.std.proofs.Common.{refl}
use Rattle.code_gen.proofs.emitter.Emitter.new.Goals as goal

pub returns : goal.returns
returns c = record { pieces_are = c.new.ensures; locals = c.new-2.ensures; next_is = refl }
