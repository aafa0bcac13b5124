use Rattle.std.proofs.Common.{refl}
use Rattle.c_check.proofs.Knowing.{global-found}
use Rattle.c_check.proofs.known.Known.add_global.Goals as goal

pub returns : goal.returns
returns c = record {
  functions = λ name. refl;
  globals = global-found c.args.self.now.globals c.add.new.self c.args.v.now c.in_ok-add.field-0 c.in_ok-add.ensures.added c.in_ok-add.ensures.ok;
  names = λ name. refl;
}
