use Rattle.std.proofs.Common.{refl}
use Rattle.code_gen.proofs.Fitting.{is_refused}
use Rattle.code_gen.proofs.coercions.refused.Goals as goal

pub returns : goal.returns
returns c = is_refused c.args.e.now c.put.new.self c.store.new.self c.args.ty c.in_ok-raise.raise c.rep.result _ c.in_ok-made.made
    c.in_ok-raise.ensures c.in_ok-put.ensures c.rep.ensures refl c.in_ok-made.ensures
