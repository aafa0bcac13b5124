use Rattle.std.proofs.lemmas.Result.{err_from_is_err_and}
use Rattle.scheme_data.specs.Forms.{form}
use Rattle.expander.proofs.TurnWalks.{lambda_from, other_from, stuck_from, settle_none}
use Rattle.expander.proofs.expander.Expander.lambda_of.Goals as goal

pub returns-in-Lambda-clause-made : goal.returns-in-Lambda-clause-made
returns-in-Lambda-clause-made c = lambda_from _ _ c.args.at _ (form c.args.value) c.settle.new.self.counts c.in_ok-place.field-0 c.in-Lambda.place c.in-Lambda.forms c.core_turn.result c.in-Lambda.is c.in_ok-place.ensures.settles (c.core_turn.ensures c.settle.new.self.counts)

pub returns-in-Lambda-clause-around : goal.returns-in-Lambda-clause-around
returns-in-Lambda-clause-around c = c.settle.ensures.around

pub returns-in-Other-clause-made : goal.returns-in-Other-clause-made
returns-in-Other-clause-made c = other_from _ _ c.args.at _ (form c.args.value) c.settle.new.self.counts c.in_ok-place.field-0 _ c.in-Other.is c.in_ok-place.ensures.settles

pub returns-in-Other-clause-around : goal.returns-in-Other-clause-around
returns-in-Other-clause-around c = c.settle.ensures.around

pub returns-clause-made : goal.returns-clause-made
returns-clause-made c = stuck_from _ _ c.args.at _ (form c.args.value) c.settle.new.self.counts c.in_ok-place.field-0 _ c.in-Stuck.e c.in-Stuck.is c.in_ok-place.ensures.settles

pub returns-clause-around : goal.returns-clause-around
returns-clause-around c = c.settle.ensures.around

pub returns-in_err-place-clause-made : goal.returns-in_err-place-clause-made
returns-in_err-place-clause-made c = let p = err_from_is_err_and c.from_residual.result c.from_residual.ensures.1 in
    rw (p.1, p.2) (settle_none _ _ c.args.at _ (form c.args.value) c.settle.new.self.counts c.in_err-place.field-0.0 c.in_err-place.ensures.settles)

pub returns-in_err-place-clause-around : goal.returns-in_err-place-clause-around
returns-in_err-place-clause-around c = c.settle.ensures.around
