use Rattle.std.proofs.Common.{Ok, Err}
use Rattle.std.proofs.lemmas.Result.{err_from_is_err_and}
use Rattle.core_forms.specs.Code.{data_of}
use Rattle.expansion_steps.specs.Heads.{macros_of}
use Rattle.expander.specs.Groups.{group_mid}
use Rattle.expander.proofs.Groups.{first_inner, group_halts, group_known, grouped_by}
use Rattle.expander.proofs.expander.Expander.group_of.Goals as goal

pub returns-in_err-body-clause-closes : goal.returns-in_err-body-clause-closes
returns-in_err-body-clause-closes c = let p = err_from_is_err_and c.from_residual-in_err-body.result c.from_residual-in_err-body.ensures.1 in
    λ room. rw (p.1, p.2) (group_halts c.args.self.now.scope c.join.new.self.scope c.args.at c.args.first c.new-group.result c.join.new.group c.in_ok-join.field-0 c.new-group.ensures.at c.new-group.ensures.functions c.in_ok-join.ensures.joined c.in_ok-join.ensures.functions c.in_ok-join.ensures.stays
    (macros_of c.args.self.now.macros) c.args.self.now.counts (data_of c.args.forms) c.neighbours.new.self.counts c.neighbours.new.group c.in_err-body.field-0.0
    (grouped_by c.join.new.self.macros c.args.self.now.macros c.args.self.now.scope c.join.new.self.counts c.args.self.now.counts (group_mid c.join.new.group (data_of c.args.forms)) c.neighbours.new.group (Err c.in_err-body.field-0.0) c.neighbours.new.self.counts c.in_ok-join.ensures.macros c.in_ok-join.ensures.counts
    (c.in_err-body.ensures.grouped c.args.self.now.scope (first_inner c.args.self.now.scope c.join.new.self.scope c.args.at c.args.first c.new-group.result c.join.new.group c.in_ok-join.field-0 c.new-group.ensures.at c.new-group.ensures.functions c.in_ok-join.ensures.joined c.in_ok-join.ensures.functions c.in_ok-join.ensures.stays)))
    room)

pub returns-clause-closes : goal.returns-clause-closes
returns-clause-closes c = group_known c.args.self.now.scope c.join.new.self.scope c.args.at c.args.first c.new-group.result c.join.new.group c.in_ok-join.field-0 c.new-group.ensures.at c.new-group.ensures.functions c.in_ok-join.ensures.joined c.in_ok-join.ensures.functions c.in_ok-join.ensures.stays
    (macros_of c.args.self.now.macros) c.args.self.now.counts (data_of c.args.forms) c.neighbours.new.self.counts c.neighbours.new.self.scope c.neighbours.new.group c.in_ok-body.body (record { binders = c.in_ok-binders.field-0.binders; inner = c.in_ok-binders.field-0.parts })
    c.in_ok-body.ensures.stays
    (grouped_by c.join.new.self.macros c.args.self.now.macros c.args.self.now.scope c.join.new.self.counts c.args.self.now.counts (group_mid c.join.new.group (data_of c.args.forms)) c.neighbours.new.group (Ok c.in_ok-body.body) c.neighbours.new.self.counts c.in_ok-join.ensures.macros c.in_ok-join.ensures.counts
    (c.in_ok-body.ensures.grouped c.args.self.now.scope (first_inner c.args.self.now.scope c.join.new.self.scope c.args.at c.args.first c.new-group.result c.join.new.group c.in_ok-join.field-0 c.new-group.ensures.at c.new-group.ensures.functions c.in_ok-join.ensures.joined c.in_ok-join.ensures.functions c.in_ok-join.ensures.stays)))
    c.in_ok-binders.ensures.binders c.in_ok-binders.ensures.parts
