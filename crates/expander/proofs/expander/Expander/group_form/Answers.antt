use Rattle.std.proofs.Common.{[], ◌∷◌, arith}
use Rattle.std.proofs.lemmas.Result.{err_from_is_err_and}
use Rattle.core_forms.specs.Mid.{group}
use Rattle.core_forms.specs.Code.{data_of}
use Rattle.core_forms.specs.Working.{function_of}
use Rattle.expansion_steps.specs.Heads.{macros_of}
use Rattle.expander.proofs.NodeWalks.{leave_fits, left_scope}
use Rattle.expander.proofs.EntryWalks.{group_leads, group_ready}
use Rattle.expander.proofs.expander.Expander.group_form.Goals as goal

pub returns-in_err-binders-clause-leads : goal.returns-in_err-binders-clause-leads
returns-in_err-binders-clause-leads c = let r = err_from_is_err_and c.from_residual.result c.from_residual.ensures.1 in
    rw (r.1, r.2) (c.in_err-binders.ensures.closes c.args.room)

pub returns-then-room-lt3-clause-leads : goal.returns-then-room-lt3-clause-leads
returns-then-room-lt3-clause-leads c = (c.in_ok-binders.ensures.closes c.args.room).deep (omega arith)

pub leave-requires : goal.leave-requires
leave-requires c = leave_fits c.len.result c.in_ok-binders.field-0.binders c.args.self.now.scope c.group_of.new.self.scope c.len.ensures c.in_ok-binders.ensures.entered

pub returns-clause-leads : goal.returns-clause-leads
returns-clause-leads c = group_leads (macros_of c.args.self.now.macros) c.args.room c.args.self.now.scope c.args.self.now.counts (group c.args.at (function_of c.args.first ∷ []) (data_of c.args.forms)) c.args.at c.in_ok-binders.field-0 c.group_of.new.self.counts c.new.result
    (c.in_ok-binders.ensures.closes c.args.room) (omega arith) c.new.ensures

pub returns-clause-ready : goal.returns-clause-ready
returns-clause-ready c = group_ready c.args.room c.new.result c.in_ok-binders.field-0.inner (omega arith) c.new.ensures c.in_ok-binders.ensures.fits

pub returns-clause-around : goal.returns-clause-around
returns-clause-around c = record {
  macros = c.in_ok-binders.ensures.macros;
  scope = left_scope c.len.result c.in_ok-binders.field-0.binders c.args.self.now.scope c.group_of.new.self.scope c.leave.new.self c.len.ensures c.in_ok-binders.ensures.entered c.leave.ensures;
}
