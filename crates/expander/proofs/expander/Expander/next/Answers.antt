use Rattle.std.proofs.lemmas.Result.{err_from_is_err_and}
use Rattle.core_forms.specs.Rewriting.{rest_progress}
use Rattle.core_forms.specs.Code.{data_of}
use Rattle.expansion_steps.specs.Heads.{macros_of}
use Rattle.expander.specs.Walks.{first_look, FollowingLeads}
use Rattle.expander.proofs.Arounds.{around_by}
use Rattle.expander.proofs.BodyWalks.{first_halts}
use Rattle.expander.proofs.MadeWalks.{still_around}
use Rattle.expander.proofs.EntryWalks.{next_leads}
use Rattle.expander.proofs.expander.Expander.next.Goals as goal

pub returns-in_err-first-clause-leads : goal.returns-in_err-first-clause-leads
returns-in_err-first-clause-leads c = let p = err_from_is_err_and c.from_residual.result c.from_residual.ensures.1 in
    rw (p.1, p.2) (λ n whole cs q. first_halts (macros_of c.args.self.now.macros) c.args.self.now.scope c.args.room n whole c.args.at c.args.self.now.counts (data_of c.args.forms) cs q c.first_of.new.self.counts c.in_err-first.field-0.0 c.in_err-first.ensures.starts)

pub returns-clause-leads : goal.returns-clause-leads
returns-clause-leads c = next_leads (macros_of c.args.self.now.macros) c.args.room c.args.self.now.scope c.args.self.now.counts c.args.at (data_of c.args.forms) c.first_of.new.self.counts (first_look c.in_ok-first.first) c.in_ok-first.ensures.starts c.following.result c.following.new.self.counts
    (around_by (λ ks s. FollowingLeads (macros_of ks) c.args.room s (rest_progress c.args.room c.first_of.new.self.counts c.args.at (first_look c.in_ok-first.first)) c.args.at c.following.result c.following.new.self.counts) c.args.self.now c.first_of.new.self c.first_of.ensures.around (c.following.ensures.leads c.args.at))

pub returns-clause-around : goal.returns-clause-around
returns-clause-around c = still_around c.following.result c.args.self.now c.first_of.new.self c.following.new.self c.first_of.ensures.around c.following.ensures.around
