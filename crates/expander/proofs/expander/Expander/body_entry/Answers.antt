use Rattle.std.proofs.lemmas.Result.{err_from_is_err_and}
use Rattle.core_forms.specs.Mid.{body}
use Rattle.core_forms.specs.Bodies.{body_turn}
use Rattle.core_forms.specs.Rewriting.{Walked}
use Rattle.core_forms.specs.Code.{data_of}
use Rattle.expansion_steps.specs.Heads.{macros_of}
use Rattle.expander.specs.Walks.{TurnWalked, first_look, EntryLeads}
use Rattle.expander.proofs.Arounds.{around_by}
use Rattle.expander.proofs.BodyWalks.{body_walked, body_halts}
use Rattle.expander.proofs.MadeWalks.{still_around}
use Rattle.expander.proofs.EntryWalks.{entry_on}
use Rattle.expander.proofs.expander.Expander.body_entry.Goals as goal

pub returns-in_err-first-clause-leads : goal.returns-in_err-first-clause-leads
returns-in_err-first-clause-leads c = let p = err_from_is_err_and c.from_residual.result c.from_residual.ensures.1 in
    rw (p.1, p.2) (body_halts (macros_of c.args.self.now.macros) c.args.self.now.scope c.args.room c.args.self.now.counts c.args.at (data_of c.args.forms) c.first_of.new.self.counts c.in_err-first.field-0.0 c.in_err-first.ensures.starts)

pub returns-clause-leads : goal.returns-clause-leads
returns-clause-leads c = entry_on (macros_of c.args.self.now.macros) c.args.room c.args.self.now.scope (λ r after. TurnWalked (macros_of c.args.self.now.macros) c.args.room c.args.self.now.scope (body_turn c.first_of.new.self.counts c.args.at (first_look c.in_ok-first.first)) r after) (λ r after. Walked (macros_of c.args.self.now.macros) c.args.room c.args.self.now.scope c.args.self.now.counts (body c.args.at (data_of c.args.forms)) r after)
    (λ r after w. body_walked (macros_of c.args.self.now.macros) c.args.self.now.scope c.args.room c.args.self.now.counts c.args.at (data_of c.args.forms) c.first_of.new.self.counts (first_look c.in_ok-first.first) r after c.in_ok-first.ensures.starts w) c.first_entry.result c.first_entry.new.self.counts
    (around_by (λ ks s. EntryLeads (macros_of ks) c.args.room s (TurnWalked (macros_of ks) c.args.room s (body_turn c.first_of.new.self.counts c.args.at (first_look c.in_ok-first.first))) c.first_entry.result c.first_entry.new.self.counts) c.args.self.now c.first_of.new.self c.first_of.ensures.around c.first_entry.ensures.leads)

pub returns-clause-around : goal.returns-clause-around
returns-clause-around c = still_around c.first_entry.result c.args.self.now c.first_of.new.self c.first_entry.new.self c.first_of.ensures.around c.first_entry.ensures.around
