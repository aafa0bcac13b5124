use Rattle.std.proofs.Common.{sym, ◌∙◌}
use Rattle.scheme_data.specs.Forms.{form}
use Rattle.syntax_rules.specs.Views.{the_macro}
use Rattle.core_forms.specs.Code.{data_of}
use Rattle.expansion_steps.proofs.Decisions.{use_looks, use_kept}
use Rattle.expansion_steps.proofs.looking.look_at_use.Goals as goal

pub returns-in_ok-push-in-Ok : goal.returns-in_ok-push-in-Ok
returns-in_ok-push-in-Ok c = λ ks s h. use_looks ks s c.args.n.now c.expand_use.new.counts (form c.args.datum) c.args.others c.push.new.self c.in-Ok.result (the_macro c.args.rules.now) h c.in-Ok.ensures ((c.in_ok-push-in-Ok.ensures {u = tt}).ok)

pub returns-else-wants_memory : goal.returns-else-wants_memory
returns-else-wants_memory c = λ ks s h. use_kept ks s c.args.n.now c.expand_use.new.counts (form c.args.datum) (data_of c.args.others) c.in-Err.e (the_macro c.args.rules.now) h (sym c.wants_memory.ensures ∙ c.if-wants_memory.false) c.in-Err.ensures
