use Rattle.std.proofs.Common.{sym, ◌∙◌}
use Rattle.scheme_data.specs.Forms.{form}
use Rattle.syntax_rules.specs.Views.{the_macro}
use Rattle.expansion_steps.proofs.Decisions.{use_settles, use_sticks}
use Rattle.expansion_steps.proofs.looking.settle_use.Goals as goal

pub returns-in-Ok : goal.returns-in-Ok
returns-in-Ok c = λ ks s h. use_settles ks s c.args.n.now c.expand_use.new.counts (form c.args.value) (form c.in-Ok.result) (the_macro c.args.rules.now) h c.in-Ok.ensures

pub returns-else-wants_memory : goal.returns-else-wants_memory
returns-else-wants_memory c = λ ks s h. use_sticks ks s c.args.n.now c.expand_use.new.counts (form c.args.value) c.in-Err.e (the_macro c.args.rules.now) h (sym c.wants_memory.ensures ∙ c.if-wants_memory.false) c.in-Err.ensures
