use Rattle.std.proofs.Common.{ap, Err}
use Rattle.std.proofs.lemmas.Result.{err_from_is_err_and}
use Rattle.expansion_steps.specs.Heads.{macros_of}
use Rattle.expander.specs.Tops.{top_of, all_tops}
use Rattle.expander.proofs.TopTurns.{begun, ended, went_first}
use Rattle.expander.proofs.expander.Expander.tops.Goals as goal

pub firsts-init : goal.firsts-init
firsts-init c = record { done = begun (macros_of c.args.self.now.macros) c.args.self.now.counts (all_tops c.args.tops) _ c.new-forms.ensures; scope = c.requires }

pub returns-in_default : goal.returns-in_default
returns-in_default c =
    ended (macros_of c.args.self.now.macros) c.args.self.now.counts (all_tops c.args.tops) _ c.firsts.self.counts c.firsts.forms (all_tops c.firsts.tops) (ap all_tops c.in_default.ensures.0) c.firsts.invariant.done

pub returns-in_err-first : goal.returns-in_err-first
returns-in_err-first c =
    let p = err_from_is_err_and c.from_residual.result c.from_residual.ensures.1 in
    rw (p.1, p.2) (went_first (macros_of c.firsts.self.macros) c.firsts.self.counts c.firsts.forms (top_of c.in-Some.top) (all_tops c.pop.new.self) (all_tops c.firsts.tops) (Err c.in_err-first.field-0.0) (macros_of c.first.new.self.macros) c.first.new.self.counts c.first.new.forms (all_tops c.first.new.tops)
    (ap all_tops c.in-Some.ensures) (c.in_err-first.ensures {u = tt}).advances (macros_of c.args.self.now.macros) c.args.self.now.counts (all_tops c.args.tops) c.firsts.invariant.done)
