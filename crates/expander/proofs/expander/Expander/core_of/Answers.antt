use Rattle.std.proofs.Common.{Ok, Err}
use Rattle.std.proofs.lemmas.Result.{err_from_is_err_and}
use Rattle.core_forms.specs.Rewriting.{raw_turn, here}
use Rattle.core_forms.specs.Working.{open_of, TurnsAs}
use Rattle.expansion_steps.specs.Heads.{macros_of}
use Rattle.expander.proofs.Arounds.{same_self, same_on, around_by}
use Rattle.expander.proofs.TurnWalks.{raw_again, raw_made, raw_refused}
use Rattle.expander.proofs.expander.Expander.core_of.Goals as goal

pub turns-init : goal.turns-init
turns-init c = record { around = same_self c.args.self.now; path = λ room. here }

pub returns-in_err-other-clause-made : goal.returns-in_err-other-clause-made
returns-in_err-other-clause-made c = let p = err_from_is_err_and c.from_residual.result c.from_residual.ensures.1 in
    rw (p.1, p.2) (raw_refused _ _ _ _ c.turns.self.counts (open_of c.turns.opened) c.turns.invariant.path c.in_err-other.field-0.0
    (around_by (λ ks s. TurnsAs (raw_turn (macros_of ks) s c.turns.self.counts (open_of c.turns.opened)) (Err c.in_err-other.field-0.0) c.turn.new.self.counts) c.args.self.now c.turns.self c.turns.invariant.around c.in_err-other.ensures.turns))

pub returns-in_err-other-clause-around : goal.returns-in_err-other-clause-around
returns-in_err-other-clause-around c = same_on c.args.self.now c.turns.self c.turn.new.self c.turns.invariant.around c.turn.ensures.around

pub returns-in-Core-clause-made : goal.returns-in-Core-clause-made
returns-in-Core-clause-made c = raw_made _ _ _ _ c.turns.self.counts (open_of c.turns.opened) c.turns.invariant.path c.in_ok-other.field-0 c.in-Core.made c.turn.new.self.counts c.in-Core.is
    (around_by (λ ks s. TurnsAs (raw_turn (macros_of ks) s c.turns.self.counts (open_of c.turns.opened)) (Ok c.in_ok-other.field-0) c.turn.new.self.counts) c.args.self.now c.turns.self c.turns.invariant.around c.in_ok-other.ensures.turns)

pub returns-in-Core-clause-around : goal.returns-in-Core-clause-around
returns-in-Core-clause-around c = same_on c.args.self.now c.turns.self c.turn.new.self c.turns.invariant.around c.turn.ensures.around

pub turns-preserved : goal.turns-preserved
turns-preserved c = record {
  around = same_on c.args.self.now c.turns.self c.turn.new.self c.turns.invariant.around c.turn.ensures.around;
  path = raw_again _ _ _ _ c.turns.self.counts (open_of c.turns.opened) c.turns.invariant.path c.in_ok-other.field-0 c.in-Again.other c.turn.new.self.counts c.in-Again.is
      (around_by (λ ks s. TurnsAs (raw_turn (macros_of ks) s c.turns.self.counts (open_of c.turns.opened)) (Ok c.in_ok-other.field-0) c.turn.new.self.counts) c.args.self.now c.turns.self c.turns.invariant.around c.in_ok-other.ensures.turns);
}

pub returns-clause-around : goal.returns-clause-around
returns-clause-around c = c.turns.invariant.around
