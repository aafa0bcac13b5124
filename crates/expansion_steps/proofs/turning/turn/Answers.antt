use Rattle.std.proofs.Common.{◌≡◌, sym, subst, codes}
use Rattle.scheme_data.specs.Forms.{form, listed, next}
use Rattle.core_forms.specs.Table.{core, refuses}
use Rattle.core_forms.specs.Rewriting.{raw_turn}
use Rattle.core_forms.specs.Code.{data_of, Refusing}
use Rattle.core_forms.specs.Working.{open_of, TurnsAs}
use Rattle.core_forms.specs.declared.work.Open.{Open}
use Rattle.core_forms.specs.declared.work.Open.TheVariants as open_form
use Rattle.expansion_steps.specs.Heads.{macros_of}
use Rattle.expansion_steps.proofs.Turns.{row-turns, star-fails, cored, both-made}
use Rattle.expansion_steps.proofs.turning.turn.Goals as goal

pub returns-in-Row : goal.returns-in-Row
returns-in-Row c =
    subst (λ (o : Open). TurnsAs (raw_turn (macros_of c.args.ks.now) c.args.s.now c.args.n.now (open_of o)) c.turn_row.result c.turn_row.new.n) (sym c.in-Row.is)
    (row-turns (macros_of c.args.ks.now) c.args.s.now c.args.n.now c.turn_row.new.n c.in-Row.at c.in-Row.keyword (data_of c.in-Row.forms) c.turn_row.result c.turn_row.ensures)

pub returns-in-Err : goal.returns-in-Err
returns-in-Err c =
    subst (λ (o : Open). Refusing (λ e. raw_turn (macros_of c.args.ks.now) c.args.s.now c.args.n.now (open_of o) ≡ refuses e) c.in-Err.e) (sym c.in-LetStar.is)
    (star-fails (macros_of c.args.ks.now) c.args.s.now c.args.n.now c.in-LetStar.at (next (listed c.in-LetStar.at (data_of c.in-LetStar.bindings)) (data_of c.in-LetStar.forms)) c.in-Err.e
    (c.in-Err.ensures {u = tt} c.args.n.now c.in-LetStar.at))

pub returns-in-LetFirst : goal.returns-in-LetFirst
returns-in-LetFirst c =
    let a = c.in-LetFirst in
    cored (macros_of c.args.ks.now) c.args.s.now c.args.n.now c.args.opened (open_form.LetFirst a.at a.first a.bindings a.forms) c.let_first.result c.as_core.result a.is (c.let_first.ensures c.args.n.now) c.as_core.ensures

pub returns-in-Choice : goal.returns-in-Choice
returns-in-Choice c =
    let a = c.in-Choice in
    cored (macros_of c.args.ks.now) c.args.s.now c.args.n.now c.args.opened (open_form.Choice a.at a.test a.arm a.keyword a.forms) c.choice.result c.as_core-in-Choice.result a.is
    (c.choice.ensures c.args.n.now) c.as_core-in-Choice.ensures

pub returns-in-Both : goal.returns-in-Both
returns-in-Both c =
    let a = c.in-Both in
    cored (macros_of c.args.ks.now) c.args.s.now c.args.n.now c.args.opened (open_form.Both a.at a.test a.forms) c.choice-in-Both.result c.as_core-in-Both.result a.is
    (both-made c.args.n.now a.at (form a.test) (core a.at (codes "and") (data_of a.forms)) c.choice-in-Both.result (c.choice-in-Both.ensures c.args.n.now)) c.as_core-in-Both.ensures

pub returns-in-Kept : goal.returns-in-Kept
returns-in-Kept c =
    let a = c.in-Kept in
    cored (macros_of c.args.ks.now) c.args.s.now c.args.n.now c.args.opened (open_form.Kept a.at a.bound a.arm a.keyword a.forms) c.kept.result c.as_core-in-Kept.result a.is
    (c.kept.ensures c.args.n.now) c.as_core-in-Kept.ensures
