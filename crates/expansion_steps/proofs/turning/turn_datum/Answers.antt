use Rattle.std.proofs.Common.{sym, ap, ◌∙◌}
use Rattle.scheme_data.specs.Forms.{form}
use Rattle.expansion_steps.specs.Heads.{macros_of, meaning_of}
use Rattle.expansion_steps.proofs.Turns.{special-turns, plain-turns}
use Rattle.expansion_steps.proofs.turning.turn_datum.Goals as goal

pub returns-in-Special : goal.returns-in-Special
returns-in-Special c =
    let b = c.in_ok-at-in-Special.field-0 in
    special-turns (macros_of c.args.ks.now) c.args.s.now c.args.n.now c.turn_row.new.n (form c.args.datum) c.in-Special.keyword b.at b.forms c.turn_row.result
    (ap meaning_of (sym c.in-Special.is) ∙ c.in_ok-rules.ensures) (c.in_ok-at-in-Special.ensures {u = tt}).place (c.in_ok-at-in-Special.ensures {u = tt}).parts c.turn_row.ensures

pub returns : goal.returns
returns c =
    plain-turns (macros_of c.args.ks.now) c.args.s.now c.args.n.now (form c.args.datum) c.plain.result c.as_core.result
    (ap meaning_of (sym c.in-Plain.is) ∙ c.in_ok-rules.ensures) (c.plain.ensures c.args.n.now) c.as_core.ensures
