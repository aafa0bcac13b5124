use Rattle.std.proofs.Common.{ap, sym, arith, map, [], List, drop}
use Rattle.std.proofs.lemmas.Result.{err_from_is_err_and}
use Rattle.std.proofs.lemmas.List.{drop_all}
use Rattle.scheme_data.specs.Forms.{form, forms}
use Rattle.scheme_data.specs.declared.datum.Datum.{Datum}
use Rattle.syntax_rules.specs.Macros.{literals_of}
use Rattle.syntax_rules.proofs.Dots.{forms_at}
use Rattle.syntax_rules.proofs.Literals.{literals_stop, literals_on, literals_end}
use Rattle.syntax_rules.proofs.reading.read_literals.Goals as goal

pub loop-d-init : goal.loop-d-init
loop-d-init c = ap (λ ls. literals_of ls (forms (map form c.args.ds.now))) (sym c.new-literals.ensures)

pub returns-in_default : goal.returns-in_default
returns-in_default c = literals_stop [] c.loop-d.literals (forms (map form c.args.ds.now)) (forms (map form (drop c.loop-d.d-index c.args.ds.now))) _ c.d-item.result c.loop-d.invariant
    (forms_at c.args.ds.now c.loop-d.d-index c.d-item.result (omega arith) c.d-item.is) c.in_default.not-Sym

pub returns-in_err-insert : goal.returns-in_err-insert
returns-in_err-insert c = let p = err_from_is_err_and c.from_residual.result c.from_residual.ensures.1 in rw p.1 tt

pub loop-d-preserved : goal.loop-d-preserved
loop-d-preserved c = literals_on [] c.loop-d.literals c.insert.new.self (forms (map form c.args.ds.now)) (forms (map form (drop c.loop-d.d-index c.args.ds.now))) _ c.d-item.result
    c.in-Sym.field-0 c.in-Sym.name c.as_bytes.result.now c.in-Sym.field-2 c.in_ok-insert.field-0 c.loop-d.invariant
    (forms_at c.args.ds.now c.loop-d.d-index c.d-item.result (omega arith) c.d-item.is) c.in-Sym.is c.as_bytes.ensures c.in_ok-insert.ensures.added c.in_ok-insert.ensures.ok

pub returns : goal.returns
returns c = literals_end [] c.loop-d.literals (forms (map form c.args.ds.now)) (forms (map form (drop c.loop-d.d-index c.args.ds.now))) c.loop-d.invariant
    (ap (λ (ds : List Datum). forms (map form ds)) (drop_all c.loop-d.d-index c.args.ds.now (omega arith)))
