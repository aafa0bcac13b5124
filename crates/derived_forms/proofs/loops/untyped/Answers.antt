use Rattle.derived_forms.proofs.NamedForms.{bare_none, bare_some}
use Rattle.derived_forms.proofs.loops.untyped.Goals as goal

pub returns-in-None : goal.returns-in-None
returns-in-None c = bare_none c.args.datum.now c.in-Sym.at c.in-Sym.name c.as_bytes.result.now c.in-Sym.mark c.in-Sym.is c.as_bytes.ensures (c.in-None.ensures {u = tt})

pub returns-in_ok-name-in-Some : goal.returns-in_ok-name-in-Some
returns-in_ok-name-in-Some c = bare_some c.args.datum.now c.in-Sym.at c.in-Sym.name c.as_bytes.result.now c.in_ok-name-in-Some.name c.in-Sym.mark _ c.in-Sym.is c.as_bytes.ensures (c.in-Some.ensures {u = tt}) (c.in_ok-name-in-Some.ensures {u = tt})
