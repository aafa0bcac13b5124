use Rattle.derived_forms.proofs.NamedForms.{typed_symbol}
use Rattle.derived_forms.proofs.loops.is_typed.Goals as goal

pub returns-in-Sym : goal.returns-in-Sym
returns-in-Sym c = typed_symbol c.args.datum.now c.in-Sym.field-0 c.in-Sym.name c.as_bytes.result.now c.in-Sym.field-2 c.has_type.result c.in-Sym.is c.as_bytes.ensures c.has_type.ensures
