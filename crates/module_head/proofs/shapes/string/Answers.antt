use Rattle.std.proofs.Common.{ap, sym, ◌∙◌}
use Rattle.module_head.proofs.Layers.{string_here}
use Rattle.module_head.specs.Heads.{string_of}
use Rattle.scheme_data.specs.Forms.{form}
use Rattle.scheme_data.specs.declared.datum.Datum.{Datum}
use Rattle.module_head.proofs.shapes.string.Goals as goal

pub returns-in-Str : goal.returns-in-Str
returns-in-Str c = sym (string_here c.in-Str.field-0 c.in-Str.text) ∙ ap (λ (d : Datum). string_of (form d)) (sym c.in-Str.is)
