-- What the readers of shapes give.
use Rattle.std.specs.Prelude.{List, map, Option, Some, None}
use Rattle.scheme_data.specs.Forms.{Form, Forms, listed, form, forms}
use Rattle.scheme_data.specs.declared.datum.Datum.{Datum}

abbrev pub forms_of : List Datum → Forms
forms_of ds = forms (map form ds)

-- the parts of a list; a dotted list is none
abbrev pub parts_of : Form → Option Forms
parts_of (listed at ds) = Some ds
parts_of _ = None
