-- What stands in the place of a form whose head is no macro and no special form.
use Rattle.scheme_data.specs.Forms.{Form, atom, symbol, listed, dotted, vector, end, next}
use Rattle.core_forms.specs.Mid.{constant, call, node, none}
use Rattle.core_forms.specs.Table.{Turn, becomes, refuses, raws}
use Rattle.core_forms.specs.Rewriting.{name_turn}
use Rattle.core_forms.specs.declared.counting.Counts.{Counts}
use Rattle.core_forms.specs.declared.error.ExpandErr.TheVariants as fault

abbrev pub plain_turn : Counts → Form → Turn
plain_turn n (atom at a) = becomes n (node at (constant (atom at a)) none)
plain_turn n (vector at ds) = becomes n (node at (constant (vector at ds)) none)
plain_turn n (symbol at x m) = name_turn n at x m
plain_turn n (listed at end) = refuses (fault.Form at)
plain_turn n (listed at (next d ds)) = becomes n (node at call (raws 1 (next d ds) none))
plain_turn n (dotted at ds d) = refuses (fault.Form at)
