-- Whether a form begins with the word `define`.
use Rattle.std.proofs.Common.{◌≡◌, ◌<◌, ◌≤◌, Bool, false, List, [], ◌∷◌, length, get_or, Some, None, refl, sym, ap, ◌∙◌, codes, arith}
use Rattle.scheme_data.specs.Data.{Plain, Number, Symbol, Character, Truth, Unspecified, String, Dotted, Vector, Listed, plain, plain_all}
use Rattle.scheme_data.specs.declared.datum.Datum.{Datum}
use Rattle.resolver.specs.BuiltHeads.{says, symbol_of}
use Rattle.resolver.specs.DatumParts.{parts_of}
use Rattle.resolver.specs.Drafts.{begins_definition}
use Rattle.resolver.proofs.HeadLayers.{listed_is, one_listed}

pub no_list_begins : (d : Plain) → None ≡ parts_of d → false ≡ begins_definition d
no_list_begins (Number n) e = refl
no_list_begins (Symbol name mark) e = refl
no_list_begins (Character b) e = refl
no_list_begins (Truth t) e = refl
no_list_begins Unspecified e = refl
no_list_begins (String text) e = refl
no_list_begins (Dotted es tail) e = refl
no_list_begins (Vector es) e = refl
no_list_begins (Listed es) e = absurd (cc)

empty_begins : (ds : List Datum) → length ds < 1 → false ≡ begins_definition (Listed (plain_all ds))
empty_begins [] l = refl
empty_begins (a ∷ ds) l = absurd (omega arith)

pub none_begins : (d : Plain) (ds : List Datum) → Some (plain_all ds) ≡ parts_of d → length ds < 1 → false ≡ begins_definition d
none_begins d ds e l = empty_begins ds l ∙ sym (ap begins_definition (listed_is d (plain_all ds) e))

pub first_begins : (d : Plain) (ds : List Datum) (a : Datum) (r : Bool) → Some (plain_all ds) ≡ parts_of d → 1 ≤ length ds → a ≡ get_or ds 0 a
    → r ≡ says (symbol_of (plain a)) (codes "define") → r ≡ begins_definition d
first_begins d ds a r e l g h = h ∙ sym (ap begins_definition (one_listed d ds a e l g))
