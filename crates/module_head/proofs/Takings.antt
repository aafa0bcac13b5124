-- What a reading takes, item by item.
use Rattle.std.proofs.Common.{◌≡◌, Bool, true, false, not, if◌then◌else◌, List, [], ◌∷◌, ◌++◌, ℕ, Option, Some, None, Err, sym, ap, subst, ◌∙◌}
use Rattle.scheme_data.specs.Forms.{Form, form_place}
use Rattle.scheme_data.specs.declared.datum.Place.{Place}
use Rattle.scheme_data.proofs.DistinctNames.{there, absent, inserted}
use Rattle.name_table.specs.Names.{has_name}
use Rattle.module_head.specs.declared.head.Entry.{Entry}
use Rattle.module_head.specs.declared.head.Extern.{Extern}
use Rattle.module_head.specs.declared.head.Import.{Import}
use Rattle.module_head.specs.declared.error.HeadErr.{HeadErr}
use Rattle.module_head.specs.declared.error.HeadErr.TheVariants.{Header, Duplicate, Memory}
use Rattle.module_head.specs.declared.reading.Reading.{Reading}
use Rattle.module_head.specs.Heads.{Part, exported, kept, foreign, or_wrong, entry, extern_item, export_part, static_part, extern_part, header, duplicate}
use Rattle.module_head.specs.Steps.{Step, on, off, after, unless, with_declared, declare, take, bare, Follows}

pub bare_of : (name : List ℕ) (is : List Import) (es ss : List Entry) (xs : List Extern) (ds : List (List ℕ)) → is ≡ [] → es ≡ [] → ss ≡ [] → xs ≡ [] → ds ≡ []
    → ◌≡◌ {A = Reading} (record { head = record { name = name; imports = is; exports = es; statics = ss; externs = xs; main = None }; declared = ds }) (bare name)
bare_of name is es ss xs ds i e s x d =
    ap (λ is. record { head = record { name = name; imports = is; exports = es; statics = ss; externs = xs; main = None }; declared = ds }) i
    ∙ ap (λ es. record { head = record { name = name; imports = []; exports = es; statics = ss; externs = xs; main = None }; declared = ds }) e
    ∙ ap (λ ss. record { head = record { name = name; imports = []; exports = []; statics = ss; externs = xs; main = None }; declared = ds }) s
    ∙ ap (λ xs. record { head = record { name = name; imports = []; exports = []; statics = []; externs = xs; main = None }; declared = ds }) x
    ∙ ap (λ ds. record { head = (bare name).head; declared = ds }) d

-- Declared names ------------------------------------------------------------------------------

pub declared_twice : (r : Reading) (x y : List ℕ) (b : Bool) → b ≡ not (has_name r.declared x) → b ≡ false → y ≡ x → declare r x ≡ off (duplicate y)
declared_twice r x y b e f g =
    ap (λ t. unless t (duplicate x) (with_declared r x)) (there b r.declared x e f) ∙ ap (λ x. off (duplicate x)) (sym g)

pub declared_once : (r : Reading) (x : List ℕ) (b : Bool) (names : List (List ℕ)) → b ≡ not (has_name r.declared x) → names ≡ (if b then r.declared ++ x ∷ [] else r.declared) → b ≡ true
    → declare r x ≡ on (record { head = r.head; declared = names })
declared_once r x b names e i f =
    ap (λ t. unless t (duplicate x) (with_declared r x)) (absent b r.declared x e f) ∙ ap (λ ns. on (record { head = r.head; declared = ns })) (sym (inserted b r.declared names x i f))

after_off : (o : Step) (F : Reading → Step) (s : Reading) (e : HeadErr) → Follows {A = Unit {0}} o (Err e) s → Follows {A = Unit {0}} (after o F) (Err e) s
after_off o F s (Header at) h = ap (λ o. after o F) h
after_off o F s (Duplicate x) h = ap (λ o. after o F) h
after_off o F s Memory h = tt

-- Items ---------------------------------------------------------------------------------------

pub wrong_item : {X : Type 0} (r : Reading) (f : X → Part) (at here : Place) (o p : Option X) → o ≡ p → o ≡ None → here ≡ at → take r (or_wrong at f p) ≡ off (header here)
wrong_item r f at here o p e n h = ap (λ o. take r (or_wrong at f o)) (sym e ∙ n) ∙ ap (λ at. off (header at)) (sym h)

right_item : {X : Type 0} (f : X → Part) (at : Place) (o p : Option X) (x : X) → o ≡ p → o ≡ Some x → or_wrong at f p ≡ f x
right_item f at o p x e s = ap (or_wrong at f) (sym e ∙ s)

abbrev with_export : Entry → Reading → Step
with_export e s = on (record s { head = record s.head { exports = s.head.exports ++ e ∷ [] } })

abbrev with_static : Entry → Reading → Step
with_static e s = on (record s { head = record s.head { statics = s.head.statics ++ e ∷ [] } })

abbrev with_extern : Extern → Reading → Step
with_extern e s = on (record s { head = record s.head { externs = s.head.externs ++ e ∷ [] } })

pub export_off : (r s : Reading) (d : Form) (o : Option Entry) (x : Entry) (e : HeadErr) → o ≡ entry d → o ≡ Some x → Follows {A = Unit {0}} (declare r x.name) (Err e) s
    → Follows {A = Unit {0}} (take r (export_part d)) (Err e) s
export_off r s d o x e g is h =
    subst (λ p. Follows {A = Unit {0}} (take r p) (Err e) s) (sym (right_item exported (form_place d) o (entry d) x g is)) (after_off (declare r x.name) (with_export x) s e h)

pub export_on : (r s : Reading) (d : Form) (o : Option Entry) (x : Entry) (xs : List Entry) → o ≡ entry d → o ≡ Some x → declare r x.name ≡ on s → xs ≡ s.head.exports ++ x ∷ []
    → take r (export_part d) ≡ on (record s { head = record s.head { exports = xs } })
export_on r s d o x xs g is h e =
    ap (take r) (right_item exported (form_place d) o (entry d) x g is) ∙ ap (λ o. after o (with_export x)) h ∙ ap (λ xs. on (record s { head = record s.head { exports = xs } })) (sym e)

pub static_off : (r s : Reading) (d : Form) (o : Option Entry) (x : Entry) (e : HeadErr) → o ≡ entry d → o ≡ Some x → Follows {A = Unit {0}} (declare r x.name) (Err e) s
    → Follows {A = Unit {0}} (take r (static_part d)) (Err e) s
static_off r s d o x e g is h =
    subst (λ p. Follows {A = Unit {0}} (take r p) (Err e) s) (sym (right_item kept (form_place d) o (entry d) x g is)) (after_off (declare r x.name) (with_static x) s e h)

pub static_on : (r s : Reading) (d : Form) (o : Option Entry) (x : Entry) (xs : List Entry) → o ≡ entry d → o ≡ Some x → declare r x.name ≡ on s → xs ≡ s.head.statics ++ x ∷ []
    → take r (static_part d) ≡ on (record s { head = record s.head { statics = xs } })
static_on r s d o x xs g is h e =
    ap (take r) (right_item kept (form_place d) o (entry d) x g is) ∙ ap (λ o. after o (with_static x)) h ∙ ap (λ xs. on (record s { head = record s.head { statics = xs } })) (sym e)

pub extern_off : (r s : Reading) (d : Form) (o : Option Extern) (x : Extern) (e : HeadErr) → o ≡ extern_item d → o ≡ Some x → Follows {A = Unit {0}} (declare r x.name) (Err e) s
    → Follows {A = Unit {0}} (take r (extern_part d)) (Err e) s
extern_off r s d o x e g is h =
    subst (λ p. Follows {A = Unit {0}} (take r p) (Err e) s) (sym (right_item foreign (form_place d) o (extern_item d) x g is)) (after_off (declare r x.name) (with_extern x) s e h)

pub extern_on : (r s : Reading) (d : Form) (o : Option Extern) (x : Extern) (xs : List Extern) → o ≡ extern_item d → o ≡ Some x → declare r x.name ≡ on s → xs ≡ s.head.externs ++ x ∷ []
    → take r (extern_part d) ≡ on (record s { head = record s.head { externs = xs } })
extern_on r s d o x xs g is h e =
    ap (take r) (right_item foreign (form_place d) o (extern_item d) x g is) ∙ ap (λ o. after o (with_extern x)) h ∙ ap (λ xs. on (record s { head = record s.head { externs = xs } })) (sym e)
