-- Data by their parts.
use Rattle.std.proofs.Common.{◌≡◌, ◌≢◌, ℕ, ◌-◌, ◌<◌, ◌≤◌, List, [], ◌∷◌, length, take, drop, get_or, Some, None, refl, ap, ◌∙◌, sym, arith, rules}
use Rattle.std.proofs.lemmas.List.{take_all, length-drop}
use Rattle.scheme_data.specs.Forms.{Form, Forms, atom, symbol, listed, dotted, vector, form, form_place, next}
use Rattle.scheme_data.specs.declared.datum.Place.{Place}
use Rattle.scheme_data.specs.declared.datum.Datum.{Datum}
use Rattle.scheme_data.specs.declared.datum.Datum as data_of
use Rattle.scheme_data.specs.declared.datum.Datum.TheVariants as datum
use Rattle.prim_table.specs.declared.types.Ty.{Ty}
use Rattle.module_head.specs.declared.head.Param.{Param}
use Rattle.module_head.specs.Heads.{only_name, binder, types_in, string_of, extern_of, extern_item, wrong_at_first, header, module_of}
use Rattle.module_head.specs.Shapes.{forms_of, parts_of}

pub string_here : (at : Place) (s : List ℕ) → string_of (form (datum.Str at s)) ≡ Some s
string_here at s = search (rules, data_of.the_lemmas)

pub listed_is : (d : Form) (ds : Forms) → Some ds ≡ parts_of d → d ≡ listed (form_place d) ds
listed_is (atom at a) ds e = absurd (cc)
listed_is (symbol at x m) ds e = absurd (cc)
listed_is (dotted at es d) ds e = absurd (cc)
listed_is (vector at es) ds e = absurd (cc)
listed_is (listed at es) ds e = let same : ds ≡ es = cc in ap (listed at) (sym same)

-- `&xs[i..]`
rest_is : {A : Type 0} (i : ℕ) (xs : List A) → take (length xs - i) (drop i xs) ≡ drop i xs
rest_is i xs = take_all (length xs - i) (drop i xs) (omega (arith, length-drop i xs))

-- `rest` of `[first, rest @ ..]`
abbrev pub rest_of : List Datum → List Datum
rest_of ds = take (length ds - 1) (drop 1 ds)

all_one : (ds : List Datum) (a : Datum) → 1 ≤ length ds → a ≡ get_or ds 0 a → forms_of ds ≡ next (form a) (forms_of (rest_of ds))
all_one [] a l e = absurd (omega arith)
all_one (x ∷ ds) a l e =
    let rest : rest_of (x ∷ ds) ≡ ds = rest_is 1 (x ∷ ds) in
    ap (λ (x : Datum). next (form x) (forms_of ds)) (sym e) ∙ ap (λ (ds : List Datum). next (form a) (forms_of ds)) (sym rest)

-- a list that matches `[first, rest @ ..]`
pub one_listed : (d : Form) (ds : List Datum) (a : Datum) → Some (forms_of ds) ≡ parts_of d → 1 ≤ length ds → a ≡ get_or ds 0 a
    → d ≡ listed (form_place d) (next (form a) (forms_of (rest_of ds)))
one_listed d ds a p l e = listed_is d (forms_of ds) p ∙ ap (listed (form_place d)) (all_one ds a l e)

pub no_only_name : (ds : List Datum) → length ds ≢ 1 → None ≡ only_name (forms_of ds)
no_only_name [] n = refl
no_only_name (a ∷ []) n = absurd (n (omega arith))
no_only_name (a ∷ b ∷ ds) n = refl

-- Externs ---------------------------------------------------------------------------------------

no_extern_of : (at : Place) (ds : List Datum) → length ds ≢ 3 → None ≡ extern_item (listed at (forms_of ds))
no_extern_of at [] n = refl
no_extern_of at (a ∷ []) n = refl
no_extern_of at (a ∷ b ∷ []) n = refl
no_extern_of at (a ∷ b ∷ c ∷ []) n = absurd (n (omega arith))
no_extern_of at (a ∷ b ∷ c ∷ d ∷ ds) n = refl

pub no_extern : (d : Form) (ds : List Datum) → Some (forms_of ds) ≡ parts_of d → length ds ≢ 3 → None ≡ extern_item d
no_extern d ds p n = no_extern_of (form_place d) ds n ∙ sym (ap extern_item (listed_is d (forms_of ds) p))

extern_parts : (at : Place) (ds : List Datum) (x y z : Datum) → length ds ≡ 3 → x ≡ get_or ds 0 x → y ≡ get_or ds 1 y → z ≡ get_or ds 2 z
    → extern_item (listed at (forms_of ds)) ≡ extern_of at (binder (form x)) (types_in (form y)) (string_of (form z))
extern_parts at [] x y z l e f g = absurd (omega arith)
extern_parts at (a ∷ []) x y z l e f g = absurd (omega arith)
extern_parts at (a ∷ b ∷ []) x y z l e f g = absurd (omega arith)
extern_parts at (a ∷ b ∷ c ∷ []) x y z l e f g =
    ap (λ (a : Datum). extern_of at (binder (form a)) (types_in (form b)) (string_of (form c))) (sym e)
    ∙ ap (λ (b : Datum). extern_of at (binder (form x)) (types_in (form b)) (string_of (form c))) (sym f)
    ∙ ap (λ (c : Datum). extern_of at (binder (form x)) (types_in (form y)) (string_of (form c))) (sym g)
extern_parts at (a ∷ b ∷ c ∷ d ∷ ds) x y z l e f g = absurd (omega arith)

pub extern_is : (d : Form) (ds : List Datum) (x y z : Datum) (at : Place) (f : Param) (ts : List Ty) (s t : List ℕ) → Some (forms_of ds) ≡ parts_of d → length ds ≡ 3
    → x ≡ get_or ds 0 x → y ≡ get_or ds 1 y → z ≡ get_or ds 2 z → at ≡ form_place d → Some f ≡ binder (form x) → Some ts ≡ types_in (form y) → Some s ≡ string_of (form z) → t ≡ s
    → Some (record { at = at; name = f.name; ty = f.ty; params = ts; c_name = t }) ≡ extern_item d
extern_is d ds x y z at f ts s t p l e g h i j k m n =
    ap (λ t. extern_of at (Some f) (Some ts) (Some t)) n
    ∙ ap (λ at. extern_of at (Some f) (Some ts) (Some s)) i
    ∙ ap (λ f. extern_of (form_place d) f (Some ts) (Some s)) j
    ∙ ap (λ ts. extern_of (form_place d) (binder (form x)) ts (Some s)) k
    ∙ ap (λ s. extern_of (form_place d) (binder (form x)) (types_in (form y)) s) m
    ∙ sym (ap extern_item (listed_is d (forms_of ds) p) ∙ extern_parts (form_place d) ds x y z l e g h)

-- The module form -------------------------------------------------------------------------------

no_module_below : (at : Place) (ds : List Datum) → length ds < 2 → module_of (listed at (forms_of ds)) ≡ wrong_at_first (header at)
no_module_below at [] l = refl
no_module_below at (a ∷ []) l = refl
no_module_below at (a ∷ b ∷ ds) l = absurd (omega arith)

pub no_module_form : (d : Form) (ds : List Datum) (at : Place) → Some (forms_of ds) ≡ parts_of d → length ds < 2 → at ≡ form_place d → module_of d ≡ wrong_at_first (header at)
no_module_form d ds at p l e =
    ap module_of (listed_is d (forms_of ds) p) ∙ no_module_below (form_place d) ds l ∙ ap (λ at. wrong_at_first (header at)) (sym e)
