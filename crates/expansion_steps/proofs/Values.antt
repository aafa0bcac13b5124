-- A definition of a variable while its value is settled.
use Rattle.std.proofs.Common.{◌≡◌, Bool, true, false, if◌then◌else◌, List, [], ◌∷◌, Option, None, Some, Ok, Err, refl, sym, ap, ap₂, subst, ◌∙◌}
use Rattle.std.specs.Prelude.{is_none}
use Rattle.scheme_data.specs.declared.datum.Place.{Place}
use Rattle.scheme_data.specs.Forms.{Form, Forms, atom, symbol, listed, dotted, vector, end, next, form, form_place}
use Rattle.syntax_rules.specs.Trees.{Macro}
use Rattle.core_forms.specs.Scope.{Marked, special, head_meaning, keyword}
use Rattle.core_forms.specs.Names.{binder_of}
use Rattle.core_forms.specs.Bodies.{Settled, again, stuck, is_core, is_plain, of_variable, of_function, breach, function_at, settled, instead, look, look_as, define_look, value_look, value, procedure, definable, definition_of}
use Rattle.core_forms.specs.declared.core_form.Binder.{Binder}
use Rattle.core_forms.specs.declared.counting.Counts.{Counts}
use Rattle.core_forms.specs.declared.error.ExpandErr.{ExpandErr}
use Rattle.core_forms.specs.declared.error.ExpandErr.TheVariants as fault
use Rattle.core_forms.specs.declared.words.Keyword.TheVariants as key
use Rattle.expansion_steps.specs.Steps.{Settles, Looks, IsLambda, IsOther, IsStuck, IsLeft, IsNoValue, SettlesAs, Finds, Shows, IsKept, LooksAs, is_other}
use Rattle.expansion_steps.specs.declared.looking.Settled as code
use Rattle.expansion_steps.specs.declared.looking.Settled.TheVariants as value_form
use Rattle.scheme_data.specs.declared.datum.Datum.{Datum}
use Rattle.core_forms.specs.Code.{data_of}
use Rattle.core_forms.specs.Working.{function_of, open_of}
use Rattle.core_forms.specs.declared.work.Open.{Open}
use Rattle.expansion_steps.specs.Decided.{second_in}
use Rattle.expansion_steps.proofs.Definings.{second_is}

-- a definition of a variable with this value
pub record DefinesValue (ks : List Macro) (s : List Marked) (d : Form) (at : Place) (x : Binder) (w nm e : Form) : Type 0 where
  pub head : head_meaning ks s d ≡ special key.Define
  pub place : form_place d ≡ at
  pub is : definition_of d ≡ Some (value x w nm e)

-- a definition that is taken apart
pub record IsValue (w0 s : Form) (x : Binder) (w nm e f : Form) : Type 0 where
  pub word : w0 ≡ w
  pub name : s ≡ nm
  pub again_is : definable (binder_of true nm) (λ y. value y w nm f) ≡ Some (value x w nm f)

-- a definition that is taken apart, with the value that it has
pub record IsWhole (w0 s : Form) (ds : Forms) (w nm e : Form) : Type 0 where
  pub word : w0 ≡ w
  pub name : s ≡ nm
  pub value : ds ≡ next e end

not_procedure_by : (b : Bool) (y x : Binder) (ps : Forms) (w nm e : Form) {A : Type 0} → (if b then Some (procedure y ps) else None) ≡ Some (value x w nm e) → A
not_procedure_by true y x ps w nm e h = absurd (cc)
not_procedure_by false y x ps w nm e h = absurd (cc)

not_procedure : (o : Option Binder) (x : Binder) (ps : Forms) (w nm e : Form) {A : Type 0} → definable o (λ y. procedure y ps) ≡ Some (value x w nm e) → A
not_procedure None x ps w nm e h = absurd (cc)
not_procedure (Some y) x ps w nm e h = not_procedure_by (is_none (keyword y.name)) y x ps w nm e h

one_value_by : (b : Bool) (y x : Binder) (w0 s e0 w nm e f : Form) → (if b then Some (value y w0 s e0) else None) ≡ Some (value x w nm e)
    → (w0 ≡ w) × (s ≡ nm) × ((if b then Some (value y w nm f) else None) ≡ Some (value x w nm f))
one_value_by true y x w0 s e0 w nm e f h = (cc, cc, let q : y ≡ x = cc in ap (λ y. Some (value y w nm f)) q)
one_value_by false y x w0 s e0 w nm e f h = absurd (cc)

one_value : (o : Option Binder) (x : Binder) (w0 s e0 w nm e f : Form) → definable o (λ y. value y w0 s e0) ≡ Some (value x w nm e)
    → (w0 ≡ w) × (s ≡ nm) × (definable o (λ y. value y w nm f) ≡ Some (value x w nm f))
one_value None x w0 s e0 w nm e f h = absurd (cc)
one_value (Some y) x w0 s e0 w nm e f h = one_value_by (is_none (keyword y.name)) y x w0 s e0 w nm e f h

whole_by : (b : Bool) (y x : Binder) (w0 s e0 w nm e : Form) → (if b then Some (value y w0 s e0) else None) ≡ Some (value x w nm e) → IsWhole w0 s (next e0 end) w nm e
whole_by true y x w0 s e0 w nm e h = record { word = cc; name = cc; value = let q : e0 ≡ e = cc in ap (λ (f : Form). next f end) q }
whole_by false y x w0 s e0 w nm e h = absurd (cc)

whole_value : (o : Option Binder) (x : Binder) (w0 s e0 w nm e : Form) → definable o (λ y. value y w0 s e0) ≡ Some (value x w nm e) → IsWhole w0 s (next e0 end) w nm e
whole_value None x w0 s e0 w nm e h = absurd (cc)
whole_value (Some y) x w0 s e0 w nm e h = whole_by (is_none (keyword y.name)) y x w0 s e0 w nm e h

same_value : (x : Binder) (w0 s e0 w nm e f : Form) → definable (binder_of true s) (λ y. value y w0 s e0) ≡ Some (value x w nm e) → IsValue w0 s x w nm e f
same_value x w0 s e0 w nm e f h =
    let p = one_value (binder_of true s) x w0 s e0 w nm e f h in
    record { word = p.0; name = p.1; again_is = subst (λ (t : Form). definable (binder_of true t) (λ y. value y w nm f) ≡ Some (value x w nm f)) p.1 p.2 }

by_second : (w0 s : Form) (ds : Forms) (x : Binder) (w nm e f : Form) → second_in w0 s ds ≡ Some (value x w nm e) → IsValue w0 s x w nm e f
by_second w0 (listed q (next g xs)) end x w nm e f h = absurd (cc)
by_second w0 (listed q (next g xs)) (next b bs) x w nm e f h = not_procedure (binder_of true g) x (next (listed q xs) (next b bs)) w nm e h
by_second w0 (listed q end) ds x w nm e f h = absurd (cc)
by_second w0 (atom q a) end x w nm e f h = absurd (cc)
by_second w0 (atom q a) (next e0 end) x w nm e f h = same_value x w0 (atom q a) e0 w nm e f h
by_second w0 (atom q a) (next e0 (next g gs)) x w nm e f h = absurd (cc)
by_second w0 (symbol q y m) end x w nm e f h = absurd (cc)
by_second w0 (symbol q y m) (next e0 end) x w nm e f h = same_value x w0 (symbol q y m) e0 w nm e f h
by_second w0 (symbol q y m) (next e0 (next g gs)) x w nm e f h = absurd (cc)
by_second w0 (dotted q es t) end x w nm e f h = absurd (cc)
by_second w0 (dotted q es t) (next e0 end) x w nm e f h = same_value x w0 (dotted q es t) e0 w nm e f h
by_second w0 (dotted q es t) (next e0 (next g gs)) x w nm e f h = absurd (cc)
by_second w0 (vector q es) end x w nm e f h = absurd (cc)
by_second w0 (vector q es) (next e0 end) x w nm e f h = same_value x w0 (vector q es) e0 w nm e f h
by_second w0 (vector q es) (next e0 (next g gs)) x w nm e f h = absurd (cc)

whole_second : (w0 s : Form) (ds : Forms) (x : Binder) (w nm e : Form) → second_in w0 s ds ≡ Some (value x w nm e) → IsWhole w0 s ds w nm e
whole_second w0 (listed q (next g xs)) end x w nm e h = absurd (cc)
whole_second w0 (listed q (next g xs)) (next b bs) x w nm e h = not_procedure (binder_of true g) x (next (listed q xs) (next b bs)) w nm e h
whole_second w0 (listed q end) ds x w nm e h = absurd (cc)
whole_second w0 (atom q a) end x w nm e h = absurd (cc)
whole_second w0 (atom q a) (next e0 end) x w nm e h = whole_value (binder_of true (atom q a)) x w0 (atom q a) e0 w nm e h
whole_second w0 (atom q a) (next e0 (next g gs)) x w nm e h = absurd (cc)
whole_second w0 (symbol q y m) end x w nm e h = absurd (cc)
whole_second w0 (symbol q y m) (next e0 end) x w nm e h = whole_value (binder_of true (symbol q y m)) x w0 (symbol q y m) e0 w nm e h
whole_second w0 (symbol q y m) (next e0 (next g gs)) x w nm e h = absurd (cc)
whole_second w0 (dotted q es t) end x w nm e h = absurd (cc)
whole_second w0 (dotted q es t) (next e0 end) x w nm e h = whole_value (binder_of true (dotted q es t)) x w0 (dotted q es t) e0 w nm e h
whole_second w0 (dotted q es t) (next e0 (next g gs)) x w nm e h = absurd (cc)
whole_second w0 (vector q es) end x w nm e h = absurd (cc)
whole_second w0 (vector q es) (next e0 end) x w nm e h = whole_value (binder_of true (vector q es)) x w0 (vector q es) e0 w nm e h
whole_second w0 (vector q es) (next e0 (next g gs)) x w nm e h = absurd (cc)

-- with another value it is a definition of that
abbrev is_no_list : Form → Bool
is_no_list (listed q es) = false
is_no_list d = true

by_name_is : (at : Place) (w s f : Form) → is_no_list s ≡ true → definition_of (listed at (next w (next s (next f end)))) ≡ definable (binder_of true s) (λ y. value y w s f)
by_name_is at w (atom q a) f h = refl
by_name_is at w (symbol q y m) f h = refl
by_name_is at w (listed q es) f h = let r : false ≡ true = h in absurd (cc)
by_name_is at w (dotted q es t) f h = refl
by_name_is at w (vector q es) f h = refl

by_name : (at : Place) (s nm : Form) (x : Binder) (w f : Form) → s ≡ nm → is_no_list s ≡ true → definable (binder_of true nm) (λ y. value y w nm f) ≡ Some (value x w nm f)
    → definition_of (listed at (next w (next nm (next f end)))) ≡ Some (value x w nm f)
by_name at s nm x w f n h g = by_name_is at w nm f (sym (ap is_no_list n) ∙ h) ∙ g

again_by : (at p : Place) (w0 s : Form) (ds : Forms) (x : Binder) (w nm e f : Form) → IsValue w0 s x w nm e f → definition_of (listed at (next w (next nm (next f end)))) ≡ Some (value x w nm f)
again_by at p w0 (listed q es) ds x w nm e f v = absurd (not_listed q es nm x w f v.name v.again_is)
  where
    not_listed : (q : Place) (es : Forms) (nm : Form) (x : Binder) (w f : Form) → listed q es ≡ nm → definable (binder_of true nm) (λ y. value y w nm f) ≡ Some (value x w nm f) → ⊥
    not_listed q es nm x w f n h =
        let g : definable (binder_of true (listed q es)) (λ y. value y w nm f) ≡ Some (value x w nm f) = subst (λ (t : Form). definable (binder_of true t) (λ y. value y w nm f) ≡ Some (value x w nm f)) (sym n) h in
        absurd (cc)
again_by at p w0 (atom q a) ds x w nm e f v = by_name at (atom q a) nm x w f v.name refl v.again_is
again_by at p w0 (symbol q y m) ds x w nm e f v = by_name at (symbol q y m) nm x w f v.name refl v.again_is
again_by at p w0 (dotted q es u) ds x w nm e f v = by_name at (dotted q es u) nm x w f v.name refl v.again_is
again_by at p w0 (vector q es) ds x w nm e f v = by_name at (vector q es) nm x w f v.name refl v.again_is

module _ (ks : List Macro) (s : List Marked) where
  head_of_word : (at p : Place) (w : Form) (ds es : Forms) → head_meaning ks s (listed at (next w ds)) ≡ head_meaning ks s (listed p (next w es))
  head_of_word at p (atom q a) ds es = refl
  head_of_word at p (symbol q x m) ds es = refl
  head_of_word at p (listed q xs) ds es = refl
  head_of_word at p (dotted q xs t) ds es = refl
  head_of_word at p (vector q xs) ds es = refl

  pub rebuilt : (d : Form) (at : Place) (x : Binder) (w nm e f : Form) → DefinesValue ks s d at x w nm e → DefinesValue ks s (listed at (next w (next nm (next f end)))) at x w nm f
  rebuilt (atom p a) at x w nm e f h = let q : None ≡ Some (value x w nm e) = h.is in absurd (cc)
  rebuilt (symbol p y m) at x w nm e f h = let q : None ≡ Some (value x w nm e) = h.is in absurd (cc)
  rebuilt (dotted p es t) at x w nm e f h = let q : None ≡ Some (value x w nm e) = h.is in absurd (cc)
  rebuilt (vector p es) at x w nm e f h = let q : None ≡ Some (value x w nm e) = h.is in absurd (cc)
  rebuilt (listed p end) at x w nm e f h = let q : None ≡ Some (value x w nm e) = h.is in absurd (cc)
  rebuilt (listed p (next w0 end)) at x w nm e f h = let q : None ≡ Some (value x w nm e) = h.is in absurd (cc)
  rebuilt (listed p (next w0 (next t ds))) at x w nm e f h =
      let v : IsValue w0 t x w nm e f = by_second w0 t ds x w nm e f (sym (second_is p w0 t ds) ∙ h.is) in
      record {
        head = head_of_word at p w (next nm (next f end)) (next t ds) ∙ (ap (λ u. head_meaning ks s (listed p (next u (next t ds)))) (sym v.word) ∙ h.head);
        place = refl;
        is = again_by at p w0 t ds x w nm e f v;
      }

  -- such a definition is its word, its name and its value
  pub stands_as : (d : Form) (at : Place) (x : Binder) (w nm e : Form) → DefinesValue ks s d at x w nm e → d ≡ listed at (next w (next nm (next e end)))
  stands_as (atom p a) at x w nm e h = let q : None ≡ Some (value x w nm e) = h.is in absurd (cc)
  stands_as (symbol p y m) at x w nm e h = let q : None ≡ Some (value x w nm e) = h.is in absurd (cc)
  stands_as (dotted p es t) at x w nm e h = let q : None ≡ Some (value x w nm e) = h.is in absurd (cc)
  stands_as (vector p es) at x w nm e h = let q : None ≡ Some (value x w nm e) = h.is in absurd (cc)
  stands_as (listed p end) at x w nm e h = let q : None ≡ Some (value x w nm e) = h.is in absurd (cc)
  stands_as (listed p (next w0 end)) at x w nm e h = let q : None ≡ Some (value x w nm e) = h.is in absurd (cc)
  stands_as (listed p (next w0 (next t ds))) at x w nm e h =
      let v : IsWhole w0 t ds w nm e = whole_second w0 t ds x w nm e (sym (second_is p w0 t ds) ∙ h.is) in
      let g : p ≡ at = h.place in
      ap (λ (p : Place). listed p (next w0 (next t ds))) g ∙ ap (λ (u : Form). listed at (next u (next t ds))) v.word ∙ ap (λ (u : Form). listed at (next w (next u ds))) v.name
      ∙ ap (λ (ds : Forms). listed at (next w (next nm ds))) v.value

  pub looks_again : (n m : Counts) (d : Form) (at : Place) (x : Binder) (w nm e f o : Form) (os : Forms) → DefinesValue ks s d at x w nm e → settled ks s n e ≡ again m f
      → look ks s n d (next o os) ≡ instead m (next (listed at (next w (next nm (next f end)))) (next o os))
  looks_again n m d at x w nm e f o os h g =
      ap (λ k. look_as k ks s n d (next o os)) h.head ∙ (ap (λ r. define_look ks s n (form_place d) r (next o os)) h.is
      ∙ (ap (λ p. value_look p x w nm e (next o os) (settled ks s n e)) h.place ∙ ap (value_look at x w nm e (next o os)) g))

  pub look_now : (n : Counts) (d : Form) (at : Place) (x : Binder) (w nm e o : Form) (os : Forms) → DefinesValue ks s d at x w nm e
      → look ks s n d (next o os) ≡ value_look at x w nm e (next o os) (settled ks s n e)
  look_now n d at x w nm e o os h =
      ap (λ k. look_as k ks s n d (next o os)) h.head ∙ (ap (λ r. define_look ks s n (form_place d) r (next o os)) h.is
      ∙ ap (λ p. value_look p x w nm e (next o os) (settled ks s n e)) h.place)

  pub record Reached (n : Counts) (d o : Form) (os : Forms) (m : Counts) (at : Place) (x : Binder) (w nm f : Form) : Type 0 where
    pub last : Form
    pub path : Looks ks s n (next d (next o os)) m (next last (next o os))
    pub defines : DefinesValue ks s last at x w nm f

  pub values_look : {n m : Counts} {e f : Form} (d : Form) (at : Place) (x : Binder) (w nm o : Form) (os : Forms) → Settles ks s n e m f → DefinesValue ks s d at x w nm e → Reached n d o os m at x w nm f
  values_look d at x w nm o os Settles.here h = record { last = d; path = Looks.here; defines = h }
  values_look d at x w nm o os (Settles.onto {n = n} {m = k} {d = e} {e = g} i q) h =
      let r = values_look (listed at (next w (next nm (next g end)))) at x w nm o os q (rebuilt d at x w nm e g h) in
      record { last = r.last; path = Looks.onto (looks_again n k d at x w nm e g o os h i) r.path; defines = r.defines }

module _ (ks : List Macro) (s : List Marked) (n m : Counts) (d : Form) (at : Place) (x : Binder) (w nm e : Form) (h : DefinesValue ks s d at x w nm e) where
  some_function : (others : List Datum) (place : Place) (behind : List Datum) → (others ≡ [] → ⊥) → IsLambda ks s n e m place behind
      → Shows ks s n (next d (data_of others)) m (of_function at (function_of (record { binder = x; at = place; forms = behind })) (data_of others))
  some_function [] place behind g v = absurd (g refl)
  some_function (o ∷ os) place behind g v =
      let r = values_look ks s d at x w nm (form o) (data_of os) v.path h in
      record {
        first = r.last;
        others = data_of (o ∷ os);
        finds = record {
          path = r.path;
          is = look_now ks s m r.last at x w nm v.last (form o) (data_of os) r.defines
              ∙ (ap (value_look at x w nm v.last (data_of (o ∷ os))) v.is
              ∙ ap₂ (λ (p : Place) (ds : Forms). of_function at (function_at x p ds) (data_of (o ∷ os))) v.place v.parts);
        };
      }

  other_look : (f : Form) (ds : Forms) (r : Settled) → is_other ks s r ≡ true → value_look at x w nm f ds r ≡ of_variable at x f ds
  other_look f ds (again k g) q = absurd (let z : false ≡ true = q in cc)
  other_look f ds (stuck g) q = absurd (let z : false ≡ true = q in cc)
  other_look f ds is_plain q = refl
  other_look f ds (is_core key.Quote) q = refl
  other_look f ds (is_core key.Lambda) q = absurd (let z : false ≡ true = q in cc)
  other_look f ds (is_core key.If) q = refl
  other_look f ds (is_core key.Set) q = refl
  other_look f ds (is_core key.Begin) q = refl
  other_look f ds (is_core key.Let) q = refl
  other_look f ds (is_core key.Letrec) q = refl
  other_look f ds (is_core key.BindExit) q = refl
  other_look f ds (is_core key.UnwindProtect) q = refl
  other_look f ds (is_core key.LetStar) q = refl
  other_look f ds (is_core key.Cond) q = refl
  other_look f ds (is_core key.Case) q = refl
  other_look f ds (is_core key.Clauses) q = refl
  other_look f ds (is_core key.And) q = refl
  other_look f ds (is_core key.Or) q = refl
  other_look f ds (is_core key.When) q = refl
  other_look f ds (is_core key.Unless) q = refl
  other_look f ds (is_core key.Do) q = refl
  other_look f ds (is_core key.Define) q = refl
  other_look f ds (is_core key.DefineInline) q = refl
  other_look f ds (is_core key.DefineSyntax) q = refl

  some_variable : (others : List Datum) (f : Form) → (others ≡ [] → ⊥) → IsOther ks s n e m f → Shows ks s n (next d (data_of others)) m (of_variable at x f (data_of others))
  some_variable [] f g v = absurd (g refl)
  some_variable (o ∷ os) f g v =
      let r = values_look ks s d at x w nm (form o) (data_of os) v.path h in
      record {
        first = r.last;
        others = data_of (o ∷ os);
        finds = record { path = r.path; is = look_now ks s m r.last at x w nm f (form o) (data_of os) r.defines ∙ other_look f (data_of (o ∷ os)) (settled ks s m f) v.is };
      }

  stuck_found : (o : Datum) (os : List Datum) (f : Form) (g : ExpandErr) → (v : IsStuck ks s n e m f g) → Finds ks s n (next d (data_of (o ∷ os))) m (values_look ks s d at x w nm (form o) (data_of os) v.path h).last (data_of (o ∷ os)) (breach g)
  stuck_found o os f g v =
      let r = values_look ks s d at x w nm (form o) (data_of os) v.path h in
      record { path = r.path; is = look_now ks s m r.last at x w nm f (form o) (data_of os) r.defines ∙ ap (value_look at x w nm f (data_of (o ∷ os))) v.is }

  -- a value that isn't by the grammar
  no_value : (others : List Datum) (p : Place) → (others ≡ [] → ⊥) → IsNoValue ks s n e m p → Shows ks s n (next d (data_of others)) m (breach (fault.Form p))
  no_value [] p g v = absurd (g refl)
  no_value (o ∷ os) p g v = record { first = (values_look ks s d at x w nm (form o) (data_of os) v.stuck.path h).last; others = data_of (o ∷ os); finds = stuck_found o os v.last (fault.Form p) v.stuck }

  -- a use of a macro in the value, which is left as it stands
  left_there : (others : List Datum) (f : Form) (g : ExpandErr) (whole : Form) → (others ≡ [] → ⊥) → whole ≡ listed at (next w (next nm (next f end))) → IsLeft ks s n e m f g
      → IsKept ks s n (next d (data_of others)) m whole (data_of others) g
  left_there [] f g whole o i v = absurd (o refl)
  left_there (o ∷ os) f g whole _ i v =
      let r = values_look ks s d at x w nm (form o) (data_of os) v.stuck.path h in
      record {
        finds = subst (λ (last : Form). Finds ks s n (next d (data_of (o ∷ os))) m last (data_of (o ∷ os)) (breach g)) (stands_as ks s r.last at x w nm f r.defines ∙ sym i) (stuck_found o os f g v.stuck);
        of_use = v.of_use;
      }

pub function_shown : (ks : List Macro) (s : List Marked) (n m : Counts) (d : Form) (at : Place) (x : Binder) (w nm e : Form) (others : List Datum) (place : Place) (behind : List Datum) (v : code.Settled)
    → head_meaning ks s d ≡ special key.Define → form_place d ≡ at → definition_of d ≡ Some (value x w nm e) → (others ≡ [] → ⊥) → v ≡ value_form.Lambda place behind → SettlesAs ks s n e (Ok v) m
    → Shows ks s n (next d (data_of others)) m (of_function at (function_of (record { binder = x; at = place; forms = behind })) (data_of others))
function_shown ks s n m d at x w nm e others place behind v h p i g q t =
    some_function ks s n m d at x w nm e (record { head = h; place = p; is = i }) others place behind g (subst (λ (v : code.Settled). SettlesAs ks s n e (Ok v) m) q t)

pub variable_shown : (ks : List Macro) (s : List Marked) (n m : Counts) (d : Form) (at : Place) (x : Binder) (w nm e : Form) (others : List Datum) (o : Open) (v : code.Settled)
    → head_meaning ks s d ≡ special key.Define → form_place d ≡ at → definition_of d ≡ Some (value x w nm e) → (others ≡ [] → ⊥) → v ≡ value_form.Other o → SettlesAs ks s n e (Ok v) m
    → Shows ks s n (next d (data_of others)) m (of_variable at x (open_of o) (data_of others))
variable_shown ks s n m d at x w nm e others o v h p i g q t =
    some_variable ks s n m d at x w nm e (record { head = h; place = p; is = i }) others (open_of o) g (subst (λ (v : code.Settled). SettlesAs ks s n e (Ok v) m) q t)

pub left_kept : (ks : List Macro) (s : List Marked) (n m : Counts) (d : Form) (at : Place) (x : Binder) (w nm e : Form) (others : List Datum) (f : Datum) (g : ExpandErr) (whole : Form) (v : code.Settled)
    → head_meaning ks s d ≡ special key.Define → form_place d ≡ at → definition_of d ≡ Some (value x w nm e) → (others ≡ [] → ⊥) → v ≡ value_form.Stuck f g → whole ≡ listed at (next w (next nm (next (form f) end))) → SettlesAs ks s n e (Ok v) m
    → IsKept ks s n (next d (data_of others)) m whole (data_of others) g
left_kept ks s n m d at x w nm e others f g whole v h p i o q j t =
    left_there ks s n m d at x w nm e (record { head = h; place = p; is = i }) others (form f) g whole o j (subst (λ (v : code.Settled). SettlesAs ks s n e (Ok v) m) q t)

pub value_refused : (ks : List Macro) (s : List Marked) (n m : Counts) (d : Form) (at : Place) (x : Binder) (w nm e : Form) (others : List Datum) (b : ExpandErr)
    → head_meaning ks s d ≡ special key.Define → form_place d ≡ at → definition_of d ≡ Some (value x w nm e) → (others ≡ [] → ⊥) → SettlesAs ks s n e (Err b) m → LooksAs ks s n (next d (data_of others)) (Err b) m
value_refused ks s n m d at x w nm e others (fault.Form p) h q i o t = no_value ks s n m d at x w nm e (record { head = h; place = q; is = i }) others p o t
value_refused ks s n m d at x w nm e others fault.Memory h q i o t = tt
value_refused ks s n m d at x w nm e others (fault.BadRules p) h q i o t = t
value_refused ks s n m d at x w nm e others (fault.NoRule p) h q i o t = t
value_refused ks s n m d at x w nm e others (fault.Limit l) h q i o t = t
