-- Definitions and values, step by step.
use Rattle.std.proofs.Common.{◌≡◌, ◌<◌, List, [], ◌∷◌, ◌++◌, length, Bool, true, false, if◌then◌else◌, IsTrue, ◌↔◌, Option, None, Some, Result, Ok, Err, refl, sym, ap, subst, ◌∙◌, arith}
use Rattle.std.specs.Prelude.{◌+◌, MatchOption, nat_lt, nat_le}
use Rattle.scheme_data.specs.declared.datum.Place.{Place}
use Rattle.scheme_data.specs.declared.datum.Datum.{Datum}
use Rattle.scheme_data.specs.declared.datum.Datum.TheViews as views
use Rattle.scheme_data.specs.Forms.{Form, Forms, atom, symbol, listed, dotted, vector, end, next, join, form, form_place, form_size, form_nesting}
use Rattle.syntax_rules.specs.Trees.{Macro}
use Rattle.syntax_rules.specs.Uses.{used_once}
use Rattle.core_forms.specs.Scope.{Marked, Meaning, macro, special, plain, macro_alone, meaning_first, head_meaning, parts_of}
use Rattle.core_forms.specs.Table.{core, Row, means, as_it_is, derived}
use Rattle.core_forms.specs.Bodies.{Used, gives, fails, used, limited, counted, again, stuck, is_core, settled, settled_row, settled_by, settled_as, Look, instead, of_function, expression, breach, look, look_as, used_look, begin_look, define_look, Definition, procedure, definition_of}
use Rattle.core_forms.specs.Code.{data_of, spelling, items_in, Refusing}
use Rattle.core_forms.specs.Working.{open_of, function_of, IsWrong}
use Rattle.core_forms.specs.declared.core_form.Binder.{Binder}
use Rattle.core_forms.specs.declared.counting.Counts.{Counts}
use Rattle.core_forms.specs.declared.work.Open.{Open}
use Rattle.core_forms.specs.declared.work.Open.TheVariants as open_form
use Rattle.core_forms.specs.declared.words.Keyword.{Keyword}
use Rattle.core_forms.specs.declared.words.Keyword.TheVariants as key
use Rattle.core_forms.specs.declared.error.ExpandErr.{ExpandErr}
use Rattle.core_forms.specs.declared.error.ExpandErr.TheVariants as fault
use Rattle.core_forms.proofs.Views.{form-List}
use Rattle.expansion_steps.specs.declared.looking.Settled.TheVariants as value_form
use Rattle.expansion_steps.specs.declared.looking.Settled as code
use Rattle.scheme_data.specs.declared.datum.LimitKind.TheVariants as limit
use Rattle.expansion_steps.specs.Steps.{UsedAs, Looks, Settles, here, onto, is_other, IsLambda, IsOther, IsStuck, IsLeft, IsNoValue, SettlesAs, Finds, Shows, of_a_use, IsKept}
use Rattle.expansion_steps.specs.Steps as steps_of
use Rattle.expansion_steps.specs.Decided.{is_memory, StepAs}
use Rattle.expansion_steps.specs.declared.looking.Step.{Step}
use Rattle.derived_forms.specs.Rows.{IsCore}

-- Lists -----

pub empty_is : (b : Bool) (xs : List Datum) → b ≡ true → IsTrue b ↔ (xs ≡ []) → xs ≡ []
empty_is b xs e h = h.0 e

pub not_empty : (b : Bool) (xs : List Datum) → b ≡ false → IsTrue b ↔ (xs ≡ []) → xs ≡ [] → ⊥
not_empty b xs e h g = let t : b ≡ true = h.1 g in absurd (cc)

-- Words ---------------------------------------------------------------------------------

-- words for sure depend neither on macros nor on names around
core-means : (ks : List Macro) (s : List Marked) (at : Place) (k : Keyword) (ds : Forms) → head_meaning ks s (core at (spelling k) ds) ≡ special k
core-means ks s at key.Quote ds = refl
core-means ks s at key.Lambda ds = refl
core-means ks s at key.If ds = refl
core-means ks s at key.Set ds = refl
core-means ks s at key.Begin ds = refl
core-means ks s at key.Let ds = refl
core-means ks s at key.Letrec ds = refl
core-means ks s at key.BindExit ds = refl
core-means ks s at key.UnwindProtect ds = refl
core-means ks s at key.LetStar ds = refl
core-means ks s at key.Cond ds = refl
core-means ks s at key.Case ds = refl
core-means ks s at key.Clauses ds = refl
core-means ks s at key.And ds = refl
core-means ks s at key.Or ds = refl
core-means ks s at key.When ds = refl
core-means ks s at key.Unless ds = refl
core-means ks s at key.Do ds = refl
core-means ks s at key.Define ds = refl
core-means ks s at key.DefineInline ds = refl
core-means ks s at key.DefineSyntax ds = refl

other_core : (ks : List Macro) (s : List Marked) (k : Keyword) → (k ≡ key.Lambda → ⊥) → is_other ks s (is_core k) ≡ true
other_core ks s key.Quote h = refl
other_core ks s key.Lambda h = absurd (h refl)
other_core ks s key.If h = refl
other_core ks s key.Set h = refl
other_core ks s key.Begin h = refl
other_core ks s key.Let h = refl
other_core ks s key.Letrec h = refl
other_core ks s key.BindExit h = refl
other_core ks s key.UnwindProtect h = refl
other_core ks s key.LetStar h = refl
other_core ks s key.Cond h = refl
other_core ks s key.Case h = refl
other_core ks s key.Clauses h = refl
other_core ks s key.And h = refl
other_core ks s key.Or h = refl
other_core ks s key.When h = refl
other_core ks s key.Unless h = refl
other_core ks s key.Do h = refl
other_core ks s key.Define h = refl
other_core ks s key.DefineInline h = refl
other_core ks s key.DefineSyntax h = refl

stands : (k : Keyword) → (k ≡ key.Begin → ⊥) → (k ≡ key.Define → ⊥) → (ks : List Macro) (s : List Marked) (n : Counts) (d : Form) (ds : Forms) → look_as (special k) ks s n d ds ≡ expression d ds
stands key.Quote h g ks s n d ds = refl
stands key.Lambda h g ks s n d ds = refl
stands key.If h g ks s n d ds = refl
stands key.Set h g ks s n d ds = refl
stands key.Begin h g ks s n d ds = absurd (h refl)
stands key.Let h g ks s n d ds = refl
stands key.Letrec h g ks s n d ds = refl
stands key.BindExit h g ks s n d ds = refl
stands key.UnwindProtect h g ks s n d ds = refl
stands key.LetStar h g ks s n d ds = refl
stands key.Cond h g ks s n d ds = refl
stands key.Case h g ks s n d ds = refl
stands key.Clauses h g ks s n d ds = refl
stands key.And h g ks s n d ds = refl
stands key.Or h g ks s n d ds = refl
stands key.When h g ks s n d ds = refl
stands key.Unless h g ks s n d ds = refl
stands key.Do h g ks s n d ds = refl
stands key.Define h g ks s n d ds = absurd (g refl)
stands key.DefineInline h g ks s n d ds = refl
stands key.DefineSyntax h g ks s n d ds = refl

-- Values --------------------------------------------------------------------------------

module _ (ks : List Macro) (s : List Marked) where
  pub settled_special : (n : Counts) (d : Form) (k : Keyword) → head_meaning ks s d ≡ special k → settled ks s n d ≡ settled_row (form_place d) k (derived n (form_place d) k (parts_of d))
  settled_special n d k h = ap (λ m. settled_as m n d) h

  pub settled_core_row : (n : Counts) (at : Place) (k : Keyword) (ds : Forms) → settled ks s n (core at (spelling k) ds) ≡ settled_row at k (derived n at k ds)
  settled_core_row n at k ds = ap (λ m. settled_as m n (core at (spelling k) ds)) (core-means ks s at k ds)

  pub lambda_now : (n after : Counts) (d : Form) (at : Place) (fs : List Datum) → after ≡ n → settled ks s n d ≡ is_core key.Lambda → form_place d ≡ at → parts_of d ≡ data_of fs → IsLambda ks s n d after at fs
  lambda_now n after d at fs same i p f = subst (λ (m : Counts). IsLambda ks s n d m at fs) (sym same) (record { last = d; path = here; is = i; place = p; parts = f })

  pub other_now : (n after : Counts) (d e : Form) → after ≡ n → is_other ks s (settled ks s n d) ≡ true → e ≡ d → IsOther ks s n d after e
  other_now n after d e same i g =
      subst (λ (e : Form). IsOther ks s n d after e) (sym g) (subst (λ (m : Counts). IsOther ks s n d m d) (sym same) (record { path = here; is = i }))

  pub stuck_now : (n after : Counts) (d : Form) (e : ExpandErr) → after ≡ n → settled ks s n d ≡ stuck e → IsStuck ks s n d after d e
  stuck_now n after d e same i = subst (λ (m : Counts). IsStuck ks s n d m d e) (sym same) (record { path = here; is = i })

  pub no_value_now : (n after : Counts) (d : Form) (at : Place) → after ≡ n → settled ks s n d ≡ stuck (fault.Form at) → IsNoValue ks s n d after at
  no_value_now n after d at same i = record { last = d; stuck = stuck_now n after d (fault.Form at) same i }

  pub wrong_now : (n m : Counts) (d : Form) (at : Place) (k : Keyword) (r : Row) (e : ExpandErr) → settled ks s n d ≡ settled_row at k r → Refusing (IsWrong r at n m) e → SettlesAs ks s n d (Err e) m
  wrong_now n m d at k r (fault.BadRules p) i w = let q : fault.BadRules p ≡ fault.Form at = w.there in absurd (cc)
  wrong_now n m d at k r (fault.NoRule p) i w = let q : fault.NoRule p ≡ fault.Form at = w.there in absurd (cc)
  wrong_now n m d at k r (fault.Form p) i w = no_value_now n m d p w.same (i ∙ (ap (settled_row at k) w.is ∙ ap stuck (sym w.there)))
  wrong_now n m d at k r (fault.Limit l) i w = let q : fault.Limit l ≡ fault.Form at = w.there in absurd (cc)
  wrong_now n m d at k r fault.Memory i w = tt

  pub means_now : (n m : Counts) (d e : Form) (at : Place) (k : Keyword) (r : Row) → settled ks s n d ≡ settled_row at k r → r ≡ means m e → settled ks s n d ≡ again m e
  means_now n m d e at k r i w = i ∙ ap (settled_row at k) w

  pub core_now : (n : Counts) (d : Form) (at : Place) (k : Keyword) (r : Row) → settled ks s n d ≡ settled_row at k r → r ≡ as_it_is → settled ks s n d ≡ is_core k
  core_now n d at k r i w = i ∙ ap (settled_row at k) w

  pub core_other : (n : Counts) (d : Form) (k : Keyword) → settled ks s n d ≡ is_core k → (k ≡ key.Lambda → ⊥) → is_other ks s (settled ks s n d) ≡ true
  core_other n d k i h = ap (is_other ks s) i ∙ other_core ks s k h

  pub plain_now : (n : Counts) (d : Form) → head_meaning ks s d ≡ plain → IsOther ks s n d n d
  plain_now n d h = other_now n n d d refl (ap (λ m. is_other ks s (settled_as m n d)) h) refl

  pub open_now : (n : Counts) (o : Open) → ((d : Datum) → o ≡ open_form.Datum d → ⊥) → ((at : Place) (k : Keyword) (ds : List Datum) → o ≡ open_form.Row at k ds → ⊥)
      → ((at : Place) (xs bs : List Datum) → o ≡ open_form.LetStar at xs bs → ⊥) → IsOther ks s n (open_of o) n (open_of o)
  open_now n (open_form.Datum d) f g h = absurd (f d refl)
  open_now n (open_form.Row at k ds) f g h = absurd (g at k ds refl)
  open_now n (open_form.LetStar at xs bs) f g h = absurd (h at xs bs refl)
  open_now n (open_form.LetFirst at x xs bs) f g h = record { path = here; is = refl }
  open_now n (open_form.Choice at a b k ds) f g h = record { path = here; is = refl }
  open_now n (open_form.Both at a ds) f g h = record { path = here; is = refl }
  open_now n (open_form.Kept at x b k ds) f g h = record { path = here; is = refl }

  pub settles_more : {n m k : Counts} {d e f : Form} → Settles ks s n d m e → settled ks s m e ≡ again k f → Settles ks s n d k f
  settles_more here i = onto i here
  settles_more (onto j q) i = onto j (settles_more q i)

  pub settles_then : {n m k : Counts} {d e f : Form} → Settles ks s n d m e → Settles ks s m e k f → Settles ks s n d k f
  settles_then here r = r
  settles_then (onto j q) r = onto j (settles_then q r)

  pub settles_on : (n m after : Counts) (d e : Form) (r : Result code.Settled ExpandErr) → Settles ks s n d m e → SettlesAs ks s m e r after → SettlesAs ks s n d r after
  settles_on n m after d e (Ok (value_form.Lambda at ds)) p h = record { last = h.last; path = settles_then p h.path; is = h.is; place = h.place; parts = h.parts }
  settles_on n m after d e (Ok (value_form.Other o)) p h = record { path = settles_then p h.path; is = h.is }
  settles_on n m after d e (Ok (value_form.Stuck v f)) p h = record { stuck = record { path = settles_then p h.stuck.path; is = h.stuck.is }; of_use = h.of_use }
  settles_on n m after d e (Err (fault.Form at)) p h = record { last = h.last; stuck = record { path = settles_then p h.stuck.path; is = h.stuck.is } }
  settles_on n m after d e (Err fault.Memory) p h = tt
  settles_on n m after d e (Err (fault.BadRules at)) p h = h
  settles_on n m after d e (Err (fault.NoRule at)) p h = h
  settles_on n m after d e (Err (fault.Limit l)) p h = h

-- Forms that are taken apart ------------------------------------------------------------

listed_at : (d : Form) (ds : Forms) → items_in d ≡ Some ds → d ≡ listed (form_place d) ds
listed_at (atom p a) ds e = absurd (cc)
listed_at (symbol p x m) ds e = absurd (cc)
listed_at (listed p es) ds e = let q : es ≡ ds = cc in ap (listed p) q
listed_at (dotted p es t) ds e = absurd (cc)
listed_at (vector p es) ds e = absurd (cc)

pub listed_as : (d : Form) (xs fs : List Datum) (at : Place) → at ≡ form_place d → items_in d ≡ Some (data_of xs) → fs ≡ xs → d ≡ listed at (data_of fs)
listed_as d xs fs at p i f = listed_at d (data_of xs) i ∙ (ap (λ p. listed p (data_of xs)) (sym p) ∙ ap (λ (xs : List Datum). listed at (data_of xs)) (sym f))

pub taken_apart : (d : Form) (xs fs others : List Datum) (w : Datum) (at : Place) → at ≡ form_place d → items_in d ≡ Some (data_of xs) → fs ≡ xs → fs ≡ w ∷ others
    → d ≡ listed at (next (form w) (data_of others))
taken_apart d xs fs others w at p i f g = listed_as d xs fs at p i f ∙ ap (λ (xs : List Datum). listed at (data_of xs)) g

not_special : (m : Meaning) (k : Keyword) → macro_alone m ≡ special k → ⊥
not_special (macro j) k h = absurd (cc)
not_special (special j) k h = absurd (cc)
not_special plain k h = absurd (cc)

pub special_lists : (ks : List Macro) (s : List Marked) (d : Form) (k : Keyword) → items_in d ≡ None → head_meaning ks s d ≡ special k → ⊥
special_lists ks s (atom p a) k e h = absurd (cc)
special_lists ks s (symbol p x m) k e h = absurd (cc)
special_lists ks s (listed p es) k e h = absurd (cc)
special_lists ks s (dotted p es t) k e h = absurd (not_special (meaning_first ks s es) k h)
special_lists ks s (vector p es) k e h = absurd (cc)

pub special_first : (ks : List Macro) (s : List Marked) (d : Form) (xs fs : List Datum) (k : Keyword) → items_in d ≡ Some (data_of xs) → fs ≡ xs → fs ≡ [] → head_meaning ks s d ≡ special k → ⊥
special_first ks s d xs fs k i f g h =
    let e : d ≡ listed (form_place d) end = listed_at d (data_of xs) i ∙ ap (λ (xs : List Datum). listed (form_place d) (data_of xs)) (sym f ∙ g) in
    let q : plain ≡ special k = sym (ap (head_meaning ks s) e) ∙ h in absurd (cc)

-- Uses of macros ------------------------------------------------------------------------

pub record Fails (u : Used) (before : Counts) (e : ExpandErr) (after : Counts) : Type 0 where
  pub is : u ≡ fails e
  pub same : after ≡ before

pub use_fails : (u : Used) (before after : Counts) (e : ExpandErr) → is_memory e ≡ false → UsedAs u before (Err e) after → Fails u before e after
use_fails u before after (fault.BadRules p) m h = record { is = h.0; same = h.1 }
use_fails u before after (fault.NoRule p) m h = record { is = h.0; same = h.1 }
use_fails u before after (fault.Form p) m h = record { is = h.0; same = h.1 }
use_fails u before after (fault.Limit l) m h = record { is = h.0; same = h.1 }
use_fails u before after fault.Memory m h = absurd (cc)

module _ (ks : List Macro) (s : List Marked) where
  fails_so : (f e : ExpandErr) → fails f ≡ fails e → of_a_use ks s f ≡ true → of_a_use ks s e ≡ true
  fails_so f e h t = let q : f ≡ e = cc in subst (λ (e : ExpandErr). of_a_use ks s e ≡ true) q t

  by_limits : (a b c : Bool) (n : Counts) (d : Form) (e : ExpandErr) → (if a then (if b then (if c then gives (counted n d) d else fails (fault.Limit limit.Depth)) else fails (fault.Limit limit.Filled)) else fails (fault.Limit limit.Expansions)) ≡ fails e
      → of_a_use ks s e ≡ true
  by_limits true true true n d e h = absurd (cc)
  by_limits true true false n d e h = fails_so (fault.Limit limit.Depth) e h refl
  by_limits true false c n d e h = fails_so (fault.Limit limit.Filled) e h refl
  by_limits false b c n d e h = fails_so (fault.Limit limit.Expansions) e h refl

  by_result : (n : Counts) (at : Place) (o : Option Form) (e : ExpandErr) → limited n at o ≡ fails e → of_a_use ks s e ≡ true
  by_result n at None e h = fails_so (fault.NoRule at) e h refl
  by_result n at (Some d) e h = by_limits (nat_lt n.expansions 20000) (nat_le (n.filled + form_size d) 1000000) (nat_le (form_nesting d) 1000) n d e h

  pub fails_as_use : (k : Macro) (n : Counts) (d : Form) (e : ExpandErr) → used k n d ≡ fails e → of_a_use ks s e ≡ true
  fails_as_use k n d e h = by_result n (form_place d) (used_once k (form_place d) (n.expansions + 1) d) e h

  pub use_settles : (n after : Counts) (d e : Form) (k : Macro) → head_meaning ks s d ≡ macro k → used k n d ≡ gives after e → settled ks s n d ≡ again after e
  use_settles n after d e k h u = ap (λ m. settled_as m n d) h ∙ ap settled_by u

  pub use_sticks : (n after : Counts) (d : Form) (e : ExpandErr) (k : Macro) → head_meaning ks s d ≡ macro k → is_memory e ≡ false → UsedAs (used k n d) n (Err e) after → IsLeft ks s n d after d e
  use_sticks n after d e k h m u =
      let f = use_fails (used k n d) n after e m u in
      record { stuck = stuck_now ks s n after d e f.same (ap (λ m. settled_as m n d) h ∙ ap settled_by f.is); of_use = fails_as_use k n d e f.is }

  -- Bodies --------------------------------------------------------------------------------

  pub shows_now : (n : Counts) (d : Form) (ds : Forms) (l : Look) → look ks s n d ds ≡ l → Shows ks s n (next d ds) n l
  shows_now n d ds l i = record { first = d; others = ds; finds = record { path = steps_of.here; is = i } }

  pub use_looks : (n after : Counts) (d : Form) (others new : List Datum) (e : Datum) (k : Macro) → head_meaning ks s d ≡ macro k → used k n d ≡ gives after (form e) → new ≡ e ∷ others
      → Looks ks s n (next d (data_of others)) after (data_of new)
  use_looks n after d others new e k h u g =
      subst (λ (fs : List Datum). Looks ks s n (next d (data_of others)) after (data_of fs)) (sym g)
      (steps_of.onto (ap (λ m. look_as m ks s n d (data_of others)) h ∙ ap (λ u. used_look u (data_of others)) u) steps_of.here)

  pub use_kept : (n after : Counts) (d : Form) (others : Forms) (e : ExpandErr) (k : Macro) → head_meaning ks s d ≡ macro k → is_memory e ≡ false → UsedAs (used k n d) n (Err e) after
      → IsKept ks s n (next d others) after d others e
  use_kept n after d others e k h m u =
      let f = use_fails (used k n d) n after e m u in
      subst (λ (m : Counts). IsKept ks s n (next d others) m d others e) (sym f.same)
      (record {
        finds = record { path = steps_of.here; is = ap (λ m. look_as m ks s n d others) h ∙ ap (λ u. used_look u others) f.is };
        of_use = fails_as_use k n d e f.is;
      })

  pub expression_now : (n : Counts) (d : Form) (ds : Forms) (k : Keyword) → head_meaning ks s d ≡ special k → (k ≡ key.Begin → ⊥) → (k ≡ key.Define → ⊥) → Finds ks s n (next d ds) n d ds (expression d ds)
  expression_now n d ds k h f g = record { path = steps_of.here; is = ap (λ m. look_as m ks s n d ds) h ∙ stands k f g ks s n d ds }

  pub plain_found : (n : Counts) (d : Form) (ds : Forms) → head_meaning ks s d ≡ plain → Finds ks s n (next d ds) n d ds (expression d ds)
  plain_found n d ds h = record { path = steps_of.here; is = ap (λ m. look_as m ks s n d ds) h }

-- `begin` -------------------------------------------------------------------------------

data_join : (xs ys : List Datum) → join (data_of xs) (data_of ys) ≡ data_of (xs ++ ys)
data_join [] ys = refl
data_join (x ∷ xs) ys = ap (next (form x)) (data_join xs ys)

no_parts : (d : Form) → items_in d ≡ None → parts_of d ≡ end
no_parts (atom p a) e = refl
no_parts (symbol p x m) e = refl
no_parts (listed p es) e = absurd (cc)
no_parts (dotted p es t) e = refl
no_parts (vector p es) e = refl

one_part : (at : Place) (xs : List Datum) → length xs < 2 → parts_of (listed at (data_of xs)) ≡ end
one_part at [] h = refl
one_part at (x ∷ []) h = refl
one_part at (x ∷ y ∷ xs) h = absurd (omega arith)

more_parts : (n : Counts) (at : Place) (xs others all new : List Datum) (o : Option Datum) → (length xs < 2 → ⊥) → all ≡ xs ++ others → MatchOption o ((all ≡ []) × (new ≡ [])) (λ top. all ≡ top ∷ new)
    → begin_look n at (parts_of (listed at (data_of xs))) (data_of others) ≡ instead n (data_of new)
more_parts n at [] others all new o h e m = absurd (h (omega arith))
more_parts n at (x ∷ []) others all new o h e m = absurd (h (omega arith))
more_parts n at (x ∷ y ∷ xs) others all new None h e m = let q : x ∷ y ∷ (xs ++ others) ≡ [] = sym e ∙ m.0 in absurd (cc)
more_parts n at (x ∷ y ∷ xs) others all new (Some w) h e m =
    let q : x ∷ y ∷ (xs ++ others) ≡ w ∷ new = sym e ∙ m in let r : y ∷ (xs ++ others) ≡ new = cc in
    ap (instead n) (data_join (y ∷ xs) others ∙ ap data_of r)

module _ (ks : List Macro) (s : List Marked) (n : Counts) (d : Form) (at : Place) (h : head_meaning ks s d ≡ special key.Begin) (p : at ≡ form_place d) where
  begin_shows : (ds : Forms) → parts_of d ≡ end → Shows ks s n (next d ds) n (breach (fault.Form at))
  begin_shows ds e =
      shows_now ks s n d ds (breach (fault.Form at))
      (ap (λ m. look_as m ks s n d ds) h ∙ (ap (λ es. begin_look n (form_place d) es ds) e ∙ ap (λ p. breach (fault.Form p)) (sym p)))

  pub begin_none : (ds : Forms) → items_in d ≡ None → Shows ks s n (next d ds) n (breach (fault.Form at))
  begin_none ds i = begin_shows ds (no_parts d i)

  pub begin_short : (ds : Forms) (xs : List Datum) → items_in d ≡ Some (data_of xs) → length xs < 2 → Shows ks s n (next d ds) n (breach (fault.Form at))
  begin_short ds xs i l = begin_shows ds (ap parts_of (listed_as d xs xs at p i refl) ∙ one_part at xs l)

  pub begin_splices : (xs others all new : List Datum) (o : Option Datum) → items_in d ≡ Some (data_of xs) → (length xs < 2 → ⊥) → all ≡ xs ++ others
      → MatchOption o ((all ≡ []) × (new ≡ [])) (λ top. all ≡ top ∷ new) → Looks ks s n (next d (data_of others)) n (data_of new)
  begin_splices xs others all new o i l e m =
      steps_of.onto (ap (λ m. look_as m ks s n d (data_of others)) h ∙ (ap (λ p. begin_look n p (parts_of d) (data_of others)) (sym p)
      ∙ (ap (λ d. begin_look n at (parts_of d) (data_of others)) (listed_as d xs xs at p i refl) ∙ more_parts n at xs others all new o l e m)))
      steps_of.here

-- Forms of special words ------------------------------------------------------------------

module _ (ks : List Macro) (s : List Marked) where
  pub special_whole : (n m : Counts) (d : Form) (xs fs others : List Datum) (w : Datum) (at : Place) (k : Keyword) (r : Result Step ExpandErr) → at ≡ form_place d → items_in d ≡ Some (data_of xs) → fs ≡ xs → fs ≡ w ∷ others
      → head_meaning ks s d ≡ special k → (head_meaning ks s (listed at (next (form w) (data_of others))) ≡ special k → StepAs ks s n (listed at (next (form w) (data_of others))) r m) → StepAs ks s n d r m
  special_whole n m d xs fs others w at k r p i f g h step =
      let e : d ≡ listed at (next (form w) (data_of others)) = taken_apart d xs fs others w at p i f g in
      subst (λ (d : Form). StepAs ks s n d r m) (sym e) (step (subst (λ (d : Form). head_meaning ks s d ≡ special k) e h))

  pub core_whole : (n m : Counts) (at : Place) (k : Keyword) (w : Datum) (others forms : List Datum) (r : Result Step ExpandErr) → IsCore (derived n at k (data_of others)) others forms n m
      → head_meaning ks s (listed at (next (form w) (data_of others))) ≡ special k
      → ((n : Counts) → settled ks s n (listed at (next (form w) (data_of forms))) ≡ is_core k → StepAs ks s n (listed at (next (form w) (data_of forms))) r n) → StepAs ks s n (listed at (next (form w) (data_of others))) r m
  core_whole n m at k w others forms r c h step =
      let i : settled ks s n (listed at (next (form w) (data_of others))) ≡ is_core k = core_now ks s n (listed at (next (form w) (data_of others))) at k (derived n at k (data_of others)) (settled_special ks s n (listed at (next (form w) (data_of others))) k h) c.is in
      let same : (n : Counts) → settled ks s n (listed at (next (form w) (data_of others))) ≡ is_core k → StepAs ks s n (listed at (next (form w) (data_of others))) r n =
      subst (λ (fs : List Datum). (n : Counts) → settled ks s n (listed at (next (form w) (data_of fs))) ≡ is_core k → StepAs ks s n (listed at (next (form w) (data_of fs))) r n) c.forms_same step in
      subst (λ (m : Counts). StepAs ks s n (listed at (next (form w) (data_of others))) r m) (sym c.same) (same n i)

  pub row_whole : (n m : Counts) (at : Place) (k : Keyword) (others forms : List Datum) (v : code.Settled) → IsCore (derived n at k (data_of others)) others forms n m
      → ((n : Counts) → settled ks s n (core at (spelling k) (data_of forms)) ≡ is_core k → SettlesAs ks s n (core at (spelling k) (data_of forms)) (Ok v) n) → SettlesAs ks s n (core at (spelling k) (data_of others)) (Ok v) m
  row_whole n m at k others forms v c step =
      let i : settled ks s n (core at (spelling k) (data_of others)) ≡ is_core k = core_now ks s n (core at (spelling k) (data_of others)) at k (derived n at k (data_of others)) (settled_core_row ks s n at k (data_of others)) c.is in
      let same : (n : Counts) → settled ks s n (core at (spelling k) (data_of others)) ≡ is_core k → SettlesAs ks s n (core at (spelling k) (data_of others)) (Ok v) n =
      subst (λ (fs : List Datum). (n : Counts) → settled ks s n (core at (spelling k) (data_of fs)) ≡ is_core k → SettlesAs ks s n (core at (spelling k) (data_of fs)) (Ok v) n) c.forms_same step in
      subst (λ (m : Counts). SettlesAs ks s n (core at (spelling k) (data_of others)) (Ok v) m) (sym c.same) (same n i)

  pub rebuilt_other : (n : Counts) (at : Place) (k : Keyword) (w : Datum) (others pushed items : List Datum) → settled ks s n (listed at (next (form w) (data_of others))) ≡ is_core k → (k ≡ key.Lambda → ⊥) → pushed ≡ w ∷ others → items ≡ pushed
      → IsOther ks s n (listed at (next (form w) (data_of others))) n (form (views.List at items))
  rebuilt_other n at k w others pushed items h f g e =
      other_now ks s n n (listed at (next (form w) (data_of others))) (form (views.List at items)) refl (core_other ks s n (listed at (next (form w) (data_of others))) k h f)
      (form-List at items ∙ ap (λ (fs : List Datum). listed at (data_of fs)) (e ∙ g))

-- Definitions that are none ---------------------------------------------------------------

module _ (ks : List Macro) (s : List Marked) (n : Counts) (d : Form) (at : Place) (h : head_meaning ks s d ≡ special key.Define) (p : at ≡ form_place d) where
  pub define_none : (ds : Forms) → definition_of d ≡ None → Shows ks s n (next d ds) n (breach (fault.Form at))
  define_none ds g =
      shows_now ks s n d ds (breach (fault.Form at))
      (ap (λ m. look_as m ks s n d ds) h ∙ (ap (λ o. define_look ks s n (form_place d) o ds) g ∙ ap (λ p. breach (fault.Form p)) (sym p)))

  pub define_last : (x : Definition) (others : List Datum) → definition_of d ≡ Some x → others ≡ [] → Shows ks s n (next d (data_of others)) n (breach (fault.Form at))
  define_last x others g e =
      shows_now ks s n d (data_of others) (breach (fault.Form at))
      (ap (λ m. look_as m ks s n d (data_of others)) h ∙ (ap (λ o. define_look ks s n (form_place d) o (data_of others)) g
      ∙ (ap (λ (xs : List Datum). define_look ks s n (form_place d) (Some x) (data_of xs)) e ∙ ap (λ p. breach (fault.Form p)) (sym p))))

  pub defines_function : (x : Binder) (body : List Datum) (others : List Datum) → definition_of d ≡ Some (procedure x (data_of body)) → (others ≡ [] → ⊥)
      → Shows ks s n (next d (data_of others)) n (of_function at (function_of (record { binder = x; at = at; forms = body })) (data_of others))
  defines_function x body [] g e = absurd (e refl)
  defines_function x body (o ∷ os) g e =
      shows_now ks s n d (data_of (o ∷ os)) (of_function at (function_of (record { binder = x; at = at; forms = body })) (data_of (o ∷ os)))
      (ap (λ m. look_as m ks s n d (data_of (o ∷ os))) h ∙ (ap (λ r. define_look ks s n (form_place d) r (data_of (o ∷ os))) g
      ∙ ap (λ q. of_function q (function_of (record { binder = x; at = q; forms = body })) (data_of (o ∷ os))) (sym p)))
