-- Forms at top level, as the code takes them apart.
use Rattle.std.proofs.Common.{◌≡◌, ℕ, true, List, [], ◌∷◌, ◌++◌, reverse, Some, None, Result, Err, refl, sym, ap, ◌∙◌, subst}
use Rattle.std.proofs.lemmas.List.{reverse-append, reverse-reverse}
use Rattle.scheme_data.specs.declared.datum.Datum.{Datum}
use Rattle.scheme_data.specs.declared.datum.Place.{Place}
use Rattle.scheme_data.specs.Data.{place_of}
use Rattle.scheme_data.specs.Forms as forms_of
use Rattle.scheme_data.specs.Forms.{Form, Forms, atom, symbol, listed, dotted, vector, end, next, form_place}
use Rattle.syntax_rules.specs.Trees.{Macro}
use Rattle.syntax_rules.proofs.Places.{same_place}
use Rattle.core_forms.specs.Scope.{Marked, special, parts_of}
use Rattle.core_forms.specs.Mid.{Mid, raw}
use Rattle.core_forms.specs.Names.{binder_of}
use Rattle.core_forms.specs.Bodies.{Used, gives}
use Rattle.core_forms.specs.Code.{data_of, items_in, IsMemory}
use Rattle.syntax_rules.specs.Macros.{macro_of}
use Rattle.core_forms.specs.Modules.{Top, form, syntax, used_top, syntax_top, evaluated, TopProgress, goes, ends, tops_of, inline_top, inline_of, top_as}
use Rattle.core_forms.specs.declared.core_form.Binder.{Binder}
use Rattle.core_forms.specs.Rewriting.{Walked}
use Rattle.core_forms.specs.declared.core_form.CoreExpr.{CoreExpr}
use Rattle.core_forms.specs.declared.core_form.CoreTop.{CoreTop}
use Rattle.core_forms.specs.declared.counting.Counts.{Counts}
use Rattle.core_forms.specs.declared.words.Keyword.{Keyword}
use Rattle.core_forms.specs.declared.words.Keyword.TheVariants as key
use Rattle.core_forms.specs.declared.error.ExpandErr.{ExpandErr}
use Rattle.core_forms.specs.declared.error.ExpandErr.TheVariants as fault
use Rattle.expander.specs.declared.scanning.Top as code_top
use Rattle.expander.specs.declared.scanning.Top.TheVariants as code
use Rattle.expansion_steps.specs.Steps.{UsedAs}
use Rattle.expander.specs.Tops.{all_tops, IsSyntax, SyntaxAs}
use Rattle.expander.specs.TopWalks.{over, StepTaken, StepWalked, inline_parts, InlineAs}

-- Forms in front of others --------------------------------------------------------------

pub from_first_is : {A : Type 0} (ts a b c : List A) → a ≡ reverse ts → b ≡ a → c ≡ reverse b → c ≡ ts
from_first_is ts a b c e f g = g ∙ (ap reverse (f ∙ e) ∙ reverse-reverse ts)

tops_with : (ds : List Datum) (d : Datum) (ts : List Top) → tops_of (data_of (ds ++ d ∷ [])) ++ ts ≡ tops_of (data_of ds) ++ form (forms_of.form d) ∷ ts
tops_with [] d ts = refl
tops_with (e ∷ ds) d ts = ap (λ ts. form (forms_of.form e) ∷ ts) (tops_with ds d ts)

pub put_first : (fs a b : List Datum) (ts : List Top) → a ≡ fs → b ≡ reverse a → tops_of (data_of (reverse b)) ++ ts ≡ tops_of (data_of fs) ++ ts
put_first fs a b ts e f = ap (λ ds. tops_of (data_of ds) ++ ts) (ap reverse f ∙ (reverse-reverse a ∙ e))

pub put_one : (ds old : List Datum) (d : Datum) (ts whole : List Top) → old ≡ d ∷ ds → tops_of (data_of (reverse old)) ++ ts ≡ whole → tops_of (data_of (reverse ds)) ++ form (forms_of.form d) ∷ ts ≡ whole
put_one ds old d ts whole e h =
    sym (tops_with (reverse ds) d ts) ∙ (ap (λ ds. tops_of (data_of ds) ++ ts) (sym (reverse-append (d ∷ []) ds)) ∙ (ap (λ ds. tops_of (data_of (reverse ds)) ++ ts) (sym e) ∙ h))

-- Inlines -------------------------------------------------------------------------------

pub inline_is : (ks : List Macro) (n : Counts) (d : Form) → inline_of ks n d ≡ inline_parts ks n (form_place d) (parts_of d)
inline_is ks n (atom at a) = refl
inline_is ks n (symbol at x m) = refl
inline_is ks n (dotted at ds d) = refl
inline_is ks n (vector at ds) = refl
inline_is ks n (listed at end) = refl
inline_is ks n (listed at (next word end)) = refl
inline_is ks n (listed at (next word (next (atom p a) ds))) = refl
inline_is ks n (listed at (next word (next (symbol p x m) ds))) = refl
inline_is ks n (listed at (next word (next (dotted p es d) ds))) = refl
inline_is ks n (listed at (next word (next (vector p es) ds))) = refl
inline_is ks n (listed at (next word (next (listed p end) ds))) = refl
inline_is ks n (listed at (next word (next (listed p (next f xs)) end))) = refl
inline_is ks n (listed at (next word (next (listed p (next f xs)) (next b bs)))) = refl

no_names : (at : Place) (ds : Forms) → InlineAs at (next (listed at end) ds) None
no_names at ds ks n = refl

pub no_list : (p : Place) (d : Form) (ds : Forms) → items_in d ≡ None → InlineAs p (next d ds) None
no_list p (atom at a) ds e ks n = refl
no_list p (symbol at x m) ds e ks n = refl
no_list p (dotted at es d) ds e ks n = refl
no_list p (vector at es) ds e ks n = refl
no_list p (listed at es) ds e ks n = absurd (cc)

pub is_list : (d : Form) (at : Place) (es : Forms) → at ≡ form_place d → items_in d ≡ Some es → d ≡ listed at es
is_list (atom p a) at es e f = absurd (cc)
is_list (symbol p x m) at es e f = absurd (cc)
is_list (dotted p es d) at fs e f = absurd (cc)
is_list (vector p es) at fs e f = absurd (cc)
is_list (listed p es) at fs e f = let h : es ≡ fs = cc in cc

-- where all parts stand there
pub inline_some : (p at : Place) (f : Datum) (xs : List Datum) (b : Datum) (bs : List Datum) (x : Binder) (forms : List Datum) → Some x ≡ binder_of true (forms_of.form f) → data_of forms ≡ next (listed at (data_of xs)) (data_of (b ∷ bs))
    → InlineAs p (next (listed at (data_of (f ∷ xs))) (data_of (b ∷ bs))) (Some (record { binder = x; forms = forms }))
inline_some p at f xs b bs x forms e g ks n =
    ap (λ o. inline_top ks n p o (next (listed at (data_of xs)) (data_of (b ∷ bs)))) (sym e) ∙ ap (λ ds. inline_top ks n p (Some x) ds) (sym g)

pub inline_none : (p at : Place) (f : Datum) (xs : List Datum) (b : Datum) (bs : List Datum) → None ≡ binder_of true (forms_of.form f)
    → InlineAs p (next (listed at (data_of (f ∷ xs))) (data_of (b ∷ bs))) None
inline_none p at f xs b bs e ks n = ap (λ o. inline_top ks n p o (next (listed at (data_of xs)) (data_of (b ∷ bs)))) (sym e)

-- Definitions ---------------------------------------------------------------------------

pub same_at : (at : Place) (d : Datum) → at ≡ place_of d → at ≡ form_place (forms_of.form d)
same_at at d e = e ∙ same_place d

-- a step that is another
pub step_is : (ks : List Macro) (n : Counts) (p q : TopProgress (List Top)) (r : Result CoreTop ExpandErr) (after : Counts) → p ≡ q → StepWalked ks n q r after → StepWalked ks n p r after
step_is ks n p q r after e h t g = h t (g ∙ e)

-- Special forms -------------------------------------------------------------------------

-- the words of top level
pub expression_word : (k : Keyword) (ks : List Macro) (n : Counts) (d : Form) → (k ≡ key.Begin → ⊥) → (k ≡ key.DefineSyntax → ⊥) → (k ≡ key.Define → ⊥) → (k ≡ key.DefineInline → ⊥)
    → top_as (special k) ks n d ≡ goes ks n (evaluated (raw d) ∷ [])
expression_word key.Begin ks n d a b c e = absurd (a refl)
expression_word key.DefineSyntax ks n d a b c e = absurd (b refl)
expression_word key.Define ks n d a b c e = absurd (c refl)
expression_word key.DefineInline ks n d a b c e = absurd (e refl)
expression_word key.Quote ks n d a b c e = refl
expression_word key.Lambda ks n d a b c e = refl
expression_word key.If ks n d a b c e = refl
expression_word key.Set ks n d a b c e = refl
expression_word key.Let ks n d a b c e = refl
expression_word key.Letrec ks n d a b c e = refl
expression_word key.BindExit ks n d a b c e = refl
expression_word key.UnwindProtect ks n d a b c e = refl
expression_word key.LetStar ks n d a b c e = refl
expression_word key.Cond ks n d a b c e = refl
expression_word key.Case ks n d a b c e = refl
expression_word key.Clauses ks n d a b c e = refl
expression_word key.And ks n d a b c e = refl
expression_word key.Or ks n d a b c e = refl
expression_word key.When ks n d a b c e = refl
expression_word key.Unless ks n d a b c e = refl
expression_word key.Do ks n d a b c e = refl

-- Steps that put forms in front ----------------------------------------------------------

pub used_taken : (ks : List Macro) (u : Used) (after : Counts) (d : Datum) (old new : List code_top.Top) → u ≡ gives after (forms_of.form d) → new ≡ code.Form d ∷ old
    → over (used_top ks u) (all_tops old) ≡ goes ks after (all_tops new)
used_taken ks u after d old new e f = ap (λ u. over (used_top ks u) (all_tops old)) e ∙ ap (λ ts. goes ks after (all_tops ts)) (sym f)

pub used_refused : (ks known : List Macro) (u : Used) (before after n : Counts) (f : ExpandErr) (ts new : List Top) → UsedAs u before (Err f) after → StepTaken (used_top ks u) ts (Err f) known n new
used_refused ks known u before after n (fault.BadRules at) ts new h = ap (used_top ks) h.0
used_refused ks known u before after n (fault.NoRule at) ts new h = ap (used_top ks) h.0
used_refused ks known u before after n (fault.Form at) ts new h = ap (used_top ks) h.0
used_refused ks known u before after n (fault.Limit k) ts new h = ap (used_top ks) h.0
used_refused ks known u before after n fault.Memory ts new h = tt

pub syntax_taken : (d : Form) (ks known : List Macro) (n : Counts) (t : code_top.Top) (old new : List code_top.Top) → IsSyntax d ks t known → new ≡ t ∷ old
    → over (syntax_top ks n (form_place d) (macro_of d)) (all_tops old) ≡ goes known n (all_tops new)
syntax_taken d ks known n t old new s e =
    ap (λ o. over (syntax_top ks n (form_place d) o) (all_tops old)) s.is
    ∙ (ap (λ known. goes known n (syntax (form_place d) s.rules.name ∷ all_tops old)) (sym s.known)
    ∙ (ap (λ t. goes known n (t ∷ all_tops old)) (sym s.shown) ∙ ap (λ ts. goes known n (all_tops ts)) (sym e)))

pub syntax_refused : (d : Form) (ks known : List Macro) (n : Counts) (f : ExpandErr) (ts new : List Top) → SyntaxAs d ks (Err f) known → StepTaken (syntax_top ks n (form_place d) (macro_of d)) ts (Err f) known n new
syntax_refused d ks known n (fault.BadRules at) ts new h = ap (syntax_top ks n (form_place d)) h.1 ∙ ap (λ at. ends (fault.BadRules at)) (sym h.0)
syntax_refused d ks known n (fault.NoRule at) ts new h = absurd h
syntax_refused d ks known n (fault.Form at) ts new h = absurd h
syntax_refused d ks known n (fault.Limit k) ts new h = absurd h
syntax_refused d ks known n fault.Memory ts new h = tt

pub spliced_taken : (ks : List Macro) (n : Counts) (d : Form) (old new : List Top) → new ≡ tops_of (parts_of d) ++ old → over (top_as (special key.Begin) ks n d) old ≡ goes ks n new
spliced_taken ks n d old new e = ap (goes ks n) (sym e)

pub forms_taken : (d : Form) (fs : List Datum) (old new : List Top) → new ≡ tops_of (data_of fs) ++ old → data_of fs ≡ parts_of d → new ≡ tops_of (parts_of d) ++ old
forms_taken d fs old new e f = e ∙ ap (λ ds. tops_of ds ++ old) f

-- Walks at top level --------------------------------------------------------------------

pub at_top : (ks : List Macro) (room : ℕ) (s : List Marked) (n : Counts) (m : Mid) (r : Result CoreExpr ExpandErr) (after : Counts) → s ≡ [] → Walked ks room s n m r after → Walked ks room [] n m r after
at_top ks room s n m r after e h = subst (λ s. Walked ks room s n m r after) e h

pub memory_walked : (ks : List Macro) (n : Counts) (p : TopProgress (List Top)) (f : ExpandErr) (after : Counts) → IsMemory f → StepWalked ks n p (Err f) after
memory_walked ks n p (fault.BadRules at) after h t e = absurd h
memory_walked ks n p (fault.NoRule at) after h t e = absurd h
memory_walked ks n p (fault.Form at) after h t e = absurd h
memory_walked ks n p (fault.Limit k) after h t e = absurd h
memory_walked ks n p fault.Memory after h t e = tt
