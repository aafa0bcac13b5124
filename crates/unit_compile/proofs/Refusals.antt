-- What is refused is refused for one cause.
use Rattle.std.proofs.Common.{◌≡◌, ℕ, List, Some, inl, inr, Result, Ok, Err, refl, sym, ap, ◌∙◌, subst}
use Rattle.scheme_data.specs.declared.datum.Datum.{Datum}
use Rattle.scheme_read.specs.declared.error.ReadErr.{ReadErr}
use Rattle.scheme_read.specs.declared.error.ReadErr.TheVariants as reading
use Rattle.scheme_read.specs.Answers.{Reads, IsSource, IsFault, Gives as GivesData, Refuses as RefusesFault}
use Rattle.unit_compile.specs.declared.error.UnitErr.{UnitErr}
use Rattle.unit_compile.specs.declared.error.UnitErr.TheVariants.{Syntax, Limit, Header, Duplicate, BadRules, NoRule, Form, NotBuilt, Memory}
use Rattle.unit_compile.specs.Compilation.{refusal_for, refusal_of_expansion, ExportsAs, CompilesTo}
use Rattle.module_head.specs.declared.head.Head.{Head}
use Rattle.module_head.specs.Heads.{Breach, header, duplicate, right as is_right, wrong_at_first}
use Rattle.core_forms.specs.declared.error.ExpandErr.{ExpandErr}
use Rattle.core_forms.specs.declared.error.ExpandErr.TheVariants as expansion
use Rattle.core_forms.specs.Modules.{IsRefused, Expands}
use Rattle.core_forms.specs.declared.core_form.Core.{Core}
use Rattle.expander.specs.Answers.{Answer, Refuses as RefusesBreach, core_trees}
use Rattle.unit_compile.specs.Refusals.{head_in, behind_head, AreRight, IsBreach, AreRefused, IsRefusal, Refuses, ChecksAs, FormsAs}

-- Where a source isn't read -----------------------------------------------------------------

pub read_refused : (source : List ℕ) (fault : ReadErr) → Reads source (Err fault) → FormsAs source (Err (refusal_for fault))
read_refused source (reading.Syntax at) h = h
read_refused source (reading.Limit kind at) h = inl (at, h)
read_refused source reading.Memory h = tt

-- what reading promises of its answer
abbrev pub Given : List ℕ → Result (List Datum) ReadErr → Type 0
Given source r = (ds : List Datum) → IsSource source ds → GivesData ds r

abbrev pub Refused : List ℕ → Result (List Datum) ReadErr → Type 0
Refused source r = (fault : ReadErr) → IsFault source fault → RefusesFault fault r

same_fault : (fault e : ReadErr) → RefusesFault e (Err fault) → Refuses {A = List Datum} (refusal_for e) (Err (refusal_for fault))
same_fault (reading.Syntax at) e same = ap refusal_for same
same_fault (reading.Limit kind at) e same = ap refusal_for same
same_fault reading.Memory e same = tt

not_given : (fault : ReadErr) (ds : List Datum) (r : UnitErr) → GivesData ds (Err fault) → Refuses {A = List Datum} r (Err (refusal_for fault))
not_given (reading.Syntax at) ds r h = absurd h
not_given (reading.Limit kind at) ds r h = absurd h
not_given reading.Memory ds r h = tt

pub fault_decides : (source : List ℕ) (fault : ReadErr) (r : UnitErr) → Given source (Err fault) → Refused source (Err fault) → IsRefusal source r → Refuses {A = List Datum} r (Err (refusal_for fault))
fault_decides source fault (Syntax at) given refused h = same_fault fault (reading.Syntax at) (refused (reading.Syntax at) h)
fault_decides source fault (Limit kind) given refused (inl h) = same_fault fault (reading.Limit kind h.0) (refused (reading.Limit kind h.0) h.1)
fault_decides source fault (Limit kind) given refused (inr h) = not_given fault h.forms (Limit kind) (given h.forms h.read)
fault_decides source fault (Header at) given refused h = not_given fault h.forms (Header at) (given h.forms h.read)
fault_decides source fault (Duplicate name) given refused h = not_given fault h.forms (Duplicate name) (given h.forms h.read)
fault_decides source fault (BadRules at) given refused h = not_given fault h.forms (BadRules at) (given h.forms h.read)
fault_decides source fault (NoRule at) given refused h = not_given fault h.forms (NoRule at) (given h.forms h.read)
fault_decides source fault (Form at) given refused h = not_given fault h.forms (Form at) (given h.forms h.read)
fault_decides source fault NotBuilt given refused h = absurd h
fault_decides source fault Memory given refused h = absurd h

-- Where it is read --------------------------------------------------------------------------

pub forms_refused : (source : List ℕ) (forms : List Datum) (e : UnitErr) → IsSource source forms → ChecksAs forms (Err e) → FormsAs source (Err e)
forms_refused source forms (Syntax at) read h = absurd h
forms_refused source forms (Limit kind) read h = inr (record { forms = forms; read = read; holds = h })
forms_refused source forms (Header at) read h = record { forms = forms; read = read; holds = h }
forms_refused source forms (Duplicate name) read h = record { forms = forms; read = read; holds = h }
forms_refused source forms (BadRules at) read h = record { forms = forms; read = read; holds = h }
forms_refused source forms (NoRule at) read h = record { forms = forms; read = read; holds = h }
forms_refused source forms (Form at) read h = record { forms = forms; read = read; holds = h }
forms_refused source forms NotBuilt read h = absurd h
forms_refused source forms Memory read h = tt

-- what the phases behind reading refuse is what the source is refused for
pub forms_decide : {A : Type 0} (source : List ℕ) (forms : List Datum) (answer : Result A UnitErr) (r : UnitErr) → Given source (Ok forms) → Refused source (Ok forms)
    → ((e : UnitErr) → AreRefused forms e → Refuses e answer) → IsRefusal source r → Refuses r answer
forms_decide source forms answer (Syntax at) given refused checked h = absurd (refused (reading.Syntax at) h)
forms_decide source forms answer (Limit kind) given refused checked (inl h) = absurd (refused (reading.Limit kind h.0) h.1)
forms_decide source forms answer (Limit kind) given refused checked (inr h) = checked (Limit kind) (subst (λ ds. AreRefused ds (Limit kind)) (sym (given h.forms h.read)) h.holds)
forms_decide source forms answer (Header at) given refused checked h = checked (Header at) (subst (λ ds. AreRefused ds (Header at)) (sym (given h.forms h.read)) h.holds)
forms_decide source forms answer (Duplicate name) given refused checked h = checked (Duplicate name) (subst (λ ds. AreRefused ds (Duplicate name)) (sym (given h.forms h.read)) h.holds)
forms_decide source forms answer (BadRules at) given refused checked h = checked (BadRules at) (subst (λ ds. AreRefused ds (BadRules at)) (sym (given h.forms h.read)) h.holds)
forms_decide source forms answer (NoRule at) given refused checked h = checked (NoRule at) (subst (λ ds. AreRefused ds (NoRule at)) (sym (given h.forms h.read)) h.holds)
forms_decide source forms answer (Form at) given refused checked h = checked (Form at) (subst (λ ds. AreRefused ds (Form at)) (sym (given h.forms h.read)) h.holds)
forms_decide source forms answer NotBuilt given refused checked h = absurd h
forms_decide source forms answer Memory given refused checked h = absurd h

-- what was refused stays refused whatever else is wanted
pub carried : (A B : Type 0) (e r : UnitErr) → Refuses {A = A} r (Err e) → Refuses {A = B} r (Err e)
carried A B (Syntax at) r h = h
carried A B (Limit kind) r h = h
carried A B (Header at) r h = h
carried A B (Duplicate name) r h = h
carried A B (BadRules at) r h = h
carried A B (NoRule at) r h = h
carried A B (Form at) r h = h
carried A B NotBuilt r h = h
carried A B Memory r h = h

pub exported_refused : (source : List ℕ) (e : UnitErr) → FormsAs source (Err e) → ExportsAs source (Err e)
exported_refused source (Syntax at) h = h
exported_refused source (Limit kind) h = h
exported_refused source (Header at) h = h
exported_refused source (Duplicate name) h = h
exported_refused source (BadRules at) h = h
exported_refused source (NoRule at) h = h
exported_refused source (Form at) h = h
exported_refused source NotBuilt h = absurd h
exported_refused source Memory h = tt

pub compiled_refused : (source : List ℕ) (texts : List (List ℕ)) (e : UnitErr) → FormsAs source (Err e) → CompilesTo source texts (Err e)
compiled_refused source texts (Syntax at) h = h
compiled_refused source texts (Limit kind) h = h
compiled_refused source texts (Header at) h = h
compiled_refused source texts (Duplicate name) h = h
compiled_refused source texts (BadRules at) h = h
compiled_refused source texts (NoRule at) h = h
compiled_refused source texts (Form at) h = h
compiled_refused source texts NotBuilt h = absurd h
compiled_refused source texts Memory h = tt

-- Where the head is right --------------------------------------------------------------------

-- what expansion promises of its answer
abbrev pub Stopped : List Datum → Result Core ExpandErr → Type 0
Stopped forms r = (breach : ExpandErr) → IsRefused (behind_head forms) breach → RefusesBreach breach r

pub expansion_checked : (forms : List Datum) (h : Head) (e : ExpandErr) → head_in forms ≡ is_right h → Answer (behind_head forms) (Err e) → ChecksAs forms (Err (refusal_of_expansion e))
expansion_checked forms h (expansion.BadRules at) is it = record { head = h; is_head = is; stops = it }
expansion_checked forms h (expansion.NoRule at) is it = record { head = h; is_head = is; stops = it }
expansion_checked forms h (expansion.Form at) is it = record { head = h; is_head = is; stops = it }
expansion_checked forms h (expansion.Limit kind) is it = record { head = h; is_head = is; stops = it }
expansion_checked forms h expansion.Memory is it = tt

same_breach : (A : Type 0) (e breach : ExpandErr) → RefusesBreach breach (Err e) → Refuses {A = A} (refusal_of_expansion breach) (Err (refusal_of_expansion e))
same_breach A (expansion.BadRules at) breach same = ap refusal_of_expansion same
same_breach A (expansion.NoRule at) breach same = ap refusal_of_expansion same
same_breach A (expansion.Form at) breach same = ap refusal_of_expansion same
same_breach A (expansion.Limit kind) breach same = ap refusal_of_expansion same
same_breach A expansion.Memory breach same = tt

not_header : (A : Type 0) (forms : List Datum) (h : Head) → head_in forms ≡ is_right h → (b : Breach) → head_in forms ≡ wrong_at_first b → A
not_header A forms h is b wrong = let both : wrong_at_first b ≡ is_right h = sym wrong ∙ is in absurd (cc)

-- where the head is right, only a breach of the expansion is refused
pub expansion_decides : (A : Type 0) (forms : List Datum) (h : Head) (e : ExpandErr) (r : UnitErr) → head_in forms ≡ is_right h → Stopped forms (Err e) → AreRefused forms r → Refuses {A = A} r (Err (refusal_of_expansion e))
expansion_decides A forms h e (Syntax at) is stopped refused = absurd refused
expansion_decides A forms h e (Limit kind) is stopped refused = same_breach A e (expansion.Limit kind) (stopped (expansion.Limit kind) refused.stops)
expansion_decides A forms h e (Header at) is stopped refused = not_header (Refuses {A = A} (Header at) (Err (refusal_of_expansion e))) forms h is (header at) refused
expansion_decides A forms h e (Duplicate name) is stopped refused = not_header (Refuses {A = A} (Duplicate name) (Err (refusal_of_expansion e))) forms h is (duplicate name) refused
expansion_decides A forms h e (BadRules at) is stopped refused = same_breach A e (expansion.BadRules at) (stopped (expansion.BadRules at) refused.stops)
expansion_decides A forms h e (NoRule at) is stopped refused = same_breach A e (expansion.NoRule at) (stopped (expansion.NoRule at) refused.stops)
expansion_decides A forms h e (Form at) is stopped refused = same_breach A e (expansion.Form at) (stopped (expansion.Form at) refused.stops)
expansion_decides A forms h e NotBuilt is stopped refused = absurd refused
expansion_decides A forms h e Memory is stopped refused = absurd refused

-- where it is expanded, nothing is refused
pub nothing_refused : (A : Type 0) (forms : List Datum) (h : Head) (c : Core) (r : UnitErr) → head_in forms ≡ is_right h → Stopped forms (Ok c) → AreRefused forms r → A
nothing_refused A forms h c (Syntax at) is stopped refused = absurd refused
nothing_refused A forms h c (Limit kind) is stopped refused = absurd (stopped (expansion.Limit kind) refused.stops)
nothing_refused A forms h c (Header at) is stopped refused = not_header A forms h is (header at) refused
nothing_refused A forms h c (Duplicate name) is stopped refused = not_header A forms h is (duplicate name) refused
nothing_refused A forms h c (BadRules at) is stopped refused = absurd (stopped (expansion.BadRules at) refused.stops)
nothing_refused A forms h c (NoRule at) is stopped refused = absurd (stopped (expansion.NoRule at) refused.stops)
nothing_refused A forms h c (Form at) is stopped refused = absurd (stopped (expansion.Form at) refused.stops)
nothing_refused A forms h c NotBuilt is stopped refused = absurd refused
nothing_refused A forms h c Memory is stopped refused = absurd refused
