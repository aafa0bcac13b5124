-- The forms at top level as the code holds them, and what is found in a scan.
use Rattle.std.specs.Prelude.{◌≡◌, List, map, Some, None, Result, Ok, Err}
use Rattle.scheme_data.specs.Forms.{Form, form_place, form}
use Rattle.syntax_rules.specs.Trees.{Macro}
use Rattle.syntax_rules.specs.Macros.{macro_of}
use Rattle.syntax_rules.specs.Views.{the_macro}
use Rattle.syntax_rules.specs.declared.rules.Rules.{Rules}
use Rattle.core_forms.specs.Scope.{with_macro}
use Rattle.core_forms.specs.Modules as modules
use Rattle.core_forms.specs.Modules.{Scanned, scanned, bad}
use Rattle.core_forms.specs.declared.error.ExpandErr.{ExpandErr}
use Rattle.core_forms.specs.declared.error.ExpandErr.TheVariants as fault
use Rattle.expansion_steps.specs.Heads.{macros_of}
use Rattle.expander.specs.declared.scanning.Top.{Top}
use Rattle.expander.specs.declared.scanning.Top.TheVariants as code
use Rattle.expander.specs.declared.scanning.Found.{Found}

abbrev pub top_of : Top → modules.Top
top_of (code.Form d) = modules.form (form d)
top_of (code.Syntax at x) = modules.syntax at x

abbrev pub all_tops : List Top → List modules.Top
all_tops ts = map top_of ts

abbrev pub found_in : Found → Scanned
found_in f = scanned (macros_of f.macros) (all_tops f.tops)

-- the rules that a `define-syntax` declares
abbrev pub RulesAs : Form → Result Rules ExpandErr → Type 0
RulesAs d (Ok r) = macro_of d ≡ Some (the_macro r)
RulesAs d (Err (fault.BadRules at)) = (at ≡ form_place d) × (macro_of d ≡ None)
RulesAs d (Err fault.Memory) = Unit {0}
RulesAs d (Err e) = ⊥

-- its macro is known from then on
pub record IsSyntax (d : Form) (old : List Macro) (t : Top) (new : List Macro) : Type 0 where
  pub rules : Macro
  pub is : macro_of d ≡ Some rules
  pub known : new ≡ with_macro old rules
  pub shown : top_of t ≡ modules.syntax (form_place d) rules.name

abbrev pub SyntaxAs : Form → List Macro → Result Top ExpandErr → List Macro → Type 0
SyntaxAs d old (Ok t) new = IsSyntax d old t new
SyntaxAs d old (Err (fault.BadRules at)) new = (at ≡ form_place d) × (macro_of d ≡ None)
SyntaxAs d old (Err fault.Memory) new = Unit {0}
SyntaxAs d old (Err e) new = ⊥

-- a scan finds this, or bad rules
abbrev pub ScansAs : Scanned → Result (Unit {0}) ExpandErr → Scanned → Type 0
ScansAs s (Ok a) new = s ≡ new
ScansAs s (Err (fault.BadRules at)) new = s ≡ bad at
ScansAs s (Err fault.Memory) new = Unit {0}
ScansAs s (Err e) new = ⊥

abbrev pub FindsAs : Scanned → Result Found ExpandErr → Type 0
FindsAs s (Ok f) = s ≡ found_in f
FindsAs s (Err (fault.BadRules at)) = s ≡ bad at
FindsAs s (Err fault.Memory) = Unit {0}
FindsAs s (Err e) = ⊥
