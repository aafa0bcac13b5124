-- The forms behind a word, and definitions, as the code takes them apart.
use Rattle.std.specs.Prelude.{◌≡◌, Option, Some, None}
use Rattle.scheme_data.specs.Forms.{Form, form_place, form}
use Rattle.core_forms.specs.Scope.{parts_of}
use Rattle.core_forms.specs.Bodies as bodies
use Rattle.core_forms.specs.Bodies.{value, procedure}
use Rattle.core_forms.specs.Code.{data_of}
use Rattle.expansion_steps.specs.declared.turning.Special.{Special}
use Rattle.expansion_steps.specs.declared.looking.Definition.{Definition}
use Rattle.expansion_steps.specs.declared.looking.Definition.TheVariants as code

-- the place of a form, and the forms behind its head
pub record IsBehind (d : Form) (b : Special) : Type 0 where
  pub place : b.at ≡ form_place d
  pub parts : data_of b.forms ≡ parts_of d

abbrev pub definition_is : Definition → bodies.Definition
definition_is (code.Value x word name e) = value x (form word) (form name) (form e)
definition_is (code.Procedure x ds) = procedure x (data_of ds)

abbrev pub DefinedAs : Option bodies.Definition → Option Definition → Type 0
DefinedAs o None = o ≡ None
DefinedAs o (Some d) = o ≡ Some (definition_is d)
