-- What the expander knows around a form.
use Rattle.std.specs.Prelude.{◌≡◌}
use Rattle.expander.specs.declared.expander.Expander.{Expander}

-- what is known around a form is the same behind it
pub record SameAround (before after : Expander) : Type 0 where
  pub macros : after.macros ≡ before.macros
  pub scope : after.scope ≡ before.scope
