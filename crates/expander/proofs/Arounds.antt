-- What is known around a form stays.
use Rattle.std.proofs.Common.{List, refl, ◌∙◌, subst}
use Rattle.syntax_rules.specs.declared.rules.Rules.{Rules}
use Rattle.core_forms.specs.Scope.{Marked}
use Rattle.expander.specs.declared.expander.Expander.{Expander}
use Rattle.expander.specs.Around.{SameAround}

pub same_self : (a : Expander) → SameAround a a
same_self a = record { macros = refl; scope = refl }

pub same_on : (a b d : Expander) → SameAround a b → SameAround b d → SameAround a d
same_on a b d e f = record { macros = f.macros ∙ e.macros; scope = f.scope ∙ e.scope }

pub around_by : (P : List Rules → List Marked → Type 0) (a b : Expander) → SameAround a b → P b.macros b.scope → P a.macros a.scope
around_by P a b e h = subst (λ (s : List Marked). P a.macros s) e.scope (subst (λ (m : List Rules). P m b.scope) e.macros h)
