-- What a use of a macro becomes.
use Rattle.std.specs.Prelude.{ℕ, if◌then◌else◌, List, [], ◌∷◌, Option, Some, None}
use Rattle.scheme_data.specs.Forms.{Form, Forms, listed, next}
use Rattle.scheme_data.specs.declared.datum.Place.{Place}
use Rattle.syntax_rules.specs.Filling.{agrees, filled}
use Rattle.syntax_rules.specs.Matching.{all_match}
use Rattle.syntax_rules.specs.Trees.{Rule, Macro}

abbrev pub only : List Form → Option Form
only (d ∷ []) = Some d
only _ = None

-- the data behind the head
abbrev pub parts_of_use : Form → Option Forms
parts_of_use (listed at (next head ds)) = Some ds
parts_of_use _ = None

-- what a rule makes of a use that it matches; lengths that differ refuse it
abbrev pub made_by : Rule → Place → ℕ → Form → Option Form
made_by r at mark d = if agrees r.paths d [] r.template then only (filled r.paths d at mark [] r.template) else None

-- the first rule whose pattern matches, filled
abbrev pub by_rules : List Rule → Place → ℕ → Form → Forms → Option Form
by_rules [] at mark d ds = None
by_rules (r ∷ rs) at mark d ds = if all_match r.pattern ds then made_by r at mark d else by_rules rs at mark d ds

abbrev pub of_parts : List Rule → Place → ℕ → Form → Option Forms → Option Form
of_parts rs at mark d None = None
of_parts rs at mark d (Some ds) = by_rules rs at mark d ds

-- what a use at a place becomes, where a rule matches it
abbrev pub used_once : Macro → Place → ℕ → Form → Option Form
used_once k at mark d = of_parts k.rules at mark d (parts_of_use d)
