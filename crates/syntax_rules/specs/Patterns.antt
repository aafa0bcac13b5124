-- What data are patterns, and the names in them.
use Rattle.std.specs.Prelude.{ℕ, suc, Bool, true, false, not, if◌then◌else◌, ◌&&◌, ◌||◌, List, [], ◌∷◌, ◌++◌, Option, Some, None}
use Rattle.scheme_data.specs.Names.{is_same}
use Rattle.scheme_data.specs.Forms.{Form, Forms, atom, symbol, listed, dotted, vector, end, next, form_says}
use Rattle.name_table.specs.Names.{has_name}
use Rattle.marked_names.specs.MarkedNames.{has_marked}
use Rattle.syntax_rules.specs.declared.tree.Step.{Step}
use Rattle.syntax_rules.specs.declared.tree.Step.TheVariants.{Item, Row}
use Rattle.syntax_rules.specs.Trees.{Pattern, Patterns, any, literal, constant, no_more, more, each, Path}
use Rattle.syntax_rules.specs.Trees as tree

abbrev pub dots : List ℕ
dots = 46 ∷ 46 ∷ 46 ∷ []

abbrev pub is_dots : Form → Bool
is_dots d = form_says d dots

-- whether these are `...` alone
abbrev pub are_dots : Forms → Bool
are_dots end = false
are_dots (next d end) = is_dots d
are_dots (next d (next e es)) = false

abbrev pub as_list : Option Patterns → Option Pattern
as_list None = None
as_list (Some ps) = Some (tree.listed ps)

abbrev pub as_each : Option Pattern → Option Patterns
as_each None = None
as_each (Some p) = Some (each p)

abbrev pub in_front : Option Pattern → Option Patterns → Option Patterns
in_front None ps = None
in_front (Some p) None = None
in_front (Some p) (Some ps) = Some (more p ps)

abbrev pub step : Bool → ℕ → Step
step repeats i = if repeats then Row i else Item i

module _ (literals : List (List ℕ)) where
  -- a symbol, a constant or a list; `...` may follow the last element of a list
  abbrev mutual
    pub pattern_of : Form → Option Pattern
    pattern_of (atom at a) = Some (constant a)
    pattern_of (symbol at x m) = if is_same x dots then None else (if has_name literals x then Some (literal x) else Some any)
    pattern_of (listed at ps) = as_list (patterns_of ps)
    pattern_of (dotted at ps p) = None
    pattern_of (vector at ps) = None

    pub patterns_of : Forms → Option Patterns
    patterns_of end = Some no_more
    patterns_of (next p ps) = if are_dots ps then as_each (pattern_of p) else in_front (pattern_of p) (patterns_of ps)

  abbrev pub is_name : List ℕ → Bool
  is_name x = not (is_same x dots || has_name literals x)

  -- the names of a pattern, with their marks
  abbrev mutual
    pub names_of : Form → List (List ℕ × ℕ)
    names_of (symbol at x m) = if is_name x then (x, m) ∷ [] else []
    names_of (listed at ps) = names_in ps
    names_of _ = []

    pub names_in : Forms → List (List ℕ × ℕ)
    names_in end = []
    names_in (next p ps) = names_of p ++ names_in ps

  -- the paths of these names, for a pattern that stands at a path, and for the elements from a place on of a list that does
  abbrev mutual
    pub paths_of : Path → Form → List Path
    paths_of path (symbol at x m) = if is_name x then path ∷ [] else []
    paths_of path (listed at ps) = paths_in path 0 ps
    paths_of path _ = []

    pub paths_in : Path → ℕ → Forms → List Path
    paths_in path i end = []
    paths_in path i (next p ps) = paths_of (path ++ step (are_dots ps) i ∷ []) p ++ paths_in path (suc i) ps

-- each of these names is new behind the others
abbrev pub are_apart : List (List ℕ × ℕ) → List (List ℕ × ℕ) → Bool
are_apart others [] = true
are_apart others (n ∷ ns) = not (has_marked others n.0 n.1) && are_apart (others ++ n ∷ []) ns
