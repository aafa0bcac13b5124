-- What data are templates.
use Rattle.std.specs.Prelude.{ℕ, suc, Bool, true, false, not, if◌then◌else◌, nat_eq, List, [], ◌∷◌, ◌++◌, get_or, Option, Some, None}
use Rattle.scheme_data.specs.Names.{is_same}
use Rattle.scheme_data.specs.Forms.{Form, Forms, atom, symbol, listed, dotted, vector, end, next}
use Rattle.marked_names.specs.MarkedNames.{marked_place}
use Rattle.syntax_rules.specs.declared.tree.Step.TheVariants.{Item, Row}
use Rattle.syntax_rules.specs.Patterns.{dots, is_dots}
use Rattle.syntax_rules.specs.Trees.{Template, Templates, given, fresh, fixed, compound, repeated, none, then_template, Path}

-- how many `...` a name stands under
abbrev pub depth : Path → ℕ
depth [] = 0
depth (Item i ∷ ss) = depth ss
depth (Row i ∷ ss) = suc (depth ss)

abbrev pub path_at : List Path → ℕ → Path
path_at paths i = get_or paths i []

abbrev pub begin_dots : Forms → Bool
begin_dots end = false
begin_dots (next d ds) = is_dots d

abbrev pub as_compound : Option Templates → Option Template
as_compound None = None
as_compound (Some ts) = Some (compound ts)

-- an element, which repeats where `...` follows: then it has to hold a name of the pattern
abbrev pub as_element : Bool → List ℕ → Option Template → Option Template
as_element repeats ns None = None
as_element false ns (Some t) = Some t
as_element true [] (Some t) = None
as_element true (i ∷ is) (Some t) = Some (repeated (i ∷ is) t)

abbrev pub element_in_front : Option Template → Option Templates → Option Templates
element_in_front None ts = None
element_in_front (Some t) None = None
element_in_front (Some t) (Some ts) = Some (then_template t ts)

-- `...` is dropped where it may stand, and another datum is an element
abbrev pub joined : Bool → Bool → Option Template → Option Templates → Option Templates
joined true true t ts = ts
joined true false t ts = None
joined false allowed t ts = element_in_front t ts

abbrev pub under : Bool → ℕ → ℕ
under true n = suc n
under false n = n

abbrev pub listed_number : Option ℕ → List ℕ
listed_number None = []
listed_number (Some i) = i ∷ []

-- a name of the pattern stands under as many `...` as there
abbrev pub as_symbol : List Path → ℕ → List ℕ → Option ℕ → Option Template
as_symbol paths n x None = Some (fresh x)
as_symbol paths n x (Some i) = if nat_eq (depth (path_at paths i)) n then Some (given i) else None

module _ (names : List (List ℕ × ℕ)) where
  -- the numbers of the names that stand in a template
  abbrev mutual
    pub numbers_of : Form → List ℕ
    numbers_of (symbol at x m) = listed_number (marked_place x m names)
    numbers_of (listed at ts) = numbers_in ts
    numbers_of _ = []

    pub numbers_in : Forms → List ℕ
    numbers_in end = []
    numbers_in (next t ts) = numbers_of t ++ numbers_in ts

module _ (names : List (List ℕ × ℕ)) (paths : List Path) where
  -- a template that stands under so many `...`
  abbrev mutual
    pub template_of : ℕ → Form → Option Template
    template_of n (atom at a) = Some (fixed a)
    template_of n (symbol at x m) = if is_same x dots then None else as_symbol paths n x (marked_place x m names)
    template_of n (listed at ts) = as_compound (templates_of n false ts)
    template_of n (dotted at ts t) = None
    template_of n (vector at ts) = None

    -- `...` may come first where it follows an element
    pub templates_of : ℕ → Bool → Forms → Option Templates
    templates_of n allowed end = Some none
    templates_of n allowed (next t ts) = joined (is_dots t) allowed
        (as_element (begin_dots ts) (numbers_of names t) (template_of (under (begin_dots ts) n) t))
        (templates_of n (not (is_dots t)) ts)
