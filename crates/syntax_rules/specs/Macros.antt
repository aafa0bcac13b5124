-- What a `define-syntax` declares (R5RS, section 4.3).
use Rattle.std.specs.Prelude.{ℕ, if◌then◌else◌, List, [], ◌∷◌, ◌++◌, codes, Option, Some, None}
use Rattle.scheme_data.specs.Forms.{Form, Forms, symbol, listed, end, next, form_says}
use Rattle.name_table.specs.Names.{has_name}
use Rattle.syntax_rules.specs.Patterns.{patterns_of, names_in, paths_in, are_apart}
use Rattle.syntax_rules.specs.Templates.{template_of}
use Rattle.syntax_rules.specs.Trees.{Patterns, Template, Path, Rule, Macro}

abbrev pub with_template : Patterns → List Path → Option Template → Option Rule
with_template p paths None = None
with_template p paths (Some t) = Some (record { pattern = p; paths = paths; template = t })

abbrev pub with_pattern : List (List ℕ × ℕ) → List Path → Form → Option Patterns → Option Rule
with_pattern names paths t None = None
with_pattern names paths t (Some p) = if are_apart [] names then with_template p paths (template_of names paths 0 t) else None

-- the parts of a list; a dotted list is none
abbrev pub parts_of : Form → Option Forms
parts_of (listed at ds) = Some ds
parts_of _ = None

abbrev pub symbol_of : Form → Option (List ℕ)
symbol_of (symbol at x m) = Some x
symbol_of _ = None

-- the first element of the pattern is ignored
abbrev pub rule_with : List (List ℕ) → Option Forms → Form → Option Rule
rule_with literals (Some (next first ps)) t = with_pattern (names_in literals ps) (paths_in literals [] 1 ps) t (patterns_of literals ps)
rule_with literals _ t = None

abbrev pub rule_from : List (List ℕ) → Option Forms → Option Rule
rule_from literals (Some (next p (next t end))) = rule_with literals (parts_of p) t
rule_from literals _ = None

-- `(pattern template)`
abbrev pub rule_of : List (List ℕ) → Form → Option Rule
rule_of literals d = rule_from literals (parts_of d)

abbrev pub rule_in_front : Option Rule → Option (List Rule) → Option (List Rule)
rule_in_front None rs = None
rule_in_front (Some r) None = None
rule_in_front (Some r) (Some rs) = Some (r ∷ rs)

abbrev pub rules_of : List (List ℕ) → Forms → Option (List Rule)
rules_of literals end = Some []
rules_of literals (next r rs) = rule_in_front (rule_of literals r) (rules_of literals rs)

abbrev pub with_name : List (List ℕ) → List ℕ → List (List ℕ)
with_name names x = if has_name names x then names else names ++ x ∷ []

-- these names and the literals that follow, each once
abbrev pub literals_of : List (List ℕ) → Forms → Option (List (List ℕ))
literals_of names end = Some names
literals_of names (next (symbol p x m) ds) = literals_of (with_name names x) ds
literals_of names (next d ds) = None

abbrev pub with_rules : List ℕ → Option (List Rule) → Option Macro
with_rules x None = None
with_rules x (Some rs) = Some (record { name = x; rules = rs })

abbrev pub with_literals : List ℕ → Forms → Option (List (List ℕ)) → Option Macro
with_literals x rs None = None
with_literals x rs (Some literals) = with_rules x (rules_of literals rs)

abbrev pub with_parts : List ℕ → Forms → Option Forms → Option Macro
with_parts x rs None = None
with_parts x rs (Some literals) = with_literals x rs (literals_of [] literals)

abbrev pub rules_from : List ℕ → Option Forms → Option Macro
rules_from x (Some (next word (next literals rs))) = if form_says word (codes "syntax-rules") then with_parts x rs (parts_of literals) else None
rules_from x _ = None

-- `(syntax-rules (literal ...) (pattern template) ...)`
abbrev pub rules_for : List ℕ → Form → Option Macro
rules_for x d = rules_from x (parts_of d)

abbrev pub named_rules : Option (List ℕ) → Form → Option Macro
named_rules None rules = None
named_rules (Some x) rules = rules_for x rules

abbrev pub macro_from : Option Forms → Option Macro
macro_from (Some (next word (next name (next rules end)))) = named_rules (symbol_of name) rules
macro_from _ = None

-- `(define-syntax name rules)`
abbrev pub macro_of : Form → Option Macro
macro_of d = macro_from (parts_of d)
