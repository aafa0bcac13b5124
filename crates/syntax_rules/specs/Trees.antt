-- What rules of `syntax-rules` are once they are read: patterns and templates as trees, in which the names of a pattern are numbered from the left.
use Rattle.std.specs.Prelude.{ℕ, List}
use Rattle.scheme_data.specs.Forms.{Atom}
use Rattle.syntax_rules.specs.declared.tree.Step.{Step}

mutual
  pub data Pattern : Type 0 where
    -- a name of the pattern, which matches anything
    any : Pattern
    literal : List ℕ → Pattern
    constant : Atom → Pattern
    listed : Patterns → Pattern

  pub data Patterns : Type 0 where
    no_more : Patterns
    more : Pattern → Patterns → Patterns
    -- the pattern before `...`, which matches each of the data that are left
    each : Pattern → Patterns

mutual
  pub data Template : Type 0 where
    -- what stands for the name of the pattern that has this number
    given : ℕ → Template
    -- a symbol that is no name of the pattern
    fresh : List ℕ → Template
    fixed : Atom → Template
    compound : Templates → Template
    -- an element before `...`, with the numbers of the names that stand in it
    repeated : List ℕ → Template → Template

  pub data Templates : Type 0 where
    none : Templates
    then_template : Template → Templates → Templates

-- how to come from a use to what stands for a name in it: at each list on the way the place of an element, or of the first of those that repeat
abbrev pub Path : Type 0
Path = List Step

pub record Rule : Type 0 where
  pub pattern : Patterns
  -- of each name of the pattern
  pub paths : List Path
  pub template : Template

pub record Macro : Type 0 where
  pub name : List ℕ
  pub rules : List Rule
