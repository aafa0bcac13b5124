-- How a pattern matches a datum.
use Rattle.std.specs.Prelude.{Bool, true, false, ◌&&◌, Option, Some, None}
use Rattle.scheme_data.specs.Forms.{Atom, Form, Forms, atom, listed, end, next, same_atom, form_says}
use Rattle.syntax_rules.specs.Trees.{Pattern, Patterns, any, literal, constant, no_more, more, each}
use Rattle.syntax_rules.specs.Trees as tree

abbrev pub atom_is : Atom → Form → Bool
atom_is a (atom at b) = same_atom a b
atom_is a _ = false

-- the constant that a datum is
abbrev pub atom_if : Form → Option Atom
atom_if (atom at a) = Some a
atom_if _ = None

abbrev pub in_list : Form → (Forms → Bool) → Bool
in_list (listed at ds) f = f ds
in_list _ f = false

abbrev pub first_and_rest : Forms → (Form → Bool) → (Forms → Bool) → Bool
first_and_rest end f g = false
first_and_rest (next d ds) f g = f d && g ds

abbrev pub at_end : Forms → Bool
at_end end = true
at_end (next d ds) = false

abbrev pub every : (Form → Bool) → Forms → Bool
every f end = true
every f (next d ds) = f d && every f ds

-- a literal matches a symbol of its name whatever its mark, a constant one of the same kind and value, and a list the parts of a list
abbrev mutual
  pub matches : Pattern → Form → Bool
  matches any d = true
  matches (literal x) d = form_says d x
  matches (constant a) d = atom_is a d
  matches (tree.listed ps) d = in_list d (all_match ps)

  pub all_match : Patterns → Forms → Bool
  all_match no_more ds = at_end ds
  all_match (more p ps) ds = first_and_rest ds (matches p) (all_match ps)
  all_match (each p) ds = every (matches p) ds
