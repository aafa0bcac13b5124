-- What the code's patterns and templates stand for.
use Rattle.std.specs.Prelude.{Bool, true, false, List, [], ◌∷◌, Option, Some, None}
use Rattle.scheme_data.specs.Forms.{Atom, number, character, truth, unspecified, text}
use Rattle.syntax_rules.specs.declared.tree.Constant.{Constant}
use Rattle.syntax_rules.specs.declared.tree.Constant.TheVariants as constant
use Rattle.syntax_rules.specs.declared.tree.Pattern.{Pattern, fold-Pattern}
use Rattle.syntax_rules.specs.declared.tree.Pattern.TheOpen.{Pattern-F}
use Rattle.syntax_rules.specs.declared.tree.Template.{Template, fold-Template}
use Rattle.syntax_rules.specs.declared.tree.Template.TheOpen.{Template-F}
use Rattle.syntax_rules.specs.Trees as tree

abbrev pub atom_of : Constant → Atom
atom_of (constant.Int n) = number n
atom_of (constant.Chr b) = character b
atom_of (constant.Bool t) = truth t
atom_of constant.Unspec = unspecified
atom_of (constant.Str s) = text s

abbrev pub in_turn : List tree.Pattern → tree.Patterns → tree.Patterns
in_turn [] rest = rest
in_turn (p ∷ ps) rest = tree.more p (in_turn ps rest)

abbrev pub pattern_layer : Pattern-F tree.Pattern → tree.Pattern
pattern_layer Pattern-F.Any = tree.any
pattern_layer (Pattern-F.Literal x) = tree.literal x
pattern_layer (Pattern-F.Constant a) = tree.constant (atom_of a)
pattern_layer (Pattern-F.Exactly ps) = tree.listed (in_turn ps tree.no_more)
pattern_layer (Pattern-F.Dots ps p) = tree.listed (in_turn ps (tree.each p))

abbrev pub the_pattern : Pattern → tree.Pattern
the_pattern p = fold-Pattern tree.Pattern pattern_layer p

-- the parts of a list's pattern
abbrev pub parts : tree.Pattern → tree.Patterns
parts (tree.listed ps) = ps
parts _ = tree.no_more

abbrev pub templates : List tree.Template → tree.Templates
templates [] = tree.none
templates (t ∷ ts) = tree.then_template t (templates ts)

abbrev pub template_layer : Template-F tree.Template → tree.Template
template_layer (Template-F.Given i) = tree.given i
template_layer (Template-F.Fresh x) = tree.fresh x
template_layer (Template-F.Constant a) = tree.fixed (atom_of a)
template_layer (Template-F.Compound ts) = tree.compound (templates ts)
template_layer (Template-F.Repeated ns t) = tree.repeated ns t

abbrev pub the_template : Template → tree.Template
the_template t = fold-Template tree.Template template_layer t

abbrev pub pattern_if : Option Pattern → Option tree.Pattern
pattern_if None = None
pattern_if (Some p) = Some (the_pattern p)

abbrev pub template_if : Option Template → Option tree.Template
template_if None = None
template_if (Some t) = Some (the_template t)

abbrev pub constant_if : Option Constant → Option Atom
constant_if None = None
constant_if (Some a) = Some (atom_of a)

-- no element that repeats
abbrev pub is_single : tree.Template → Bool
is_single (tree.repeated ns t) = false
is_single _ = true
