-- Data, patterns and templates, one layer at a time.
use Rattle.std.proofs.Common.{◌≡◌, ℕ, List, map, rules}
use Rattle.scheme_data.specs.Forms.{form, forms, listed, dotted, vector}
use Rattle.scheme_data.specs.declared.datum.Place.{Place}
use Rattle.scheme_data.specs.declared.datum.Datum.{Datum}
use Rattle.scheme_data.specs.declared.datum.Datum.TheViews as datum
use Rattle.scheme_data.specs.declared.datum.Datum as data_of
use Rattle.syntax_rules.specs.declared.tree.Constant.{Constant}
use Rattle.syntax_rules.specs.declared.tree.Pattern.{Pattern}
use Rattle.syntax_rules.specs.declared.tree.Pattern.TheViews as pattern
use Rattle.syntax_rules.specs.declared.tree.Pattern as patterns_of
use Rattle.syntax_rules.specs.declared.tree.Template.{Template}
use Rattle.syntax_rules.specs.declared.tree.Template.TheViews as template
use Rattle.syntax_rules.specs.declared.tree.Template as templates_of
use Rattle.syntax_rules.specs.TreeViews.{atom_of, the_pattern, the_template, in_turn, templates}
use Rattle.syntax_rules.specs.Trees as tree

pub form-List : (at : Place) (ds : List Datum) → form (datum.List at ds) ≡ listed at (forms (map form ds))
form-List at ds = search (rules, data_of.the_lemmas)

pub form-Dotted : (at : Place) (ds : List Datum) (tail : Datum) → form (datum.Dotted at ds tail) ≡ dotted at (forms (map form ds)) (form tail)
form-Dotted at ds tail = search (rules, data_of.the_lemmas)

pub form-Vector : (at : Place) (ds : List Datum) → form (datum.Vector at ds) ≡ vector at (forms (map form ds))
form-Vector at ds = search (rules, data_of.the_lemmas)

pub pattern-Exactly : (ps : List Pattern) → the_pattern (pattern.Exactly ps) ≡ tree.listed (in_turn (map the_pattern ps) tree.no_more)
pattern-Exactly ps = search (rules, patterns_of.the_lemmas)

pub pattern-Dots : (ps : List Pattern) (p : Pattern) → the_pattern (pattern.Dots ps p) ≡ tree.listed (in_turn (map the_pattern ps) (tree.each (the_pattern p)))
pattern-Dots ps p = search (rules, patterns_of.the_lemmas)

pub pattern-Any : the_pattern patterns_of.Any ≡ tree.any
pattern-Any = search (rules, patterns_of.the_lemmas)

pub pattern-Literal : (x : List ℕ) → the_pattern (patterns_of.Literal x) ≡ tree.literal x
pattern-Literal x = search (rules, patterns_of.the_lemmas)

pub pattern-Constant : (a : Constant) → the_pattern (patterns_of.Constant a) ≡ tree.constant (atom_of a)
pattern-Constant a = search (rules, patterns_of.the_lemmas)

pub template-Compound : (ts : List Template) → the_template (template.Compound ts) ≡ tree.compound (templates (map the_template ts))
template-Compound ts = search (rules, templates_of.the_lemmas)

pub template-Repeated : (ns : List ℕ) (t : Template) → the_template (template.Repeated ns t) ≡ tree.repeated ns (the_template t)
template-Repeated ns t = search (rules, templates_of.the_lemmas)

pub template-Given : (i : ℕ) → the_template (templates_of.Given i) ≡ tree.given i
template-Given i = search (rules, templates_of.the_lemmas)

pub template-Fresh : (x : List ℕ) → the_template (templates_of.Fresh x) ≡ tree.fresh x
template-Fresh x = search (rules, templates_of.the_lemmas)

pub template-Constant : (a : Constant) → the_template (templates_of.Constant a) ≡ tree.fixed (atom_of a)
template-Constant a = search (rules, templates_of.the_lemmas)
