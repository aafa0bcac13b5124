-- What is read behind what was read before.
use Rattle.std.proofs.Common.{◌≡◌, ℕ, zero, suc, ◌+◌, ◌<◌, length, drop, get_or, arith, Bool, true, false, not, if◌then◌else◌, List, [], ◌∷◌, ◌++◌, map, Option, Some, None, refl, sym, ap, ◌∙◌}
use Rattle.std.proofs.lemmas.List.{map-append}
use Rattle.scheme_data.specs.Forms.{Form, Forms, form, forms, next, end}
use Rattle.syntax_rules.specs.Patterns.{in_front, as_each, as_list, pattern_of, patterns_of, are_dots, is_dots}
use Rattle.syntax_rules.specs.Templates.{as_compound, as_element, element_in_front, joined, template_of, templates_of, numbers_of, begin_dots, under}
use Rattle.syntax_rules.specs.TreeViews.{in_turn, templates, the_pattern, the_template}
use Rattle.syntax_rules.specs.declared.tree.Pattern.{Pattern}
use Rattle.syntax_rules.specs.declared.tree.Pattern.TheViews as pattern
use Rattle.syntax_rules.specs.declared.tree.Template.{Template}
use Rattle.syntax_rules.specs.declared.tree.Template.TheViews as template
use Rattle.syntax_rules.specs.Trees as tree
use Rattle.scheme_data.specs.declared.datum.Datum.{Datum}
use Rattle.syntax_rules.proofs.Dots.{next_is}
use Rattle.syntax_rules.proofs.Layers.{pattern-Exactly, pattern-Dots, template-Compound}

abbrev pub rules_behind : List tree.Rule → Option (List tree.Rule) → Option (List tree.Rule)
rules_behind rs None = None
rules_behind rs (Some ss) = Some (rs ++ ss)

-- Patterns ---------------------------------------------------------------------------------

abbrev pub patterns_behind : List tree.Pattern → Option tree.Patterns → Option tree.Patterns
patterns_behind ps None = None
patterns_behind ps (Some rest) = Some (in_turn ps rest)

in_turn_join : (ps : List tree.Pattern) (p : tree.Pattern) (rest : tree.Patterns) → in_turn (ps ++ p ∷ []) rest ≡ in_turn ps (tree.more p rest)
in_turn_join [] p rest = refl
in_turn_join (q ∷ qs) p rest = ap (tree.more q) (in_turn_join qs p rest)

behind_join : (ps : List tree.Pattern) (p : tree.Pattern) (o : Option tree.Patterns) → patterns_behind ps (in_front (Some p) o) ≡ patterns_behind (ps ++ p ∷ []) o
behind_join ps p None = refl
behind_join ps p (Some rest) = ap Some (sym (in_turn_join ps p rest))

module _ (literals : List (List ℕ)) where
  next_pattern : (d : Form) (rest : Forms) (b : Bool) → are_dots rest ≡ b → patterns_of literals (next d rest) ≡ if b then as_each (pattern_of literals d) else in_front (pattern_of literals d) (patterns_of literals rest)
  next_pattern d rest b e = ap (λ b. if b then as_each (pattern_of literals d) else in_front (pattern_of literals d) (patterns_of literals rest)) e

  pub pattern_on : (whole here rest : Forms) (d : Form) (old new : List Pattern) (p : Pattern) (b : Bool) → patterns_of literals whole ≡ patterns_behind (map the_pattern old) (patterns_of literals here)
      → here ≡ next d rest → b ≡ are_dots rest → b ≡ false → Some (the_pattern p) ≡ pattern_of literals d → new ≡ old ++ p ∷ []
      → patterns_of literals whole ≡ patterns_behind (map the_pattern new) (patterns_of literals rest)
  pattern_on whole here rest d old new p b e f g h k n =
      e ∙ ap (λ fs. patterns_behind (map the_pattern old) (patterns_of literals fs)) f
      ∙ ap (patterns_behind (map the_pattern old)) (next_pattern d rest false (sym g ∙ h) ∙ ap (λ o. in_front o (patterns_of literals rest)) (sym k))
      ∙ behind_join (map the_pattern old) (the_pattern p) (patterns_of literals rest)
      ∙ ap (λ ps. patterns_behind ps (patterns_of literals rest)) (sym (ap (map the_pattern) n ∙ map-append the_pattern old (p ∷ [])))

  pub pattern_dots : (whole here rest : Forms) (d : Form) (old : List Pattern) (p q : Pattern) (b : Bool) → patterns_of literals whole ≡ patterns_behind (map the_pattern old) (patterns_of literals here)
      → here ≡ next d rest → b ≡ are_dots rest → b ≡ true → Some (the_pattern p) ≡ pattern_of literals d → q ≡ p
      → Some (the_pattern (pattern.Dots old q)) ≡ as_list (patterns_of literals whole)
  pattern_dots whole here rest d old p q b e f g h k l =
      ap Some (pattern-Dots old q ∙ ap (λ (p : Pattern). tree.listed (in_turn (map the_pattern old) (tree.each (the_pattern p)))) l)
      ∙ sym (ap as_list (e ∙ ap (λ fs. patterns_behind (map the_pattern old) (patterns_of literals fs)) f
      ∙ ap (patterns_behind (map the_pattern old)) (next_pattern d rest true (sym g ∙ h) ∙ ap as_each (sym k))))

  pub pattern_end : (whole here : Forms) (old : List Pattern) → patterns_of literals whole ≡ patterns_behind (map the_pattern old) (patterns_of literals here) → here ≡ end
      → Some (the_pattern (pattern.Exactly old)) ≡ as_list (patterns_of literals whole)
  pattern_end whole here old e f = ap Some (pattern-Exactly old) ∙ sym (ap as_list (e ∙ ap (λ fs. patterns_behind (map the_pattern old) (patterns_of literals fs)) f))

same_default : {A : Type 0} (l : List A) (p : ℕ) (d e : A) → p < length l → get_or l p d ≡ get_or l p e
same_default [] p d e low = absurd (omega arith)
same_default (x ∷ xs) zero d e low = refl
same_default (x ∷ xs) (suc p) d e low = same_default xs p d e (omega arith)

-- Templates --------------------------------------------------------------------------------

abbrev pub templates_in_turn : List tree.Template → tree.Templates → tree.Templates
templates_in_turn [] rest = rest
templates_in_turn (t ∷ ts) rest = tree.then_template t (templates_in_turn ts rest)

abbrev pub templates_behind : List tree.Template → Option tree.Templates → Option tree.Templates
templates_behind ts None = None
templates_behind ts (Some rest) = Some (templates_in_turn ts rest)

turn_join : (ts : List tree.Template) (t : tree.Template) (rest : tree.Templates) → templates_in_turn (ts ++ t ∷ []) rest ≡ templates_in_turn ts (tree.then_template t rest)
turn_join [] t rest = refl
turn_join (u ∷ us) t rest = ap (tree.then_template u) (turn_join us t rest)

templates_join : (ts : List tree.Template) (t : tree.Template) (o : Option tree.Templates) → templates_behind ts (element_in_front (Some t) o) ≡ templates_behind (ts ++ t ∷ []) o
templates_join ts t None = refl
templates_join ts t (Some rest) = ap Some (sym (turn_join ts t rest))

all_in_turn : (ts : List tree.Template) → templates_in_turn ts tree.none ≡ templates ts
all_in_turn [] = refl
all_in_turn (t ∷ ts) = ap (tree.then_template t) (all_in_turn ts)

module _ (names : List (List ℕ × ℕ)) (paths : List tree.Path) (n : ℕ) where
  abbrev element : Form → Forms → Option tree.Template
  element d rest = as_element (begin_dots rest) (numbers_of names d) (template_of names paths (under (begin_dots rest) n) d)

  abbrev pub Behind : Forms → List Template → Bool → Forms → Type 0
  Behind whole ts allowed here = templates_of names paths n false whole ≡ templates_behind (map the_template ts) (templates_of names paths n allowed here)

  pub no_element : (whole here rest : Forms) (d : Form) (ts : List Template) (allowed dots : Bool) → Behind whole ts allowed here → here ≡ next d rest → dots ≡ is_dots d → dots ≡ false
      → None ≡ element d rest → None ≡ as_compound (templates_of names paths n false whole)
  no_element whole here rest d ts allowed dots e f g h k =
      sym (ap as_compound (e ∙ ap (λ fs. templates_behind (map the_template ts) (templates_of names paths n allowed fs)) f
      ∙ ap (λ b. templates_behind (map the_template ts) (joined b allowed (element d rest) (templates_of names paths n (not (is_dots d)) rest))) (sym g ∙ h)
      ∙ ap (λ o. templates_behind (map the_template ts) (element_in_front o (templates_of names paths n (not (is_dots d)) rest))) (sym k)))

  pub dots_alone : (whole here rest : Forms) (d : Form) (ts : List Template) (dots : Bool) → Behind whole ts false here → here ≡ next d rest → dots ≡ is_dots d → dots ≡ true
      → None ≡ as_compound (templates_of names paths n false whole)
  dots_alone whole here rest d ts dots e f g h =
      sym (ap as_compound (e ∙ ap (λ fs. templates_behind (map the_template ts) (templates_of names paths n false fs)) f
      ∙ ap (λ b. templates_behind (map the_template ts) (joined b false (element d rest) (templates_of names paths n (not (is_dots d)) rest))) (sym g ∙ h)))

  pub element_on : (whole here rest : Forms) (d : Form) (old new : List Template) (t : Template) (allowed dots : Bool) → Behind whole old allowed here → here ≡ next d rest → dots ≡ is_dots d → dots ≡ false
      → Some (the_template t) ≡ element d rest → new ≡ old ++ t ∷ [] → Behind whole new true rest
  element_on whole here rest d old new t allowed dots e f g h k m =
      e ∙ ap (λ fs. templates_behind (map the_template old) (templates_of names paths n allowed fs)) f
      ∙ ap (λ b. templates_behind (map the_template old) (joined b allowed (element d rest) (templates_of names paths n (not (is_dots d)) rest))) (sym g ∙ h)
      ∙ ap (λ o. templates_behind (map the_template old) (element_in_front o (templates_of names paths n (not (is_dots d)) rest))) (sym k)
      ∙ templates_join (map the_template old) (the_template t) (templates_of names paths n (not (is_dots d)) rest)
      ∙ ap (λ ts. templates_behind ts (templates_of names paths n (not (is_dots d)) rest)) (sym (ap (map the_template) m ∙ map-append the_template old (t ∷ [])))
      ∙ ap (λ b. templates_behind (map the_template new) (templates_of names paths n (not b) rest)) (sym g ∙ h)

  pub dots_on : (whole here rest : Forms) (d : Form) (ts : List Template) (allowed dots : Bool) → Behind whole ts allowed here → here ≡ next d rest → dots ≡ is_dots d → dots ≡ true → allowed ≡ true
      → Behind whole ts (not dots) rest
  dots_on whole here rest d ts allowed dots e f g h k =
      e ∙ ap (λ fs. templates_behind (map the_template ts) (templates_of names paths n allowed fs)) f
      ∙ ap (λ b. templates_behind (map the_template ts) (joined b allowed (element d rest) (templates_of names paths n (not (is_dots d)) rest))) (sym g ∙ h)
      ∙ ap (λ a. templates_behind (map the_template ts) (joined true a (element d rest) (templates_of names paths n (not (is_dots d)) rest))) k
      ∙ ap (λ b. templates_behind (map the_template ts) (templates_of names paths n (not b) rest)) (sym g)

  pub elements_end : (whole here : Forms) (ts : List Template) (allowed : Bool) → Behind whole ts allowed here → here ≡ end → Some (the_template (template.Compound ts)) ≡ as_compound (templates_of names paths n false whole)
  elements_end whole here ts allowed e f =
      ap Some (template-Compound ts ∙ ap tree.compound (sym (all_in_turn (map the_template ts))))
      ∙ sym (ap as_compound (e ∙ ap (λ fs. templates_behind (map the_template ts) (templates_of names paths n allowed fs)) f))

  -- the element at a place, by the two ways that the code comes to it
  pub element_at : (ds : List Datum) (i : ℕ) (d e : Datum) (b : Bool) → d ≡ get_or ds i d → e ≡ get_or ds i e → i < length ds → b ≡ begin_dots (forms (map form (drop (suc i) ds)))
      → as_element b (numbers_of names (form e)) (template_of names paths (under b n) (form e)) ≡ element (form d) (forms (map form (drop (i + 1) ds)))
  element_at ds i d e b f g low h =
      ap (λ (d : Datum). as_element b (numbers_of names (form d)) (template_of names paths (under b n) (form d))) (g ∙ same_default ds i e d low ∙ sym f)
      ∙ ap (λ b. as_element b (numbers_of names (form d)) (template_of names paths (under b n) (form d))) (h ∙ ap (λ k. begin_dots (forms (map form (drop k ds)))) (next_is i))
