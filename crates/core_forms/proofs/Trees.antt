-- CoreExpr forms as plain trees, kind by kind.
use Rattle.std.proofs.Common.{◌≡◌, ℕ, List, [], ◌∷◌, ◌++◌, map, refl, sym, ap, ◌∙◌, rules}
use Rattle.scheme_data.specs.declared.datum.Place.{Place}
use Rattle.scheme_data.specs.declared.datum.Datum.{Datum}
use Rattle.core_forms.specs.declared.core_form.Binder.{Binder}
use Rattle.core_forms.specs.declared.core_form.CoreExpr.{CoreExpr}
use Rattle.core_forms.specs.declared.core_form.CoreExpr as core
use Rattle.core_forms.specs.declared.core_form.CoreExpr.TheViews as views
use Rattle.scheme_data.specs.Forms.{form}
use Rattle.core_forms.specs.Mid.{Head, constant, quoted, named, eqv, function, branch, assigned, sequence, binding, recursive, exit, protected, call, made, Trees, leaf, more, trees_then, tree}

pub tree-Constant : (at : Place) (d : Datum) → tree (core.Constant at d) ≡ made at (constant (form d)) leaf
tree-Constant at d = search (rules, core.the_lemmas)

pub tree-Quote : (at : Place) (d : Datum) → tree (core.Quote at d) ≡ made at (quoted (form d)) leaf
tree-Quote at d = search (rules, core.the_lemmas)

pub tree-Name : (at : Place) (x : List ℕ) (m : ℕ) → tree (core.Name at x m) ≡ made at (named x m) leaf
tree-Name at x m = search (rules, core.the_lemmas)

pub tree-PrimEqv : (at : Place) → tree (core.PrimEqv at) ≡ made at eqv leaf
tree-PrimEqv at = search (rules, core.the_lemmas)

pub tree-Lambda : (at : Place) (xs : List Binder) (b : CoreExpr) → tree (views.Lambda at xs b) ≡ made at (function xs) (more (tree b) leaf)
tree-Lambda at xs b = search (rules, core.the_lemmas)

pub tree-If : (at : Place) (a b c : CoreExpr) → tree (views.If at a b c) ≡ made at branch (more (tree a) (more (tree b) (more (tree c) leaf)))
tree-If at a b c = search (rules, core.the_lemmas)

pub tree-OneArmed : (at : Place) (a b : CoreExpr) → tree (views.OneArmed at a b) ≡ made at branch (more (tree a) (more (tree b) leaf))
tree-OneArmed at a b = search (rules, core.the_lemmas)

pub tree-Set : (at : Place) (x : List ℕ) (m : ℕ) (e : CoreExpr) → tree (views.Set at x m e) ≡ made at (assigned x m) (more (tree e) leaf)
tree-Set at x m e = search (rules, core.the_lemmas)

pub tree-Begin : (at : Place) (es : List CoreExpr) → tree (views.Begin at es) ≡ made at sequence (trees_then (map tree es) leaf)
tree-Begin at es = search (rules, core.the_lemmas)

pub tree-Let : (at : Place) (xs : List Binder) (es : List CoreExpr) (b : CoreExpr) → tree (views.Let at xs es b) ≡ made at (binding xs) (trees_then (map tree es) (more (tree b) leaf))
tree-Let at xs es b = search (rules, core.the_lemmas)

pub tree-Letrec : (at : Place) (xs : List Binder) (es : List CoreExpr) (b : CoreExpr) → tree (views.Letrec at xs es b) ≡ made at (recursive xs) (trees_then (map tree es) (more (tree b) leaf))
tree-Letrec at xs es b = search (rules, core.the_lemmas)

pub tree-BindExit : (at : Place) (x : Binder) (b : CoreExpr) → tree (views.BindExit at x b) ≡ made at (exit x) (more (tree b) leaf)
tree-BindExit at x b = search (rules, core.the_lemmas)

pub tree-UnwindProtect : (at : Place) (e : CoreExpr) (es : List CoreExpr) → tree (views.UnwindProtect at e es) ≡ made at protected (more (tree e) (trees_then (map tree es) leaf))
tree-UnwindProtect at e es = search (rules, core.the_lemmas)

pub tree-Call : (at : Place) (e : CoreExpr) (es : List CoreExpr) → tree (views.Call at e es) ≡ made at call (more (tree e) (trees_then (map tree es) leaf))
tree-Call at e es = search (rules, core.the_lemmas)

pub trees_last : (cs : List CoreExpr) (c : CoreExpr) (ts : Trees) → trees_then (map tree (cs ++ c ∷ [])) ts ≡ trees_then (map tree cs) (more (tree c) ts)
trees_last [] c ts = refl
trees_last (d ∷ cs) c ts = ap (more (tree d)) (trees_last cs c ts)

-- What is made of parts, each of which was the last, the first or the only one of those that were left.

pub only_part : (at : Place) (h : Head) (cs : List CoreExpr) (b : CoreExpr) → cs ≡ b ∷ [] → made at h (more (tree b) leaf) ≡ made at h (trees_then (map tree cs) leaf)
only_part at h cs b is = ap (λ (cs : List CoreExpr). made at h (trees_then (map tree cs) leaf)) (sym is)

pub last_part : (at : Place) (h : Head) (cs rest : List CoreExpr) (b : CoreExpr) → cs ≡ rest ++ b ∷ [] → made at h (trees_then (map tree rest) (more (tree b) leaf)) ≡ made at h (trees_then (map tree cs) leaf)
last_part at h cs rest b is = ap (made at h) (sym (trees_last rest b leaf) ∙ ap (λ (cs : List CoreExpr). trees_then (map tree cs) leaf) (sym is))

pub first_part : (at : Place) (h : Head) (cs rest : List CoreExpr) (b : CoreExpr) → cs ≡ b ∷ rest → made at h (more (tree b) (trees_then (map tree rest) leaf)) ≡ made at h (trees_then (map tree cs) leaf)
first_part at h cs rest b is = ap (λ (cs : List CoreExpr). made at h (trees_then (map tree cs) leaf)) (sym is)

pub lambda_parts : (at : Place) (xs : List Binder) (cs : List CoreExpr) (b : CoreExpr) → cs ≡ b ∷ [] → tree (views.Lambda at xs b) ≡ made at (function xs) (trees_then (map tree cs) leaf)
lambda_parts at xs cs b is = tree-Lambda at xs b ∙ only_part at (function xs) cs b is

pub set_parts : (at : Place) (x : List ℕ) (m : ℕ) (cs : List CoreExpr) (b : CoreExpr) → cs ≡ b ∷ [] → tree (views.Set at x m b) ≡ made at (assigned x m) (trees_then (map tree cs) leaf)
set_parts at x m cs b is = tree-Set at x m b ∙ only_part at (assigned x m) cs b is

pub exit_parts : (at : Place) (x : Binder) (cs : List CoreExpr) (b : CoreExpr) → cs ≡ b ∷ [] → tree (views.BindExit at x b) ≡ made at (exit x) (trees_then (map tree cs) leaf)
exit_parts at x cs b is = tree-BindExit at x b ∙ only_part at (exit x) cs b is

pub let_parts : (at : Place) (xs : List Binder) (cs rest : List CoreExpr) (b : CoreExpr) → cs ≡ rest ++ b ∷ [] → tree (views.Let at xs rest b) ≡ made at (binding xs) (trees_then (map tree cs) leaf)
let_parts at xs cs rest b is = tree-Let at xs rest b ∙ last_part at (binding xs) cs rest b is

pub letrec_parts : (at : Place) (xs : List Binder) (cs rest : List CoreExpr) (b : CoreExpr) → cs ≡ rest ++ b ∷ [] → tree (views.Letrec at xs rest b) ≡ made at (recursive xs) (trees_then (map tree cs) leaf)
letrec_parts at xs cs rest b is = tree-Letrec at xs rest b ∙ last_part at (recursive xs) cs rest b is

pub protect_parts : (at : Place) (cs rest : List CoreExpr) (b : CoreExpr) → cs ≡ b ∷ rest → tree (views.UnwindProtect at b rest) ≡ made at protected (trees_then (map tree cs) leaf)
protect_parts at cs rest b is = tree-UnwindProtect at b rest ∙ first_part at protected cs rest b is

pub call_parts : (at : Place) (cs rest : List CoreExpr) (b : CoreExpr) → cs ≡ b ∷ rest → tree (views.Call at b rest) ≡ made at call (trees_then (map tree cs) leaf)
call_parts at cs rest b is = tree-Call at b rest ∙ first_part at call cs rest b is

-- `(if a b)`, the last of whose parts was taken off first
pub one_armed_parts : (at : Place) (cs others rest : List CoreExpr) (a b : CoreExpr) → cs ≡ others ++ b ∷ [] → others ≡ rest ++ a ∷ [] → rest ≡ [] → tree (views.OneArmed at a b) ≡ made at branch (trees_then (map tree cs) leaf)
one_armed_parts at cs others rest a b is before none = tree-OneArmed at a b ∙ ap (λ (cs : List CoreExpr). made at branch (trees_then (map tree cs) leaf)) (sym (is ∙ ap (λ (rs : List CoreExpr). rs ++ b ∷ []) (before ∙ ap (λ (rs : List CoreExpr). rs ++ a ∷ []) none)))

-- `(if a b c)`
pub two_armed_parts : (at : Place) (cs others rest : List CoreExpr) (a b c : CoreExpr) → cs ≡ others ++ c ∷ [] → others ≡ rest ++ b ∷ [] → rest ≡ a ∷ [] → tree (views.If at a b c) ≡ made at branch (trees_then (map tree cs) leaf)
two_armed_parts at cs others rest a b c is before only = tree-If at a b c ∙ ap (λ (cs : List CoreExpr). made at branch (trees_then (map tree cs) leaf)) (sym (is ∙ ap (λ (rs : List CoreExpr). rs ++ c ∷ []) (before ∙ ap (λ (rs : List CoreExpr). rs ++ b ∷ []) only)))
