-- Lists of names of which none stands twice, with one more name.
use Rattle.std.proofs.Common.{◌≡◌, ℕ, Bool, true, false, not, ◌&&◌, ◌||◌, if◌then◌else◌, List, [], ◌∷◌, ◌++◌, refl, sym, ap, ◌∙◌}
use Rattle.std.specs.List.{list_any}
use Rattle.std.specs.Cmp.Lexicographic.{nat_list_eq_equiv}
use Rattle.std.proofs.lemmas.Bool.{and_parts}
use Rattle.std.proofs.lemmas.List.Folds.{list_any-append}
use Rattle.scheme_data.specs.Names.{is_same, are_distinct}

and_false : (b : Bool) → (b && false) ≡ false
and_false true = refl
and_false false = refl

or_true : (b : Bool) → (b || true) ≡ true
or_true true = refl
or_true false = refl

or_parts : (a b : Bool) → (a || b) ≡ false → (a ≡ false) × (b ≡ false)
or_parts true b e = absurd (cc)
or_parts false b e = (refl, e)

not_true : (b : Bool) → not b ≡ true → b ≡ false
not_true true e = absurd (cc)
not_true false e = refl

-- a name that is there already
twice_here : (z : List ℕ) (zs : List (List ℕ)) (x : List ℕ) (ys : List (List ℕ)) → is_same x z ≡ true → are_distinct (z ∷ zs ++ x ∷ ys) ≡ false
twice_here z zs x ys e =
    let same : is_same z x ≡ true = nat_list_eq_equiv.symm z x ∙ e in
    let there : list_any (is_same z) (zs ++ x ∷ ys) ≡ true =
    list_any-append (is_same z) zs (x ∷ ys) ∙ ap (λ b. list_any (is_same z) zs || (b || list_any (is_same z) ys)) same ∙ or_true (list_any (is_same z) zs) in
    ap (λ b. not b && are_distinct (zs ++ x ∷ ys)) there

pub twice : (xs : List (List ℕ)) (x : List ℕ) (ys : List (List ℕ)) → list_any (is_same x) xs ≡ true → are_distinct (xs ++ x ∷ ys) ≡ false
twice [] x ys h = absurd (cc)
twice (z ∷ zs) x ys h = go (is_same x z) refl (twice zs x ys)
  where
    go : (b : Bool) → is_same x z ≡ b → (list_any (is_same x) zs ≡ true → are_distinct (zs ++ x ∷ ys) ≡ false) → are_distinct ((z ∷ zs) ++ x ∷ ys) ≡ false
    go true e later = twice_here z zs x ys e
    go false e later =
        let there : list_any (is_same x) zs ≡ true = ap (λ b. b || list_any (is_same x) zs) (sym e) ∙ h in
        ap (λ b. not (list_any (is_same z) (zs ++ x ∷ ys)) && b) (later there) ∙ and_false (not (list_any (is_same z) (zs ++ x ∷ ys)))

-- a new name goes last
pub added : (xs : List (List ℕ)) (x : List ℕ) → are_distinct xs ≡ true → list_any (is_same x) xs ≡ false → are_distinct (xs ++ x ∷ []) ≡ true
added [] x d n = refl
added (z ∷ zs) x d n =
    let old = and_parts (not (list_any (is_same z) zs)) (are_distinct zs) d in
    let new = or_parts (is_same x z) (list_any (is_same x) zs) n in
    let other : is_same z x ≡ false = nat_list_eq_equiv.symm z x ∙ new.0 in
    let new_name : list_any (is_same z) (zs ++ x ∷ []) ≡ false =
    list_any-append (is_same z) zs (x ∷ []) ∙ ap (λ b. b || (is_same z x || false)) (not_true (list_any (is_same z) zs) old.0) ∙ ap (λ b. b || false) other in
    ap (λ b. not b && are_distinct (zs ++ x ∷ [])) new_name ∙ added zs x old.1 new.1

not_true_of : (b : Bool) → false ≡ not b → b ≡ true
not_true_of true e = refl
not_true_of false e = absurd (cc)

-- what an insertion answers
pub there : (b : Bool) (xs : List (List ℕ)) (x : List ℕ) → b ≡ not (list_any (is_same x) xs) → b ≡ false → list_any (is_same x) xs ≡ true
there b xs x e h = not_true_of (list_any (is_same x) xs) (sym h ∙ e)

pub absent : (b : Bool) (xs : List (List ℕ)) (x : List ℕ) → b ≡ not (list_any (is_same x) xs) → b ≡ true → list_any (is_same x) xs ≡ false
absent b xs x e h = not_true (list_any (is_same x) xs) (sym e ∙ h)

pub inserted : (b : Bool) (xs ys : List (List ℕ)) (x : List ℕ) → ys ≡ (if b then xs ++ x ∷ [] else xs) → b ≡ true → ys ≡ xs ++ x ∷ []
inserted b xs ys x e h = e ∙ ap (λ b. if b then xs ++ x ∷ [] else xs) h
