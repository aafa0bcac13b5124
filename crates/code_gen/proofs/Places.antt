-- The locals of parameters: a table finds them, and they are numbered in order.
use Rattle.std.proofs.Common.{◌≡◌, ℕ, zero, suc, ◌+◌, ◌<◌, ◌≤◌, Bool, true, false, List, [], ◌∷◌, ◌++◌, length, take, drop, get_or, Option, Some, None, refl, sym, ap, ◌∙◌, subst, arith, add-one}
use Rattle.std.specs.Prelude.{IsTrue, cond, if◌then◌else◌, nat_eq, ◌||◌}
use Rattle.std.specs.List.{list_any}
use Rattle.std.specs.Ordering.{nat_cmp, is_eq}
use Rattle.std.specs.Cmp.{unsigned_ties}
use Rattle.std.specs.BTreeMap.{BTreeMap, get, Updates}
use Rattle.std.proofs.Math.Seq.{drop-cons}
use Rattle.std.proofs.lemmas.Bool.{eqb-true, eqb-false, eq-eqb}
use Rattle.core_tree.specs.declared.tree.VarId.{VarId}
use Rattle.core_tree.specs.WellFormed.{same_variable}
use Rattle.c_tree.specs.declared.tree.CTy.TheVariants as c_ty
use Rattle.c_tree.specs.declared.tree.CVar.{CVar}
use Rattle.c_tree.specs.Names.{local_name}
use Rattle.plan_rules.specs.declared.rep.Rep.TheVariants.{Obj}
use Rattle.plan_rules.specs.Representation.{PlainAt, slot_of}
use Rattle.code_gen.specs.Scopes.{words, scope_from, slot_at, HasLocals}

-- A parameter is found ----------------------------------------------------------------------

pub record Found (x : VarId) (n : ℕ) (params : List VarId) : Type 0 where
  pub number : ℕ
  pub later : n ≤ number
  pub earlier : number < n + length params
  pub is : slot_of x (scope_from n params) ≡ Some (PlainAt Obj (local_name number))

found_at : (b : Bool) (x : VarId) (n : ℕ) (y : VarId) (ys : List VarId) → same_variable x y ≡ b → (same_variable x y || list_any (same_variable x) ys) ≡ true
    → (list_any (same_variable x) ys ≡ true → Found x (suc n) ys) → Found x n (y ∷ ys)
found_at true x n y ys e h others = record {
  number = n;
  later = omega arith;
  earlier = omega arith;
  is = ap (λ b. if b then Some (PlainAt Obj (local_name n)) else slot_of x (scope_from (suc n) ys)) e;
}
found_at false x n y ys e h others =
    let f : Found x (suc n) ys = others (sym (ap (λ b. b || list_any (same_variable x) ys) e) ∙ h) in
    let later : suc n ≤ f.number = f.later in
    let earlier : f.number < suc n + length ys = f.earlier in
    record {
      number = f.number;
      later = omega arith;
      earlier = omega arith;
      is = ap (λ b. if b then Some (PlainAt Obj (local_name n)) else slot_of x (scope_from (suc n) ys)) e ∙ f.is;
    }

pub found : (x : VarId) (n : ℕ) (params : List VarId) → IsTrue (list_any (same_variable x) params) → Found x n params
found x n [] h = absurd (cc h)
found x n (y ∷ ys) h = found_at (same_variable x y) x n y ys refl h (found x (suc n) ys)

pub not_absent : (x : VarId) (params inside : List VarId) (locals : BTreeMap ℕ ℕ) → inside ≡ params → HasLocals locals 0 inside → IsTrue (list_any (same_variable x) params)
    → None ≡ get nat_cmp locals x.0 → ⊥
not_absent x params inside locals same has among none =
    let f = found x 0 inside (subst (λ ps. IsTrue (list_any (same_variable x) ps)) (sym same) among) in
    let bad : None ≡ Some (PlainAt Obj (local_name f.number)) = ap slot_at none ∙ sym (has x) ∙ f.is in
    absurd (cc)

-- The table, from the last parameter to the first -------------------------------------------

turned : (b : Bool) (x y : ℕ) → nat_eq y x ≡ b → nat_eq x y ≡ b
turned true x y e = eq-eqb x y (sym (eqb-true y x e))
turned false x y e = go (nat_eq x y) refl
  where
    go : (b : Bool) → nat_eq x y ≡ b → nat_eq x y ≡ false
    go true f = absurd (eqb-false y x e (sym (eqb-true x y f)))
    go false f = f

set_at : (b : Bool) (q : VarId) (i : ℕ) (x : VarId) (xs : List VarId) (old : Option ℕ) → same_variable q x ≡ b → slot_of q (scope_from (suc i) xs) ≡ slot_at old
    → slot_of q (scope_from i (x ∷ xs)) ≡ slot_at (cond (is_eq (nat_cmp x.0 q.0)) (Some i) old)
set_at b q i x xs old e h =
    let ties : is_eq (nat_cmp x.0 q.0) ≡ b = sym (unsigned_ties x.0 q.0) ∙ turned b x.0 q.0 e in
    ap (λ c. if c then Some (PlainAt Obj (local_name i)) else slot_of q (scope_from (suc i) xs)) e ∙ go b ∙ ap (λ c. slot_at (cond c (Some i) old)) (sym ties)
  where
    go : (c : Bool) → (if c then Some (PlainAt Obj (local_name i)) else slot_of q (scope_from (suc i) xs)) ≡ slot_at (cond c (Some i) old)
    go true = refl
    go false = h

pub one_located : (old new : BTreeMap ℕ ℕ) (params : List VarId) (i j : ℕ) (d : VarId) → i + 1 ≡ j → j ≤ length params → Updates nat_cmp old new (get_or params i d).0 (Some i)
    → HasLocals old j (drop j params) → HasLocals new i (drop i params)
one_located old new params i j d next within updates has =
    let x = get_or params i d in
    let first : drop i params ≡ x ∷ drop (suc i) params = drop-cons params i d (omega arith) in
    let j_is : j ≡ suc i = omega arith in
    let rest : HasLocals old (suc i) (drop (suc i) params) = subst (λ k. HasLocals old k (drop k params)) j_is has in
    λ q. ap (λ ps. slot_of q (scope_from i ps)) first ∙ set_at (same_variable q x) q i x (drop (suc i) params) (get nat_cmp old q.0) refl (rest q) ∙ ap slot_at (sym (updates.0 q.0))

-- The words ---------------------------------------------------------------------------------

abbrev word : ℕ → CVar
word n = record { ty = c_ty.Obj; name = local_name n }

words_more : (n : ℕ) (params : List VarId) (i k : ℕ) → i < length params → n + i ≡ k → words n (take (suc i) params) ≡ words n (take i params) ++ word k ∷ []
words_more n [] i k within e = absurd (omega arith)
words_more n (x ∷ xs) zero k within e = let is : n ≡ k = omega arith in ap (λ m. word m ∷ []) is
words_more n (x ∷ xs) (suc i) k within e = ap (λ vs. word n ∷ vs) (words_more (suc n) xs i k (omega arith) (omega arith))

pub next_word : (params inside : List VarId) (i count : ℕ) (vars more : List CVar) (name : List ℕ) → inside ≡ params → count ≡ length inside → i < count → vars ≡ words 0 (take i params) → name ≡ local_name i
    → more ≡ vars ++ record { ty = c_ty.Obj; name = name } ∷ [] → more ≡ words 0 (take (i + 1) params)
next_word params inside i count vars more name same counted within so name_is e =
    let same_length : length inside ≡ length params = ap length same in
    e ∙ ap (λ vs. vs ++ record { ty = c_ty.Obj; name = name } ∷ []) so ∙ ap (λ n. words 0 (take i params) ++ record { ty = c_ty.Obj; name = n } ∷ []) name_is
    ∙ sym (words_more 0 params i i (omega arith) (omega arith)) ∙ ap (λ k. words 0 (take k params)) (sym (add-one i))
