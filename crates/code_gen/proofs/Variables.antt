-- The variables of a function that is generated: numbered names, so distinct, each found with its type.
use Rattle.std.proofs.Common.{◌≡◌, ℕ, suc, ◌<◌, ◌≤◌, ◌^◌, Bool, true, false, List, [], ◌∷◌, map, Some, refl, sym, ap, ◌∙◌, subst, arith}
use Rattle.std.specs.Prelude.{not, ◌||◌, IsTrue, if◌then◌else◌}
use Rattle.std.specs.List.{list_any}
use Rattle.std.specs.Cmp.Lexicographic.{bytes_decides, nat_list_eq_equiv}
use Rattle.std.proofs.lemmas.Bool.{and_from}
use Rattle.scheme_data.specs.Names.{are_distinct, is_same}
use Rattle.c_tree.specs.declared.tree.CTy.{CTy}
use Rattle.c_tree.specs.declared.tree.CTy.TheVariants.{Obj, Long, Char, Int}
use Rattle.c_tree.specs.declared.tree.CVar.{CVar}
use Rattle.c_tree.specs.Names.{local_name, is_local_name}
use Rattle.c_tree.specs.Spelling.{NamedVars}
use Rattle.c_tree.proofs.NameShapes.{local_name_injective, is_local_name-local_name}
use Rattle.c_meaning.specs.Plain.{same_type, is_typed, variable_named}
use Rattle.plan_rules.specs.Translation.{Name, IsLocal}
use Rattle.plan_rules.proofs.NameKinds.{other_name}
use Rattle.code_gen.specs.Emission.{AreCounted, AreLocals}
use Rattle.code_gen.proofs.Counts.{counted_later}

-- Tests of names and types ------------------------------------------------------------------

other_number : (n k : ℕ) → n < k → k < 2 ^ 32 → is_same (local_name n) (local_name k) ≡ false
other_number n k lt small = other_name (local_name n) (local_name k) (λ e. let same : n ≡ k = local_name_injective n k (omega arith) (omega arith) e in absurd (omega arith))

pub own_type : (t : CTy) → same_type t t ≡ true
own_type Obj = refl
own_type Long = refl
own_type Char = refl
own_type Int = refl

-- Counted names -----------------------------------------------------------------------------

no_repeat : (vs : List CVar) (n k m : ℕ) → n < k → AreCounted vs k m → m ≤ 2 ^ 32 → list_any (is_same (local_name n)) (map (λ v. v.name) vs) ≡ false
unfolding AreCounted
no_repeat [] n k m lt h small = refl
no_repeat (v ∷ vs) n k m lt h small =
    let later : suc k ≤ m = counted_later vs (suc k) m h.1 in
    ap (λ x. is_same (local_name n) x || list_any (is_same (local_name n)) (map (λ v. v.name) vs)) h.0
    ∙ ap (λ b. b || list_any (is_same (local_name n)) (map (λ v. v.name) vs)) (other_number n k lt (omega arith))
    ∙ no_repeat vs n (suc k) m (omega arith) h.1 small

pub counted_distinct : (vs : List CVar) (k m : ℕ) → AreCounted vs k m → m ≤ 2 ^ 32 → are_distinct (map (λ v. v.name) vs) ≡ true
unfolding AreCounted
counted_distinct [] k m h small = refl
counted_distinct (v ∷ vs) k m h small =
    let alone : not (list_any (is_same v.name) (map (λ v. v.name) vs)) ≡ true =
    ap (λ x. not (list_any (is_same x) (map (λ v. v.name) vs))) h.0 ∙ ap not (no_repeat vs k (suc k) m (omega arith) h.1 small) in
    and_from (not (list_any (is_same v.name) (map (λ v. v.name) vs))) (are_distinct (map (λ v. v.name) vs)) alone (counted_distinct vs (suc k) m h.1 small)

passed_over : (w : CVar) (ws : List CVar) (x : Name) (t : CTy) → is_same w.name x ≡ false → IsLocal ws x t → IsLocal (w ∷ ws) x t
passed_over w ws x t other h = rw other h

found_first : (w : CVar) (ws : List CVar) → IsLocal (w ∷ ws) w.name w.ty
found_first w ws = rw (nat_list_eq_equiv.refl w.name) (own_type w.ty)

skip : (w : CVar) (ws vs : List CVar) (n k m : ℕ) → n < k → w.name ≡ local_name n → AreCounted vs k m → m ≤ 2 ^ 32 → AreLocals ws vs → AreLocals (w ∷ ws) vs
unfolding AreCounted AreLocals
skip w ws [] n k m lt e h small l = tt
skip w ws (v ∷ vs) n k m lt e h small l =
    let later : suc k ≤ m = counted_later vs (suc k) m h.1 in
    let other : is_same w.name v.name ≡ false = ap (λ x. is_same x v.name) e ∙ ap (is_same (local_name n)) h.0 ∙ other_number n k lt (omega arith) in
    (passed_over w ws v.name v.ty other l.0, skip w ws vs n (suc k) m (omega arith) e h.1 small l.1)

pub counted_locals : (vs : List CVar) (k m : ℕ) → AreCounted vs k m → m ≤ 2 ^ 32 → AreLocals vs vs
unfolding AreCounted AreLocals
counted_locals [] k m h small = tt
counted_locals (v ∷ vs) k m h small = (found_first v vs, skip v vs vs k (suc k) m (omega arith) h.0 h.1 small (counted_locals vs (suc k) m h.1 small))

pub counted_named : (vs : List CVar) (k m : ℕ) → AreCounted vs k m → m ≤ 2 ^ 32 → NamedVars vs
unfolding AreCounted
counted_named [] k m h small = tt
counted_named (v ∷ vs) k m h small =
    let later : suc k ≤ m = counted_later vs (suc k) m h.1 in
    (subst (λ x. IsTrue (is_local_name x)) (sym h.0) (is_local_name-local_name k (omega arith)), counted_named vs (suc k) m h.1 small)

found_named : (b : Bool) (v : CVar) (vs : List CVar) (x : Name) (t : CTy) → is_same v.name x ≡ b → IsTrue (is_local_name v.name)
    → (IsLocal vs x t → IsTrue (is_local_name x)) → IsTrue (is_typed t (if b then Some v else variable_named vs x)) → IsTrue (is_local_name x)
found_named true v vs x t same named others h = subst (λ y. IsTrue (is_local_name y)) ((bytes_decides v.name x).0 same) named
found_named false v vs x t same named others h = others h

-- a variable's name is a local's name
pub local_named : (vs : List CVar) (x : Name) (t : CTy) → NamedVars vs → IsLocal vs x t → IsTrue (is_local_name x)
local_named [] x t named h = absurd (cc h)
local_named (v ∷ vs) x t named h = found_named (is_same v.name x) v vs x t refl named.0 (local_named vs x t named.1) h
