-- Locals by their numbers.
use Rattle.std.proofs.Common.{◌≡◌, ℕ, zero, suc, length, get_or, ◌<◌, ◌≤◌, ◌^◌, List, [], ◌∷◌, ◌++◌, inl, inr, refl, sym, ap, ◌∙◌, arith}
use Rattle.std.proofs.lemmas.List.{map-append}
use Rattle.c_tree.specs.declared.tree.CVar.{CVar}
use Rattle.c_tree.specs.Names.{local_name}
use Rattle.c_tree.proofs.NameShapes.{local_name_injective}
use Rattle.plan_rules.specs.Translation.{Name, Fresh, IsLocal}
use Rattle.code_gen.specs.declared.emitter.Held.{Held}
use Rattle.code_gen.specs.Emission.{AreBelow, AreCounted, AreLocals, held_names}

-- Below a number ----------------------------------------------------------------------------

pub below_none : (n : ℕ) → AreBelow n []
unfolding AreBelow
below_none n = tt

pub below_more : (n m : ℕ) (xs : List Name) → n ≤ m → AreBelow n xs → AreBelow m xs
unfolding AreBelow
below_more n m [] le h = tt
below_more n m (x ∷ xs) le h =
    let f = h.0 in
    let lt : f.0 < m = omega arith in
    ((f.0, lt, f.2), below_more n m xs le h.1)

pub below_one : (n k : ℕ) (xs : List Name) → k < n → AreBelow n xs → AreBelow n (local_name k ∷ xs)
unfolding AreBelow
below_one n k xs lt h = ((k, lt, refl), h)

pub below_append : (n : ℕ) (xs ys : List Name) → AreBelow n xs → AreBelow n ys → AreBelow n (xs ++ ys)
unfolding AreBelow
below_append n [] ys h g = g
below_append n (x ∷ xs) ys h g = (h.0, below_append n xs ys h.1 g)

pub fresh_at : (n x : ℕ) (live : List Name) → n ≤ x → x < 2 ^ 32 → AreBelow n live → Fresh (local_name x) live
unfolding AreBelow
fresh_at n x [] le small h = λ i. i
fresh_at n x (y ∷ ys) le small h = λ i. elim i [
  | inl e ↦
      let f = h.0 in
      let same : x ≡ f.0 = local_name_injective x f.0 (omega arith) (omega arith) (e ∙ f.2) in
      absurd (omega arith)
  | inr j ↦ fresh_at n x ys le small h.1 j
]

-- Temporaries -------------------------------------------------------------------------------

pub held_names-snoc : (hs : List Held) (h : Held) → held_names (hs ++ h ∷ []) ≡ held_names hs ++ local_name h.local ∷ []
held_names-snoc hs h = map-append (λ (h : Held). local_name h.local) hs (h ∷ [])

pub below_held : (n : ℕ) (hs : List Held) (h : Held) → AreBelow n (held_names hs) → h.local < n → AreBelow n (held_names (hs ++ h ∷ []))
unfolding AreBelow
below_held n hs h below lt = rw (held_names-snoc hs h) (below_append n (held_names hs) (local_name h.local ∷ []) below ((h.local, lt, refl), tt))

pub below_at : (n : ℕ) (hs : List Held) (i : ℕ) (d : Held) → i < length hs → AreBelow n (held_names hs) → AreBelow n (local_name (get_or hs i d).local ∷ [])
unfolding AreBelow
below_at n [] i d within below = absurd (omega arith)
below_at n (h ∷ hs) zero d within below = (below.0, tt)
below_at n (h ∷ hs) (suc i) d within below = below_at n hs i d (omega arith) below.1

-- names put in front of others, one after another
abbrev pub pushed : List Name → List Name → List Name
pushed [] live = live
pushed (x ∷ xs) live = pushed xs (x ∷ live)

pub pushed-snoc : (xs : List Name) (x : Name) (live : List Name) → pushed (xs ++ x ∷ []) live ≡ x ∷ pushed xs live
pushed-snoc [] x live = refl
pushed-snoc (y ∷ ys) x live = pushed-snoc ys x (y ∷ live)

pub below_pushed : (n : ℕ) (xs live : List Name) → AreBelow n xs → AreBelow n live → AreBelow n (pushed xs live)
unfolding AreBelow
below_pushed n [] live h g = g
below_pushed n (x ∷ xs) live h g = below_pushed n xs (x ∷ live) h.1 (h.0, g)

-- Variables ---------------------------------------------------------------------------------

pub counted_one : (vs : List CVar) (v : CVar) (n m : ℕ) → AreCounted vs n m → v.name ≡ local_name m → AreCounted (vs ++ v ∷ []) n (suc m)
unfolding AreCounted
counted_one [] v n m h e = (e ∙ ap local_name (sym h), ap suc h)
counted_one (w ∷ vs) v n m h e = (h.0, counted_one vs v (suc n) m h.1 e)

pub counted_later : (vs : List CVar) (n m : ℕ) → AreCounted vs n m → n ≤ m
unfolding AreCounted
counted_later [] n m h = omega arith
counted_later (v ∷ vs) n m h = omega (arith, counted_later vs (suc n) m h.1)

pub locals_before : (vars vs : List CVar) (v : CVar) → AreLocals vars (vs ++ v ∷ []) → AreLocals vars vs
unfolding AreLocals
locals_before vars [] v h = tt
locals_before vars (w ∷ vs) v h = (h.0, locals_before vars vs v h.1)

pub local_last : (vars vs : List CVar) (v : CVar) → AreLocals vars (vs ++ v ∷ []) → IsLocal vars v.name v.ty
unfolding AreLocals
local_last vars [] v h = h.0
local_last vars (w ∷ vs) v h = local_last vars vs v h.1
