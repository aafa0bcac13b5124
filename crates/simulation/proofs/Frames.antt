-- Frames: a new local leaves the live ones as they are.
use Rattle.std.proofs.Common.{◌≡◌, ℕ, suc, List, [], ◌∷◌, ◌++◌, Bool, true, false, refl, sym, ap, ◌∙◌, subst, inl, inr, arith, eq-eqb}
use Rattle.std.specs.Prelude.{map, Some, ◌==◌, if◌then◌else◌}
use Rattle.std.proofs.lemmas.Bool.{eqb-true}
use Rattle.std.specs.Cmp.Lexicographic.{bytes_decides, nat_list_eq_equiv}
use Rattle.scheme_data.specs.Names.{is_same}
use Rattle.c_tree.specs.declared.tree.CTy.{CTy}
use Rattle.c_tree.specs.declared.tree.CVar.{CVar}
use Rattle.c_meaning.specs.State.{Cell, Frame, put}
use Rattle.c_meaning.specs.Execution.{Names, position_of}
use Rattle.c_meaning.specs.Plain.{is_typed, variable_named}
use Rattle.plan_rules.specs.Translation.{Name, In, Fresh, IsLocal, Target, into, back}

abbrev pub names : List CVar → Names
names vars = map (λ v. v.name) vars

-- a local of a name has a position of its own
pub one_position : (vars : List CVar) (x y : Name) (t : CTy) → IsLocal vars y t → position_of x (names vars) ≡ position_of y (names vars) → x ≡ y
one_position [] x y t here e = absurd (cc)
one_position (v ∷ vs) x y t here e = go (is_same x v.name) (is_same y v.name) refl refl e (λ further below. one_position vs x y t further below)
  where
    go : (p q : Bool) → is_same x v.name ≡ p → is_same y v.name ≡ q → (if p then 0 else suc (position_of x (names vs))) ≡ (if q then 0 else suc (position_of y (names vs))) → (IsLocal vs y t → position_of x (names vs) ≡ position_of y (names vs) → x ≡ y) → x ≡ y
    go true true ex ey same later = (bytes_decides x v.name).0 ex ∙ sym ((bytes_decides y v.name).0 ey)
    go true false ex ey same later = absurd (omega arith)
    go false true ex ey same later = absurd (omega arith)
    go false false ex ey same later =
        let further : IsLocal vs y t = ap (λ z. is_typed t (if z then Some v else variable_named vs y)) (sym (nat_list_eq_equiv.symm v.name y ∙ ey)) ∙ here in
        let below : position_of x (names vs) ≡ position_of y (names vs) = omega arith in
        later further below

pub put_here : (x : ℕ) (c : Cell) (f : Frame) → put x c f x ≡ c
put_here x c f = ap (λ b. if b then c else f x) (eq-eqb x x refl)

pub put_other : (x y : ℕ) (c : Cell) (f : Frame) → (y ≡ x → ⊥) → put x c f y ≡ f y
put_other x y c f ne = go (y == x) refl
  where
    go : (b : Bool) → (y == x) ≡ b → (if b then c else f y) ≡ f y
    go true e = absurd (ne (eqb-true y x e))
    go false e = refl

-- live locals keep what they hold
pub record Kept (vars : List CVar) (live : List Name) (f g : Frame) : Type 0 where
  pub by : (x : Name) → In x live → g (position_of x (names vars)) ≡ f (position_of x (names vars))

pub kept_same : (vars : List CVar) (live : List Name) (f : Frame) → Kept vars live f f
kept_same vars live f = record { by = λ x i. refl }

pub kept_on : (vars : List CVar) {live more : List Name} {f g h : Frame} → ((x : Name) → In x live → In x more) → Kept vars live f g → Kept vars more g h → Kept vars live f h
kept_on vars sub k l = record { by = λ x i. l.by x (sub x i) ∙ k.by x i }

-- a local that a value may go to: one that isn't live
pub record Writable (vars : List CVar) (live : List Name) (x : Name) : Type 0 where
  pub fresh : Fresh x live
  pub type : CTy
  pub is_local : IsLocal vars x type

abbrev pub Free : List CVar → List Name → Target → Type 0
Free vars live (into x) = Writable vars live x
Free vars live back = Unit {0}

pub kept_put : (vars : List CVar) (live : List Name) (x : Name) (c : Cell) (f : Frame) → Writable vars live x → Kept vars live f (put (position_of x (names vars)) c f)
kept_put vars live x c f writable = record { by = λ y i. put_other (position_of x (names vars)) (position_of y (names vars)) c f (λ e. writable.fresh (subst (λ z. In z live) (one_position vars y x writable.type writable.is_local e) i)) }

-- membership

pub in_right : (xs live : List Name) (x : Name) → In x live → In x (xs ++ live)
in_right [] live x i = i
in_right (y ∷ ys) live x i = inr (in_right ys live x i)

pub data Within (live : List Name) : List Name → Type 0 where
  nothing : Within live []
  also : {x : Name} {xs : List Name} → In x live → Within live xs → Within live (x ∷ xs)

pub within_more : (live more : List Name) → ((x : Name) → In x live → In x more) → {xs : List Name} → Within live xs → Within more xs
within_more live more sub nothing = nothing
within_more live more sub (also i w) = also (sub _ i) (within_more live more sub w)

pub within_left : (xs live : List Name) → Within (xs ++ live) xs
within_left [] live = nothing
within_left (x ∷ xs) live = also (inl refl) (within_more (xs ++ live) (x ∷ xs ++ live) (λ y i. inr i) (within_left xs live))
