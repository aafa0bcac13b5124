-- Types `obj`, counted and written.
use Rattle.std.proofs.Common.{◌≡◌, ◌≢◌, ℕ, zero, suc, ◌+◌, ◌≤◌, List, [], ◌∷◌, ◌++◌, length, replicate, refl, ap, sym, ◌∙◌, arith, append_assoc, add-one, append-nil, Bool, true, false, nat_eq}
use Rattle.std.specs.Prelude.{codes}
use Rattle.built_table.specs.declared.primitives.Ty.{Ty}
use Rattle.built_table.specs.declared.primitives.Ty.TheVariants.{Obj}
use Rattle.built_table.specs.Table.{type_name}
use Rattle.iface_text.specs.Format.{more_types, types_text}

abbrev pub objects_text : ℕ → List ℕ
objects_text n = types_text (replicate n Obj)

abbrev pub more_objects : ℕ → List ℕ
more_objects n = more_types (replicate n Obj)

push_more : (n : ℕ) → more_objects n ++ codes " obj" ≡ more_objects (suc n)
push_more zero = refl
push_more (suc n) = ap (λ (bs : List ℕ). codes " obj" ++ bs) (push_more n)

push_text : (n : ℕ) → 1 ≤ n → objects_text n ++ codes " obj" ≡ objects_text (suc n)
push_text zero h = absurd (omega arith)
push_text (suc n) h = ap (λ (bs : List ℕ). codes "obj" ++ bs) (push_more n)

-- one more type was read
pub read_more : (n : ℕ) (types rest after : List ℕ) → 1 ≤ n → types ≡ objects_text n ++ rest → rest ≡ codes " obj" ++ after → types ≡ objects_text (n + 1) ++ after
read_more n types rest after h e f =
    e ∙ ap (λ (bs : List ℕ). objects_text n ++ bs) f ∙ sym (append_assoc (objects_text n) (codes " obj") after) ∙ ap (λ (bs : List ℕ). bs ++ after) (push_text n h) ∙ ap (λ (k : ℕ). objects_text k ++ after) (sym (add-one n))

pub read_all : (n : ℕ) (types rest : List ℕ) → types ≡ objects_text n ++ rest → rest ≡ [] → types ≡ objects_text n
read_all n types rest e z = e ∙ ap (λ (bs : List ℕ). objects_text n ++ bs) z ∙ append-nil (objects_text n)

-- what is left of types that are all `obj`
pub record Left (rest : List ℕ) : Type 0 where
  pub count : ℕ
  pub are : rest ≡ more_objects count

left_by : (k : ℕ) (rest after : List ℕ) → rest ≡ more_objects k → rest ≡ codes " obj" ++ after → Left after
left_by zero rest after e f = absurd (cc)
left_by (suc k) rest after e f = record { count = k; are = cc }

pub left_more : (rest after : List ℕ) → Left rest → rest ≡ codes " obj" ++ after → Left after
left_more rest after h f = left_by h.count rest after h.are f

stuck_by : (k : ℕ) (rest : List ℕ) → rest ≡ more_objects k → rest ≢ [] → ((after : List ℕ) → rest ≢ codes " obj" ++ after) → ⊥
stuck_by zero rest e some none = some e
stuck_by (suc k) rest e some none = none (more_objects k) e

pub left_stuck : (rest : List ℕ) → Left rest → rest ≢ [] → ((after : List ℕ) → rest ≢ codes " obj" ++ after) → ⊥
left_stuck rest h some none = stuck_by h.count rest h.are some none

pub is_some : (bs : List ℕ) (v : Bool) → v ≡ nat_eq (length bs) 0 → v ≡ false → bs ≢ []
is_some bs v is h e = let q : v ≡ true = is ∙ ap (λ (xs : List ℕ). nat_eq (length xs) 0) e in absurd (cc)

-- the first type
pub first_left : (n : ℕ) (types after : List ℕ) → types ≢ [] → types ≡ codes "obj" ++ after → types ≡ objects_text n → Left after
first_left zero types after some f e = absurd (some e)
first_left (suc k) types after some f e = record { count = k; are = cc }

pub no_first : (n : ℕ) (types : List ℕ) → types ≢ [] → ((after : List ℕ) → types ≢ codes "obj" ++ after) → types ≢ objects_text n
no_first zero types some none e = some e
no_first (suc k) types some none e = none (more_objects k) e

-- Any types ---------------------------------------------------------------------------------

pub more_types_on : (out out' out'' : List ℕ) (t : Ty) (ts : List Ty) (whole : List ℕ) → out ++ more_types (t ∷ ts) ≡ whole → out' ≡ out ++ 32 ∷ [] → out'' ≡ out' ++ type_name t → out'' ++ more_types ts ≡ whole
more_types_on out out' out'' t ts whole e f g =
    rw (g, f) (append_assoc (out ++ 32 ∷ []) (type_name t) (more_types ts) ∙ append_assoc out (32 ∷ []) (type_name t ++ more_types ts)) ∙ e
