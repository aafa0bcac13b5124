-- Parts that stand one after another are cut in one way.
use Rattle.std.proofs.Common.{◌≡◌, ℕ, List, [], ◌∷◌, ◌++◌, refl, ap, sym, ◌∙◌, subst, append_assoc, append-nil}
use Rattle.object_text.specs.Parts.{texts, AllAre, IsFirst, IsRun}

texts_push : {A : Type 0} (text : A → List ℕ) (xs : List A) (a : A) → texts text (xs ++ a ∷ []) ≡ texts text xs ++ text a
texts_push text [] a = append-nil (text a)
texts_push text (x ∷ xs) a = ap (λ (bs : List ℕ). text x ++ bs) (texts_push text xs a) ∙ sym (append_assoc (text x) (texts text xs) (text a))

pub push_are : {A : Type 0} (Is : A → Type 0) (xs : List A) (a : A) → AllAre Is xs → Is a → AllAre Is (xs ++ a ∷ [])
push_are Is [] a h k = (k, tt)
push_are Is (x ∷ xs) a h k = (h.0, push_are Is xs a h.1 k)

-- one more part was read
pub push_text : {A : Type 0} (text : A → List ℕ) (xs ys : List A) (a : A) (bytes rest after : List ℕ) → ys ≡ xs ++ a ∷ [] → bytes ≡ texts text xs ++ rest → rest ≡ text a ++ after → bytes ≡ texts text ys ++ after
push_text text xs ys a bytes rest after p e f =
    e ∙ ap (λ (bs : List ℕ). texts text xs ++ bs) f ∙ sym (append_assoc (texts text xs) (text a) after) ∙ ap (λ (bs : List ℕ). bs ++ after) (sym (texts_push text xs a)) ∙ ap (λ (zs : List _). texts text zs ++ after) (sym p)

-- What is read is what stands there ----------------------------------------------------------

pub record SameFirst {A : Type 0} (a b : A) (r s : List ℕ) : Type 0 where
  pub part : a ≡ b
  pub rest : r ≡ s

-- bytes begin with one part at most
abbrev pub Once : {A : Type 0} → (A → List ℕ) → (A → Type 0) → (List ℕ → Type 0) → Type 0
Once {A} text Is Ends = (bytes : List ℕ) (a b : A) (r s : List ℕ) → IsFirst text Is Ends bytes a r → IsFirst text Is Ends bytes b s → SameFirst a b r s

-- a part may follow another
abbrev pub Follows : {A : Type 0} → (A → List ℕ) → (List ℕ → Type 0) → Type 0
Follows {A} text Ends = (a : A) (r : List ℕ) → Ends (text a ++ r)

pub rest_ends : {A : Type 0} (text : A → List ℕ) (Ends : List ℕ → Type 0) (xs : List A) (r : List ℕ) → Follows text Ends → Ends r → Ends (texts text xs ++ r)
rest_ends text Ends [] r f e = e
rest_ends text Ends (x ∷ xs) r f e = subst Ends (sym (append_assoc (text x) (texts text xs) r)) (f x (texts text xs ++ r))

pub record SameRun {A : Type 0} (xs ys : List A) (r s : List ℕ) : Type 0 where
  pub parts : xs ≡ ys
  pub rest : r ≡ s

first_of : {A : Type 0} (text : A → List ℕ) (Is : A → Type 0) (Ends : List ℕ → Type 0) → Follows text Ends → (bytes : List ℕ) (x : A) (xs : List A) (r : List ℕ)
    → IsRun text Is Ends bytes (x ∷ xs) r → IsFirst text Is Ends bytes x (texts text xs ++ r)
first_of text Is Ends f bytes x xs r h = record { are = h.are ∙ append_assoc (text x) (texts text xs) r; is_part = h.are_parts.0; ends = rest_ends text Ends xs r f h.ends }

rest_of : {A : Type 0} (text : A → List ℕ) (Is : A → Type 0) (Ends : List ℕ → Type 0) (bytes rest : List ℕ) (x : A) (xs : List A) (r : List ℕ)
    → IsRun text Is Ends bytes (x ∷ xs) r → rest ≡ texts text xs ++ r → IsRun text Is Ends rest xs r
rest_of text Is Ends bytes rest x xs r h e = record { are = e; are_parts = h.are_parts.1; ends = h.ends; none = h.none }

pub runs_once : {A : Type 0} (text : A → List ℕ) (Is : A → Type 0) (Ends : List ℕ → Type 0) → Once text Is Ends → Follows text Ends → (bytes : List ℕ) (xs ys : List A) (r s : List ℕ)
    → IsRun text Is Ends bytes xs r → IsRun text Is Ends bytes ys s → SameRun xs ys r s
runs_once text Is Ends once f bytes [] [] r s h k = record { parts = refl; rest = sym h.are ∙ k.are }
runs_once text Is Ends once f bytes [] (y ∷ ys) r s h k =
    let p = first_of text Is Ends f bytes y ys s k in
    absurd (h.none y (texts text ys ++ s) (record { are = sym h.are ∙ p.are; is_part = p.is_part; ends = p.ends }))
runs_once text Is Ends once f bytes (x ∷ xs) [] r s h k =
    let p = first_of text Is Ends f bytes x xs r h in
    absurd (k.none x (texts text xs ++ r) (record { are = sym k.are ∙ p.are; is_part = p.is_part; ends = p.ends }))
runs_once text Is Ends once f bytes (x ∷ xs) (y ∷ ys) r s h k =
    let same = once bytes x y (texts text xs ++ r) (texts text ys ++ s) (first_of text Is Ends f bytes x xs r h) (first_of text Is Ends f bytes y ys s k) in
    let more = runs_once text Is Ends once f (texts text xs ++ r) xs ys r s (rest_of text Is Ends bytes (texts text xs ++ r) x xs r h refl) (rest_of text Is Ends bytes (texts text xs ++ r) y ys s k same.rest) in
    let a : x ≡ y = same.part in
    let b : xs ≡ ys = more.parts in
    record { parts = cc; rest = more.rest }
