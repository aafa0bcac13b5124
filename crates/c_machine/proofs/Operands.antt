-- Operands where slots were pushed behind others.
use Rattle.std.proofs.Common.{◌≡◌, ℕ, zero, suc, ◌+◌, ◌<◌, List, [], ◌∷◌, ◌++◌, length, Some, slice_get, get_or, take, map, refl, sym, ap, subst, ◌∙◌, arith, length-append, append_assoc}
use Rattle.std.proofs.lemmas.List.{get_or_append_left, take_more, map-append}
use Rattle.std.proofs.lemmas.Option.{slice_get-get_or}
use Rattle.c_machine.specs.declared.program.Operand.{Operand}
use Rattle.c_machine.specs.declared.program.Operand.TheVariants.{Local, Word}
use Rattle.c_machine.specs.Steps.{look, Reads, ReadsAll}

pub look_more : (base : ℕ) (xs ys : List ℕ) (a : Operand) → Reads base xs a → look base (xs ++ ys) a ≡ look base xs a
look_more base xs ys (Local x) h = get_or_append_left xs ys 0 (base + x) h
look_more base xs ys (Word w) h = refl

pub reads_more : (base : ℕ) (xs ys : List ℕ) (a : Operand) → Reads base xs a → Reads base (xs ++ ys) a
reads_more base xs ys (Local x) h = omega (arith, length-append xs ys)
reads_more base xs ys (Word w) h = h

pub reads_at : (base : ℕ) (xs : List ℕ) (args : List Operand) (i : ℕ) (a : Operand) → slice_get args i ≡ Some a → ReadsAll base xs args → Reads base xs a
reads_at base xs [] i a e h = absurd (cc)
reads_at base xs (b ∷ others) zero a e h = let f : b ≡ a = cc in subst (Reads base xs) f h.0
reads_at base xs (b ∷ others) (suc i) a e h = reads_at base xs others i a e h.1

pub looks_more : (f : Operand → ℕ) (args : List Operand) (i : ℕ) (d : Operand) → i < length args → map f (take (i + 1) args) ≡ map f (take i args) ++ f (get_or args i d) ∷ []
looks_more f args i d lt = ap (map f) (take_more args i d lt) ∙ map-append f (take i args) (get_or args i d ∷ [])

pub reads_next : (base : ℕ) (old slots more : List ℕ) (args : List Operand) (i : ℕ) (d : Operand) → i < length args → ReadsAll base old args → slots ≡ old ++ more → Reads base slots (get_or args i d)
reads_next base old slots more args i d lt h e =
    subst (λ (s : List ℕ). Reads base s (get_or args i d)) (sym e) (reads_more base old more (get_or args i d) (reads_at base old args i (get_or args i d) (slice_get-get_or args i d lt) h))

-- the value of one more argument
pub values_more : (base : ℕ) (old slots new : List ℕ) (args : List Operand) (i : ℕ) (d : Operand) (v : ℕ) → i < length args → ReadsAll base old args → slots ≡ old ++ map (look base old) (take i args) → v ≡ look base slots (get_or args i d) → new ≡ slots ++ v ∷ [] → new ≡ old ++ map (look base old) (take (i + 1) args)
values_more base old slots new args i d v lt h e ev en =
    let a = get_or args i d in
    let done = map (look base old) (take i args) in
    let same : v ≡ look base old a = ev ∙ ap (λ (s : List ℕ). look base s a) e ∙ look_more base old done a (reads_at base old args i a (slice_get-get_or args i d lt) h) in
    en ∙ ap (λ (s : List ℕ). s ++ v ∷ []) e ∙ append_assoc old done (v ∷ []) ∙ ap (λ (x : ℕ). old ++ (done ++ x ∷ [])) same ∙ ap (λ (l : List ℕ). old ++ l) (sym (looks_more (look base old) args i d lt))
