-- Lemmas on the first `::` of a name.
use Rattle.std.proofs.Common.{◌≡◌, ℕ, zero, suc, ◌+◌, ◌<◌, true, false, List, [], ◌∷◌, ◌++◌, length, take, drop, Option, Some, None, refl, sym, ap, ◌∙◌, arith, ◌-◌, ◌≤◌}
use Rattle.std.proofs.lemmas.List.{take_all, length-drop, drop-drop}
use Rattle.scheme_data.specs.TypedNames.{Split, one_before, split, begins_type}

false_is_not_true : false ≡ true → ⊥
false_is_not_true is = absurd (cc)

-- a split with these in front
abbrev pub in_front : List ℕ → Option Split → Option Split
in_front bs None = None
in_front bs (Some s) = Some (record { before = bs ++ s.before; behind = s.behind })

pub at_start : (name : List ℕ) → split name ≡ in_front [] (split name)
at_start name = none (split name)
  where
    none : (o : Option Split) → o ≡ in_front [] o
    none None = refl
    none (Some s) = refl

moved : (b : ℕ) (bs : List ℕ) (o : Option Split) → in_front (b ∷ bs) o ≡ one_before b (in_front bs o)
moved b bs None = refl
moved b bs (Some s) = refl

one_in_front : (b : ℕ) (o : Option Split) → in_front [] (one_before b o) ≡ in_front (b ∷ []) o
one_in_front b None = refl
one_in_front b (Some s) = refl

-- where none of the first is the beginning of one, what is left decides
pub past : (i : ℕ) (name : List ℕ) → i < length name → begins_type (drop i name) ≡ false → in_front (take i name) (split (drop i name)) ≡ in_front (take (suc i) name) (split (drop (suc i) name))
past i [] h other = absurd (omega arith)
past zero (b ∷ bs) h other = rw other (one_in_front b (split bs))
past (suc i) (b ∷ bs) h other =
    moved b (take i bs) (split (drop i bs)) ∙ ap (one_before b) (past i bs (omega arith) other) ∙ sym (moved b (take (suc i) bs) (split (drop (suc i) bs)))

part : (i : ℕ) (name : List ℕ) → i < length name → take (length name - i) (drop i name) ≡ drop i name
part i name h = take_all (length name - i) (drop i name) (rw (length-drop) (omega arith))

pub past_one : (i : ℕ) (name : List ℕ) → i < length name → begins_type (take (length name - i) (drop i name)) ≡ false → split name ≡ in_front (take i name) (split (drop i name)) → split name ≡ in_front (take (i + 1) name) (split (drop (i + 1) name))
past_one i name h other before =
    let on : suc i ≡ i + 1 = omega arith in
    before ∙ past i name h (ap begins_type (sym (part i name h)) ∙ other) ∙ ap (λ k. in_front (take k name) (split (drop k name))) on

here : (i : ℕ) (name : List ℕ) → begins_type (drop i name) ≡ true → in_front (take i name) (split (drop i name)) ≡ Some (record { before = take i name; behind = drop 2 (drop i name) })
here zero [] is = absurd (false_is_not_true is)
here (suc i) [] is = absurd (false_is_not_true is)
here zero (b ∷ []) is = absurd (false_is_not_true is)
here zero (b ∷ c ∷ bs) is = rw is refl
here (suc i) (b ∷ bs) is = moved b (take i bs) (split (drop i bs)) ∙ ap (one_before b) (here i bs is)

long : (i : ℕ) (name : List ℕ) → begins_type (drop i name) ≡ true → i + 2 ≤ length name
long zero [] is = absurd (false_is_not_true is)
long (suc i) [] is = absurd (false_is_not_true is)
long zero (b ∷ []) is = absurd (false_is_not_true is)
long zero (b ∷ c ∷ bs) is = omega arith
long (suc i) (b ∷ bs) is = let h = long i bs is in omega arith

pub found : (i : ℕ) (name : List ℕ) → i < length name → begins_type (take (length name - i) (drop i name)) ≡ true → split name ≡ in_front (take i name) (split (drop i name))
    → Some (record { before = take i name; behind = take (length name - (i + 2)) (drop (i + 2) name) }) ≡ split name
found i name h is before =
    let begins : begins_type (drop i name) ≡ true = ap begins_type (sym (part i name h)) ∙ is in
    let all : take (length name - (i + 2)) (drop (i + 2) name) ≡ drop 2 (drop i name) = take_all (length name - (i + 2)) (drop (i + 2) name) (rw (length-drop) (omega arith)) ∙ sym (drop-drop 2 i name) in
    ap (λ b. Some (record { before = take i name; behind = b })) all ∙ sym (here i name begins) ∙ sym before
