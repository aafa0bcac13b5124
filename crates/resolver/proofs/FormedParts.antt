-- What holds where there is a value, and facts on names.
use Rattle.std.proofs.Common.{◌≡◌, ℕ, Bool, true, false, if◌then◌else◌, List, ◌∷◌, ◌++◌, Option, Some, None, refl, subst}
use Rattle.std.specs.Cmp.Lexicographic.{bytes_decides, nat_list_eq_equiv}
use Rattle.scheme_data.specs.Names.{are_distinct}
use Rattle.name_table.specs.Names.{has_name}
use Rattle.resolver.specs.BuiltHeads.{is_word}
use Rattle.scheme_data.proofs.DistinctNames.{twice}

-- what holds of the value, where there is one
abbrev pub Holds : {A : Type 0} → (A → Type 0) → Option A → Type 0
Holds P None = Unit {0}
Holds P (Some x) = P x

pub where_true : {A : Type 0} (P : A → Type 0) (b : Bool) (o : Option A) → Holds P o → Holds P (if b then o else None)
where_true P true o h = h
where_true P false o h = tt

pub at_value : {A : Type 0} (P : A → Type 0) (o : Option A) (x : A) → o ≡ Some x → Holds P o → P x
at_value P o x e h = subst (Holds P) e h

-- Names -------------------------------------------------------------------------------------

pub word_is : (x y : List ℕ) → is_word x y ≡ true → x ≡ y
word_is x y e = (bytes_decides x y).0 e

pub itself : (x : List ℕ) → is_word x x ≡ true
itself x = (bytes_decides x x).1 refl

pub turned : (x y : List ℕ) → is_word x y ≡ is_word y x
turned x y = nat_list_eq_equiv.symm x y

-- of distinct names none stands before itself
pub not_before : (xs : List (List ℕ)) (x : List ℕ) (ys : List (List ℕ)) → are_distinct (xs ++ x ∷ ys) ≡ true → has_name xs x ≡ false
not_before xs x ys d = go (has_name xs x) refl
  where
    go : (b : Bool) → has_name xs x ≡ b → has_name xs x ≡ false
    go true e = let none : are_distinct (xs ++ x ∷ ys) ≡ false = twice xs x ys e in absurd (cc)
    go false e = e
