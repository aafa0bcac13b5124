-- The first of what stands in parts.
use Rattle.std.proofs.Common.{◌≡◌, List, [], ◌∷◌, ◌++◌, Option, Some, None, is_some, true, false, refl, sym, ap, ◌∙◌}
use Rattle.std.specs.Option.{option_or}
use Rattle.c_meaning.specs.declared.breach.BadCause.{BadCause}
use Rattle.c_check.specs.Firsts.{first}

pub first-append : {A : Type 0} (xs ys : List A) → first (xs ++ ys) ≡ option_or (first xs) (first ys)
first-append [] ys = refl
first-append (x ∷ xs) ys = refl

module _ (p q : List BadCause) where
  -- what comes first of two
  pub first_here : (r : Option BadCause) → r ≡ first p → is_some r ≡ true → r ≡ first (p ++ q)
  first_here None is h = absurd (cc)
  first_here (Some c) is h = ap (λ o. option_or o (first q)) is ∙ sym (first-append p q)

  pub first_behind : (r : Option BadCause) → r ≡ first p → is_some r ≡ false → first (p ++ q) ≡ first q
  first_behind None is h = first-append p q ∙ ap (λ o. option_or o (first q)) (sym is)
  first_behind (Some c) is h = absurd (cc)

  pub first_of_two : (r a b : Option BadCause) → r ≡ option_or a b → a ≡ first p → b ≡ first q → r ≡ first (p ++ q)
  first_of_two r a b is here behind = is ∙ (λ i. option_or (here i) (behind i)) ∙ sym (first-append p q)

pub first_of_three : (p q s : List BadCause) (r a m b c : Option BadCause) → r ≡ option_or a m → m ≡ option_or b c → a ≡ first p → b ≡ first q → c ≡ first s → r ≡ first (p ++ (q ++ s))
first_of_three p q s r a m b c is is2 here behind last = first_of_two p (q ++ s) r a m is here (first_of_two q s m b c is2 behind last)

-- two, and then a third
pub first_of_pair : (p q s : List BadCause) (r m a b c : Option BadCause) → r ≡ option_or m c → m ≡ option_or a b → a ≡ first p → b ≡ first q → c ≡ first s → r ≡ first ((p ++ q) ++ s)
first_of_pair p q s r m a b c is is2 here behind last = first_of_two (p ++ q) s r m c is (first_of_two p q m a b is2 here behind) last

module _ {A : Type 0} (p q : List A) where
  pub first_found : (c : A) → first p ≡ Some c → first (p ++ q) ≡ Some c
  first_found c is = first-append p q ∙ ap (λ o. option_or o (first q)) is

  pub first_missed : first p ≡ None → first (p ++ q) ≡ first q
  first_missed is = first-append p q ∙ ap (λ o. option_or o (first q)) is

-- of two in front of others
pub pair_found : (p q s : List BadCause) (r a b : Option BadCause) (c : BadCause) → r ≡ option_or a b → a ≡ first p → b ≡ first q → r ≡ Some c → first (p ++ (q ++ s)) ≡ Some c
pair_found p q s r a b c is here behind some =
    first-append p (q ++ s) ∙ ap (option_or (first p)) (first-append q s) ∙ by (first p) (first q) (sym (is ∙ (λ i. option_or (here i) (behind i))) ∙ some)
  where
    by : (o u : Option BadCause) → option_or o u ≡ Some c → option_or o (option_or u (first s)) ≡ Some c
    by None None h = absurd (cc)
    by None (Some x) h = h
    by (Some x) u h = h

-- the last of four, where nothing is in front of it
pub last_of_four : (p q s t : List BadCause) (r a b u w : Option BadCause) → r ≡ option_or a b → a ≡ first p → b ≡ first q → r ≡ None → u ≡ first s → u ≡ None → w ≡ first t → w ≡ first (p ++ (q ++ (s ++ t)))
last_of_four p q s t r a b u w is here behind none third missed last =
    let both : (a ≡ None) × (b ≡ None) = apart a b (sym is ∙ none) in
    last ∙ sym (first_missed p (q ++ (s ++ t)) (sym here ∙ both.0) ∙ first_missed q (s ++ t) (sym behind ∙ both.1) ∙ first_missed s t (sym third ∙ missed))
  where
    apart : (x y : Option BadCause) → option_or x y ≡ None → (x ≡ None) × (y ≡ None)
    apart None None h = (refl, refl)
    apart None (Some v) h = absurd (cc)
    apart (Some v) y h = absurd (cc)
