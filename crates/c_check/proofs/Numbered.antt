-- Names that tell their places, and others behind them.
use Rattle.std.proofs.Common.{◌≡◌, ℕ, zero, suc, ◌+◌, ◌<◌, Bool, true, false, cond, List, [], ◌∷◌, ◌++◌, length, length-append, append_assoc, Option, None, Some, is_some, slice_get, refl, sym, ap, subst, ◌∙◌, arith, true≢false, inl, inr, ◌⊎◌, Fits, w64}
use Rattle.std.specs.Option.{option_map}
use Rattle.std.specs.Cmp.Lexicographic.{bytes_decides}
use Rattle.scheme_data.specs.Names.{is_same}
use Rattle.name_table.specs.Names.{place_of}
use Rattle.name_table.proofs.Places.{place-cons}
use Rattle.c_check.specs.Hints.{hint_of, AreHinted, AreCounted}

abbrev one_more : Option ℕ → Option ℕ
one_more None = None
one_more (Some n) = Some (suc n)

abbrev pub or_behind : ℕ → Option ℕ → Option ℕ → Option ℕ
or_behind k (Some i) o = Some i
or_behind k None None = None
or_behind k None (Some n) = Some (k + n)

append-nil : {A : Type 0} (xs : List A) → xs ++ [] ≡ xs
append-nil [] = refl
append-nil (x ∷ xs) = ap (λ r. x ∷ r) (append-nil xs)

cons : (name x : List ℕ) (xs : List (List ℕ)) (b : Bool) → is_same name x ≡ b → place_of name (x ∷ xs) ≡ cond b (Some 0) (one_more (place_of name xs))
cons name x xs b is = place-cons name x xs b is ∙ ap (cond b (Some 0)) (by (place_of name xs))
  where
    by : (o : Option ℕ) → option_map (λ n. suc n) o ≡ one_more o
    by None = refl
    by (Some n) = refl

-- a name stands where it is found
pub stands : (name : List ℕ) (names : List (List ℕ)) (i : ℕ) → place_of name names ≡ Some i → slice_get names i ≡ Some name
stands name [] i at = absurd (cc)
stands name (x ∷ xs) i at = by (is_same name x) refl (place_of name xs) refl (λ j found. stands name xs j found) (sym (cons name x xs (is_same name x) refl) ∙ at)
  where
    by : (b : Bool) → is_same name x ≡ b → (o : Option ℕ) → place_of name xs ≡ o → ((j : ℕ) → place_of name xs ≡ Some j → slice_get xs j ≡ Some name) → cond b (Some 0) (one_more o) ≡ Some i → slice_get (x ∷ xs) i ≡ Some name
    by true same o found later here =
        let first : 0 ≡ i = cc in
        subst (λ k. slice_get (x ∷ xs) k ≡ Some name) first (ap (λ n. Some n) (sym ((bytes_decides name x).0 same)))
    by false same None found later here = absurd (cc)
    by false same (Some j) found later here =
        let next : suc j ≡ i = cc in
        subst (λ k. slice_get (x ∷ xs) k ≡ Some name) next (later j found)

-- and what stands there is found
found-some : (name : List ℕ) (names : List (List ℕ)) (i : ℕ) → slice_get names i ≡ Some name → is_some (place_of name names) ≡ true
found-some name [] i at = absurd (cc)
found-some name (x ∷ xs) i at = by (is_same name x) refl i (λ j there. found-some name xs j there) at
  where
    more : (o : Option ℕ) → is_some o ≡ true → is_some (one_more o) ≡ true
    more None h = absurd (cc)
    more (Some n) h = refl

    by : (b : Bool) → is_same name x ≡ b → (i : ℕ) → ((j : ℕ) → slice_get xs j ≡ Some name → is_some (place_of name xs) ≡ true) → slice_get (x ∷ xs) i ≡ Some name → is_some (place_of name (x ∷ xs)) ≡ true
    by true same i later at = ap is_some (cons name x xs true same)
    by false same zero later at =
        let alike : x ≡ name = cc in
        absurd (true≢false (sym ((bytes_decides name x).1 (sym alike)) ∙ same))
    by false same (suc j) later at = ap is_some (cons name x xs false same) ∙ more (place_of name xs) (later j at)

pub at_hint : (names : List (List ℕ)) (name other : List ℕ) (at : ℕ) → AreHinted names → at ≡ hint_of name → slice_get names at ≡ Some other → is_same name other ≡ true → Some at ≡ place_of name names
at_hint names name other at hinted is there same = by (place_of name names) refl
  where
    here : slice_get names at ≡ Some name
    here = there ∙ ap (λ n. Some n) (sym ((bytes_decides name other).0 same))

    by : (o : Option ℕ) → place_of name names ≡ o → Some at ≡ place_of name names
    by None e = absurd (true≢false (sym (found-some name names at here) ∙ ap is_some e))
    by (Some j) e = ap (λ n. Some n) (is ∙ hinted j name (stands name names j e)) ∙ sym e

pub not_at_hint : (names : List (List ℕ)) (name other : List ℕ) (at : ℕ) → AreHinted names → at ≡ hint_of name → slice_get names at ≡ Some other → is_same name other ≡ false → None ≡ place_of name names
not_at_hint names name other at hinted is there same = by (place_of name names) refl
  where
    by : (o : Option ℕ) → place_of name names ≡ o → None ≡ place_of name names
    by None e = sym e
    by (Some j) e =
        let here : slice_get names at ≡ Some name = ap (slice_get names) (is ∙ hinted j name (stands name names j e)) ∙ stands name names j e in
        let both : Some other ≡ Some name = sym there ∙ here in
        let alike : other ≡ name = cc in
        absurd (true≢false (sym ((bytes_decides name other).1 (sym alike)) ∙ same))

pub none_at_hint : (names : List (List ℕ)) (name : List ℕ) (at : ℕ) → AreHinted names → at ≡ hint_of name → slice_get names at ≡ None → None ≡ place_of name names
none_at_hint names name at hinted is there = by (place_of name names) refl
  where
    by : (o : Option ℕ) → place_of name names ≡ o → None ≡ place_of name names
    by None e = sym e
    by (Some j) e =
        let here : slice_get names at ≡ Some name = ap (slice_get names) (is ∙ hinted j name (stands name names j e)) ∙ stands name names j e in
        absurd (cc)

-- Behind other names -------------------------------------------------------------------------

pub place-both : (name : List ℕ) (a b : List (List ℕ)) (o : Option ℕ) → place_of name a ≡ o → place_of name (a ++ b) ≡ or_behind (length a) o (place_of name b)
place-both name [] b None e = by (place_of name b)
  where
    by : (o : Option ℕ) → o ≡ or_behind 0 None o
    by None = refl
    by (Some n) = let e : n ≡ 0 + n = omega arith in ap (λ k. Some k) e
place-both name [] b (Some i) e = absurd (cc)
place-both name (x ∷ xs) b o e = by (is_same name x) refl (place_of name xs) refl (λ p at. place-both name xs b p at)
  where
    next : (k : ℕ) (p q : Option ℕ) → one_more (or_behind k p q) ≡ or_behind (suc k) (one_more p) q
    next k None None = refl
    next k None (Some n) = let e : suc (k + n) ≡ suc k + n = omega arith in ap (λ m. Some m) e
    next k (Some i) q = refl

    by : (c : Bool) → is_same name x ≡ c → (p : Option ℕ) → place_of name xs ≡ p → ((q : Option ℕ) → place_of name xs ≡ q → place_of name (xs ++ b) ≡ or_behind (length xs) q (place_of name b)) → place_of name (x ∷ xs ++ b) ≡ or_behind (suc (length xs)) o (place_of name b)
    by true same p at later =
        cons name x (xs ++ b) true same ∙ ap (λ q. or_behind (suc (length xs)) q (place_of name b)) (sym (cons name x xs true same) ∙ e)
    by false same p at later =
        cons name x (xs ++ b) false same ∙ ap one_more (later p at) ∙ next (length xs) p (place_of name b)
        ∙ ap (λ q. or_behind (suc (length xs)) q (place_of name b)) (ap one_more (sym at) ∙ sym (cons name x xs false same) ∙ e)

pub place_first : (name : List ℕ) (a b : List (List ℕ)) (i : ℕ) (o : Option ℕ) → o ≡ place_of name a → o ≡ Some i → Some i ≡ place_of name (a ++ b)
place_first name a b i o found is = sym (place-both name a b (Some i) (sym found ∙ is))

pub place_behind : (name : List ℕ) (a b : List (List ℕ)) (o p : Option ℕ) (i n : ℕ) → o ≡ place_of name a → o ≡ None → p ≡ place_of name b → p ≡ Some i → n ≡ length a → Some (n + i) ≡ place_of name (a ++ b)
place_behind name a b o p i n missed is found at count =
    ap (λ k. Some (k + i)) count ∙ sym (place-both name a b None (sym missed ∙ is) ∙ ap (or_behind (length a) None) (sym found ∙ at))

pub place_nowhere : (name : List ℕ) (a b : List (List ℕ)) (o p : Option ℕ) → o ≡ place_of name a → o ≡ None → p ≡ place_of name b → p ≡ None → None ≡ place_of name (a ++ b)
place_nowhere name a b o p missed is lost none =
    sym (place-both name a b None (sym missed ∙ is) ∙ ap (or_behind (length a) None) (sym lost ∙ none))

-- the place of a name is less than their number
pub place-below : (name : List ℕ) (names : List (List ℕ)) (o : Option ℕ) (i : ℕ) → o ≡ place_of name names → o ≡ Some i → i < length names
place-below name names o i found is = below names i (stands name names i (sym found ∙ is))
  where
    below : (xs : List (List ℕ)) (k : ℕ) → slice_get xs k ≡ Some name → k < length xs
    below [] k at = absurd (cc)
    below (x ∷ xs) zero at = omega arith
    below (x ∷ xs) (suc k) at = let less = below xs k at in omega arith

-- A name more ----------------------------------------------------------------------------------

-- what stands among names with one more
last-or : (names : List (List ℕ)) (name other : List ℕ) (i : ℕ) → slice_get (names ++ name ∷ []) i ≡ Some other → (slice_get names i ≡ Some other) ⊎ ((i ≡ length names) × (name ≡ other))
last-or [] name other zero at = inr (refl, cc)
last-or [] name other (suc i) at = absurd (cc)
last-or (x ∷ xs) name other zero at = inl at
last-or (x ∷ xs) name other (suc i) at = by (last-or xs name other i at)
  where
    by : (slice_get xs i ≡ Some other) ⊎ ((i ≡ length xs) × (name ≡ other)) → (slice_get (x ∷ xs) (suc i) ≡ Some other) ⊎ ((suc i ≡ length (x ∷ xs)) × (name ≡ other))
    by (inl h) = inl h
    by (inr (p, q)) = inr (ap (λ n. suc n) p, q)

hinted-more : (names : List (List ℕ)) (name : List ℕ) → AreHinted names → hint_of name ≡ length names → AreHinted (names ++ name ∷ [])
hinted-more names name hinted is i other at = by (last-or names name other i at)
  where
    by : (slice_get names i ≡ Some other) ⊎ ((i ≡ length names) × (name ≡ other)) → hint_of other ≡ i
    by (inl h) = hinted i other h
    by (inr (p, q)) = ap hint_of (sym q) ∙ is ∙ sym p

pub numbered_more : (numbered others : List (List ℕ)) (name : List ℕ) (len next : ℕ) → AreCounted numbered others len → hint_of name ≡ length numbered → next ≡ len + 1 → Fits w64 next → AreCounted (numbered ++ name ∷ []) others next
numbered_more numbered others name len next counted hinted is fits =
    let l = length-append numbered (name ∷ []) in
    let c = counted.count in
    record { hinted = hinted-more numbered name counted.hinted hinted; count = omega arith; fits = fits }

pub others_more : (numbered others : List (List ℕ)) (name : List ℕ) (len next : ℕ) → AreCounted numbered others len → next ≡ len + 1 → Fits w64 next → AreCounted numbered (others ++ name ∷ []) next
others_more numbered others name len next counted is fits =
    let l = length-append others (name ∷ []) in
    let c = counted.count in
    record { hinted = counted.hinted; count = omega arith; fits = fits }

no-length : (xs : List (List ℕ)) (n len : ℕ) → len ≡ n + length xs → len ≡ n → xs ≡ []
no-length [] n len count same = refl
no-length (x ∷ xs) n len count same = absurd (omega arith)

pub numbered_pushed : (numbered others : List (List ℕ)) (name : List ℕ) (len : ℕ) → AreCounted numbered others len → len ≡ length numbered → (numbered ++ name ∷ []) ++ others ≡ (numbered ++ others) ++ name ∷ []
numbered_pushed numbered others name len counted same =
    let none : others ≡ [] = no-length others (length numbered) len counted.count same in
    subst (λ xs. (numbered ++ name ∷ []) ++ xs ≡ (numbered ++ xs) ++ name ∷ []) (sym none) (append-nil (numbered ++ name ∷ []) ∙ ap (λ xs. xs ++ name ∷ []) (sym (append-nil numbered)))

pub others_pushed : (numbered others : List (List ℕ)) (name : List ℕ) → numbered ++ (others ++ name ∷ []) ≡ (numbered ++ others) ++ name ∷ []
others_pushed numbered others name = sym (append_assoc numbered others (name ∷ []))

pub place-fits : (name : List ℕ) (numbered others : List (List ℕ)) (len : ℕ) (o : Option ℕ) (i n : ℕ) → AreCounted numbered others len → o ≡ place_of name others → o ≡ Some i → n ≡ length numbered → Fits w64 (n + i)
place-fits name numbered others len o i n counted found is count =
    let below = place-below name others o i found is in
    let c = counted.count in
    let f = counted.fits in
    omega arith
