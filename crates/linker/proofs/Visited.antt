-- What visits add: no module twice, and none that isn't reached.
use Rattle.std.proofs.Common.{◌≡◌, ℕ, zero, suc, List, [], ◌∷◌, ◌++◌, nat_eq, nat_lt, Bool, true, false, ◌&&◌, ◌||◌, refl, ap, ap₂, subst, arith}
use Rattle.std.proofs.lemmas.Bool.Decides.{nat_tests}
use Rattle.std.specs.List.{list_all}
use Rattle.meaning.specs.Order.{Imports, imported, is_marked, Visits, no_more, skipped, visited, IsOrder}
use Rattle.linker.specs.Modules.{AreApart}

-- Numbers in lists --------------------------------------------------------------------------

same_number : (n : ℕ) → nat_eq n n ≡ true
same_number n = grind (arith, nat_tests)

not_true : (b : Bool) → (b ≡ true → ⊥) → b ≡ false
not_true false no_way = refl
not_true true no_way = absurd (no_way refl)

unless_later : (x y : Bool) → (x ≡ true → y ≡ true) → y ≡ false → x ≡ false
unless_later x y on none = not_true x (λ h. let e = on h in absurd (cc))

either : {P : Type 0} (a b : Bool) → (a || b) ≡ true → (a ≡ true → P) → (b ≡ true → P) → P
either true b h first second = first refl
either false b h first second = second h

is_there : (n : ℕ) (ns : List ℕ) → is_marked (n ∷ ns) n ≡ true
is_there n ns = ap (λ (b : Bool). b || is_marked ns n) (same_number n)

is_behind : (n k : ℕ) (ns : List ℕ) → is_marked ns k ≡ true → is_marked (n ∷ ns) k ≡ true
is_behind n k ns h = go (nat_eq k n)
  where
    go : (b : Bool) → (b || is_marked ns k) ≡ true
    go true = refl
    go false = h

no_longer : (n k : ℕ) (ns : List ℕ) → is_marked (n ∷ ns) k ≡ false → is_marked ns k ≡ false
no_longer n k ns = unless_later (is_marked ns k) (is_marked (n ∷ ns) k) (is_behind n k ns)

-- a number that is added stands before one, is it, or stands after it
among : {P : Type 0} (before after : List ℕ) (n k : ℕ) → is_marked (before ++ n ∷ after) k ≡ true → (is_marked before k ≡ true → P) → (k ≡ n → P) → (is_marked after k ≡ true → P) → P
among [] after n k h first here last = either (nat_eq k n) (is_marked after k) h (λ e. here (grind (arith, nat_tests))) last
among (x ∷ xs) after n k h first here last =
    either (nat_eq k x) (is_marked (xs ++ n ∷ after) k) h
    (λ e. first (ap (λ (b : Bool). b || is_marked xs k) e))
    (λ e. among xs after n k e (λ i. first (is_behind x k xs i)) here last)

stands_there : (before after : List ℕ) (n : ℕ) → is_marked (before ++ n ∷ after) n ≡ true
stands_there [] after n = is_there n after
stands_there (x ∷ xs) after n = is_behind x n (xs ++ n ∷ after) (stands_there xs after n)

apart_around : (before after : List ℕ) (n : ℕ) → AreApart before → AreApart after → (is_marked before n ≡ true → ⊥) → (is_marked after n ≡ true → ⊥) → ((k : ℕ) → is_marked before k ≡ true → is_marked after k ≡ true → ⊥) → AreApart (before ++ n ∷ after)
apart_around [] after n a b not_before not_after never = (not_true (is_marked after n) not_after, b)
apart_around (x ∷ xs) after n a b not_before not_after never =
    (not_true (is_marked (xs ++ n ∷ after) x) once, apart_around xs after n a.1 b (λ h. not_before (is_behind x n xs h)) not_after (λ k h. never k (is_behind x k xs h)))
  where
    once : is_marked (xs ++ n ∷ after) x ≡ true → ⊥
    once h =
        among {P = ⊥} xs after n x h
        (λ i. let none = a.0 in absurd (cc))
        (λ e. not_before (subst (λ (m : ℕ). is_marked (x ∷ xs) m ≡ true) e (is_there x xs)))
        (λ i. never x (is_there x xs) i)

-- Visits ------------------------------------------------------------------------------------

-- what was added wasn't marked before, and is marked later
record IsFresh (marked later added : List ℕ) : Type 0 where
  grows : (k : ℕ) → is_marked marked k ≡ true → is_marked later k ≡ true
  new : (k : ℕ) → is_marked added k ≡ true → is_marked marked k ≡ false
  kept : (k : ℕ) → is_marked added k ≡ true → is_marked later k ≡ true
  apart : AreApart added

nothing_new : (marked : List ℕ) → IsFresh marked marked []
nothing_new marked = record { grows = λ k h. h; new = λ k h. absurd (cc); kept = λ k h. absurd (cc); apart = tt }

one_new : (marked between later before after : List ℕ) (n : ℕ) → is_marked marked n ≡ false → IsFresh (n ∷ marked) between before → IsFresh between later after → IsFresh marked later (before ++ n ∷ after)
one_new marked between later before after n unmarked a b = record {
  grows = λ k h. b.grows k (wider k h);
  new = λ k h. among before after n k h (λ i. no_longer n k marked (a.new k i)) (λ e. rw e unmarked) (λ i. unless_later (is_marked marked k) (is_marked between k) (wider k) (b.new k i));
  kept = λ k h. among before after n k h (λ i. b.grows k (a.kept k i)) (λ e. b.grows k (rw e here)) (λ i. b.kept k i);
  apart = apart_around before after n a.apart b.apart
      (λ h. clash (is_marked (n ∷ marked) n) (is_there n marked) (a.new n h))
      (λ h. clash (is_marked between n) here (b.new n h))
      (λ k h i. clash (is_marked between k) (a.kept k h) (b.new k i));
}
  where
    clash : (x : Bool) → x ≡ true → x ≡ false → ⊥
    clash x yes_it_is none = absurd (cc)

    wider : (k : ℕ) → is_marked marked k ≡ true → is_marked between k ≡ true
    wider k h = a.grows k (is_behind n k marked h)

    here : is_marked between n ≡ true
    here = a.grows n (is_there n marked)

fresh : (g : Imports) {marked ns later added : List ℕ} → Visits g marked ns later added → IsFresh marked later added
fresh g (no_more marked) = nothing_new marked
fresh g (skipped marked n ns later added h v) = fresh g v
fresh g (visited marked n ns between later before after h v w) = one_new marked between later before after n h (fresh g v) (fresh g w)

pub order_apart : (g : Imports) (root : ℕ) (order : List ℕ) → IsOrder g root order → AreApart order
order_apart g root order o = (fresh g o.visits).apart

-- The root ----------------------------------------------------------------------------------

root_added : (g : Imports) (root : ℕ) {marked ns later added : List ℕ} → Visits g marked ns later added → marked ≡ [] → ns ≡ root ∷ [] → is_marked added root ≡ true
root_added g root (no_more marked) e k = absurd (cc)
root_added g root (skipped marked n ns later added h v) e k =
    let none : is_marked marked n ≡ false = ap (λ (ms : List ℕ). is_marked ms n) e in
    absurd (cc)
root_added g root (visited marked n ns between later before after h v w) e k =
    let same : n ≡ root = cc in
    subst (λ (m : ℕ). is_marked (before ++ n ∷ after) m ≡ true) same (stands_there before after n)

pub root_among : (g : Imports) (root : ℕ) (order : List ℕ) → IsOrder g root order → is_marked order root ≡ true
root_among g root order o = root_added g root o.visits refl refl

-- Bounds ------------------------------------------------------------------------------------

abbrev pub are_below : ℕ → List ℕ → Bool
are_below size ns = list_all (λ n. nat_lt n size) ns

pub split : {P : Type 0} (p q : Bool) → (p && q) ≡ true → (p ≡ true → q ≡ true → P) → P
split true q h on = on refl h
split false q h on = absurd (cc)

both : (p q : Bool) → p ≡ true → q ≡ true → (p && q) ≡ true
both p q a b = ap₂ (λ (x y : Bool). x && y) a b

below_around : (size : ℕ) (before after : List ℕ) (n : ℕ) → are_below size before ≡ true → nat_lt n size ≡ true → are_below size after ≡ true → are_below size (before ++ n ∷ after) ≡ true
below_around size [] after n a here b = both (nat_lt n size) (are_below size after) here b
below_around size (x ∷ xs) after n a here b =
    split (nat_lt x size) (are_below size xs) a (λ h k. both (nat_lt x size) (are_below size (xs ++ n ∷ after)) h (below_around size xs after n k here b))

imported_below : (size : ℕ) (g : Imports) (n : ℕ) → list_all (are_below size) g ≡ true → are_below size (imported g n) ≡ true
imported_below size [] n h = refl
imported_below size (ns ∷ g) zero h = split (are_below size ns) (list_all (are_below size) g) h (λ a b. a)
imported_below size (ns ∷ g) (suc n) h = split (are_below size ns) (list_all (are_below size) g) h (λ a b. imported_below size g n b)

added_below : (g : Imports) (size : ℕ) → list_all (are_below size) g ≡ true → {marked ns later added : List ℕ} → Visits g marked ns later added → are_below size ns ≡ true → are_below size added ≡ true
added_below g size all (no_more marked) h = refl
added_below g size all (skipped marked n ns later added s v) h = split (nat_lt n size) (are_below size ns) h (λ a b. added_below g size all v b)
added_below g size all (visited marked n ns between later before after s v w) h =
    split (nat_lt n size) (are_below size ns) h
    (λ a b. below_around size before after n (added_below g size all v (imported_below size g n all)) a (added_below g size all w b))

pub order_below : (g : Imports) (size root : ℕ) (order : List ℕ) → list_all (are_below size) g ≡ true → nat_lt root size ≡ true → IsOrder g root order → are_below size order ≡ true
order_below g size root order all low o = added_below g size all o.visits (ap (λ (b : Bool). b && true) low)
