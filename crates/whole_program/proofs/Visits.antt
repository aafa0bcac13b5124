-- What is visited: each module once, with all that it imports, and in one order.
use Rattle.std.proofs.Common.{◌≡◌, ℕ, Bool, true, false, ◌||◌, List, [], ◌∷◌, ◌++◌, nat_eq, refl, sym, ap, ap₂, ◌∙◌, subst}
use Rattle.std.proofs.lemmas.Bool.{or_parts, or_left, or_right, or_from, eqb-true, eq-eqb, false_from_ne_true, true≢false}
use Rattle.std.proofs.lemmas.List.Folds.{list_any-append}
use Rattle.meaning.specs.Order.{Imports, imported, is_marked, Visits, no_more, skipped, visited, IsOrder}

-- Marks -------------------------------------------------------------------------------------

regroup : (a b c m : Bool) → (a || (b || (c || m))) ≡ ((b || (c || a)) || m)
regroup true true c m = refl
regroup true false true m = refl
regroup true false false m = refl
regroup false true c m = refl
regroup false false true m = refl
regroup false false false m = refl

-- what is marked at the end was marked before, or is added
marks : (g : Imports) (k : ℕ) {marked ns later added : List ℕ} → Visits g marked ns later added → is_marked later k ≡ (is_marked added k || is_marked marked k)
marks g k (no_more marked) = refl
marks g k (skipped marked n ns later added e v) = marks g k v
marks g k (visited marked n ns between later before after e v w) =
    marks g k w ∙ ap (λ b. is_marked after k || b) (marks g k v) ∙ regroup (is_marked after k) (is_marked before k) (nat_eq k n) (is_marked marked k)
    ∙ ap (λ b. b || is_marked marked k) (sym (list_any-append (nat_eq k) before (n ∷ after)))

stays : (g : Imports) (k : ℕ) {marked ns later added : List ℕ} → Visits g marked ns later added → is_marked marked k ≡ true → is_marked later k ≡ true
stays g k {marked = marked} {added = added} v e = marks g k v ∙ or_right (is_marked added k) (is_marked marked k) e

-- a number, or one of others
pub either : {P : Type 0} (k n : ℕ) (others : Bool) → (nat_eq k n || others) ≡ true → (k ≡ n → P) → (others ≡ true → P) → P
either {P = P} k n others e first later = go (nat_eq k n) refl e
  where
    go : (b : Bool) → nat_eq k n ≡ b → (b || others) ≡ true → P
    go true t h = first (eqb-true k n t)
    go false t h = later h

-- one of those before a number, the number, or one of those after it
parted : {P : Type 0} (before : List ℕ) (n : ℕ) (after : List ℕ) (k : ℕ) → is_marked (before ++ n ∷ after) k ≡ true → (is_marked before k ≡ true → P) → (k ≡ n → P) → (is_marked after k ≡ true → P) → P
parted {P = P} before n after k e first here later = go (is_marked before k) refl (sym (list_any-append (nat_eq k) before (n ∷ after)) ∙ e)
  where
    go : (b : Bool) → is_marked before k ≡ b → (b || (nat_eq k n || is_marked after k)) ≡ true → P
    go true t h = first t
    go false t h = either k n (is_marked after k) h here later

-- what is to be visited is marked at the end
arrives : (g : Imports) (k : ℕ) {marked ns later added : List ℕ} → Visits g marked ns later added → is_marked ns k ≡ true → is_marked later k ≡ true
arrives g k (no_more marked) i = absurd (true≢false (sym i))
arrives g k (skipped marked n ns later added e v) i =
    either k n (is_marked ns k) i (λ same. stays g k v (ap (is_marked marked) same ∙ e)) (λ others. arrives g k v others)
arrives g k (visited marked n ns between later before after e v w) i =
    either k n (is_marked ns k) i (λ same. stays g k w (stays g k v (or_left (nat_eq k n) (is_marked marked k) (eq-eqb k n same)))) (λ others. arrives g k w others)

-- what an added module imports is marked at the end
closed : (g : Imports) (j k : ℕ) {marked ns later added : List ℕ} → Visits g marked ns later added → is_marked added k ≡ true → is_marked (imported g k) j ≡ true → is_marked later j ≡ true
closed g j k (no_more marked) i h = absurd (true≢false (sym i))
closed g j k (skipped marked n ns later added e v) i h = closed g j k v i h
closed g j k (visited marked n ns between later before after e v w) i h =
    parted before n after k i
    (λ first. stays g j w (closed g j k v first h))
    (λ same. stays g j w (arrives g j v (subst (λ m. is_marked (imported g m) j ≡ true) same h)))
    (λ later_on. closed g j k w later_on h)

-- Each once ---------------------------------------------------------------------------------

-- what is added wasn't marked
fresh : (g : Imports) (k : ℕ) {marked ns later added : List ℕ} → Visits g marked ns later added → is_marked added k ≡ true → is_marked marked k ≡ false
fresh g k (no_more marked) i = absurd (true≢false (sym i))
fresh g k (skipped marked n ns later added e v) i = fresh g k v i
fresh g k (visited marked n ns between later before after e v w) i =
    parted before n after k i
    (λ first. (or_parts (nat_eq k n) (is_marked marked k) (fresh g k v first)).1)
    (λ same. ap (is_marked marked) same ∙ e)
    (λ later_on. (or_parts (nat_eq k n) (is_marked marked k) (or_parts (is_marked before k) (nat_eq k n || is_marked marked k) (sym (marks g k v) ∙ fresh g k w later_on)).1).1)

-- no number stands twice
abbrev pub Once : List ℕ → Type 0
Once [] = Unit {0}
Once (k ∷ ks) = (is_marked ks k ≡ false) × Once ks

once_both : (xs ys : List ℕ) → Once xs → Once ys → ((k : ℕ) → is_marked xs k ≡ true → is_marked ys k ≡ false) → Once (xs ++ ys)
once_both [] ys h i apart = i
once_both (x ∷ xs) ys h i apart = (
  list_any-append (nat_eq x) xs ys ∙ or_from (is_marked xs x) (is_marked ys x) h.0 (apart x (or_left (nat_eq x x) (is_marked xs x) (eq-eqb x x refl))),
  once_both xs ys h.1 i (λ k e. apart k (or_right (nat_eq k x) (is_marked xs k) e)),
)

-- what is marked isn't added
not_added : (g : Imports) (k : ℕ) {marked ns later added : List ℕ} → Visits g marked ns later added → is_marked marked k ≡ true → is_marked added k ≡ false
not_added g k {added = added} v e = false_from_ne_true (is_marked added k) (λ i. true≢false (sym e ∙ fresh g k v i))

once : (g : Imports) {marked ns later added : List ℕ} → Visits g marked ns later added → Once added
once g (no_more marked) = tt
once g (skipped marked n ns later added e v) = once g v
once g (visited marked n ns between later before after e v w) =
    once_both before (n ∷ after) (once g v) (not_added g n w (stays g n v (or_left (nat_eq n n) (is_marked marked n) (eq-eqb n n refl))), once g w)
    (λ k i. or_from (nat_eq k n) (is_marked after k) (or_parts (nat_eq k n) (is_marked marked k) (fresh g k v i)).0 (not_added g k w (marks g k v ∙ or_left (is_marked before k) (nat_eq k n || is_marked marked k) i)))

-- One order ---------------------------------------------------------------------------------

pub record SameVisits (later l added a : List ℕ) : Type 0 where
  pub marks_are : later ≡ l
  pub added_are : added ≡ a

one : (g : Imports) {marked ns later added : List ℕ} → Visits g marked ns later added → (l a : List ℕ) → Visits g marked ns l a → SameVisits later l added a
one g (no_more marked) l a (no_more m) = record { marks_are = refl; added_are = refl }
one g (skipped marked n ns later added e v) l a (skipped m k ks l1 a1 f w) = one g v l1 a1 w
one g (skipped marked n ns later added e v) l a (visited m k ks b l1 before after f w x) = absurd (true≢false (sym e ∙ f))
one g (visited marked n ns between later before after e v w) l a (skipped m k ks l1 a1 f x) = absurd (true≢false (sym f ∙ e))
one g (visited marked n ns between later before after e v w) l a (visited m k ks b l1 before1 after1 f x y) =
    let first = one g v b before1 x in
    let second = one g w l1 after1 (subst (λ c. Visits g c ns l1 after1) (sym first.marks_are) y) in
    record { marks_are = second.marks_are; added_are = ap₂ (λ (xs ys : List ℕ). xs ++ n ∷ ys) first.added_are second.added_are }

-- Orders ------------------------------------------------------------------------------------

-- the root and all that is imported from there, each once
pub record IsWhole (g : Imports) (root : ℕ) (order : List ℕ) : Type 0 where
  pub root_in : is_marked order root ≡ true
  pub closed_under : (j k : ℕ) → is_marked order k ≡ true → is_marked (imported g k) j ≡ true → is_marked order j ≡ true
  pub once_each : Once order

or_nothing : (b : Bool) → (b || false) ≡ b
or_nothing true = refl
or_nothing false = refl

-- what is marked at the end is what was added
ordered : (g : Imports) (root : ℕ) (order : List ℕ) (k : ℕ) → (is : IsOrder g root order) → is_marked is.marked k ≡ true → is_marked order k ≡ true
ordered g root order k is e = sym (marks g k is.visits ∙ or_nothing (is_marked order k)) ∙ e

pub whole : (g : Imports) (root : ℕ) (order : List ℕ) → IsOrder g root order → IsWhole g root order
whole g root order is = record {
  root_in = ordered g root order root is (arrives g root is.visits (or_left (nat_eq root root) false (eq-eqb root root refl)));
  closed_under = λ j k i h. ordered g root order j is (closed g j k is.visits i h);
  once_each = once g is.visits;
}

pub one_order : (g : Imports) (root : ℕ) (order others : List ℕ) → IsOrder g root order → IsOrder g root others → order ≡ others
one_order g root order others is also = (one g is.visits also.marked others also.visits).added_are
