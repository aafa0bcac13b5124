-- Names and their values side by side, as entries.
use Rattle.std.proofs.Common.{◌≡◌, ℕ, suc, ◌≤◌, ◌<◌, ◌+◌, Bool, true, false, ◌||◌, not, cond, List, [], ◌∷◌, ◌++◌, length, length-append, Option, Some, None, is_some, nat_lt, slice_get, if◌then◌else◌, refl, sym, ap, ◌∙◌, arith, true≢false}
use Rattle.std.proofs.Math.ListN.{set}
use borrow.Author.Tests.{ltb-true}
use Rattle.std.specs.Option.{option_or}
use Rattle.std.specs.Cmp.Lexicographic.{bytes_decides}
use Rattle.std.proofs.lemmas.Bool.{ltb-false}
use Rattle.std.proofs.lemmas.Option.{slice_get_past}
use Rattle.std.specs.List.{zip, position_or_len}
use Rattle.std.specs.Map.{lookup}
use Rattle.name_table.specs.Names.{has_name, place_of}
use Rattle.scheme_data.specs.Names.{is_same}
use Rattle.c_check.specs.Keys.{has_key, IsSet}

-- where a name would stand among others
abbrev place : List ℕ → List (List ℕ) → ℕ
place name names = position_or_len (is_same name) names

lookup-place : {A : Type 0} (name : List ℕ) (names : List (List ℕ)) (values : List A) → length names ≡ length values → lookup (is_same name) (zip names values) ≡ slice_get values (place name names)
lookup-place name [] [] same = refl
lookup-place name [] (w ∷ ws) same = absurd (omega arith)
lookup-place name (n ∷ ns) [] same = absurd (omega arith)
lookup-place name (n ∷ ns) (v ∷ vs) same = by (is_same name n) (lookup-place name ns vs (omega arith))
  where
    by : (b : Bool) → lookup (is_same name) (zip ns vs) ≡ slice_get vs (place name ns) → cond b (Some v) (lookup (is_same name) (zip ns vs)) ≡ slice_get (v ∷ vs) (cond (not b) (1 + place name ns) 0)
    by true rest = refl
    by false rest = rest ∙ (let e : suc (place name ns) ≡ 1 + place name ns = omega arith in ap (slice_get (v ∷ vs)) e)

pub lookup-at : {A : Type 0} (name : List ℕ) (names : List (List ℕ)) (values : List A) → length names ≡ length values → (i : ℕ) → place_of name names ≡ Some i → lookup (is_same name) (zip names values) ≡ slice_get values i
lookup-at name names values same i at = lookup-place name names values same ∙ ap (slice_get values) (by (nat_lt (place name names) (length names)) at)
  where
    by : (b : Bool) → cond b (Some (place name names)) None ≡ Some i → place name names ≡ i
    by true e = cc
    by false e = absurd (cc)

pub lookup-none : {A : Type 0} (name : List ℕ) (names : List (List ℕ)) (values : List A) → length names ≡ length values → place_of name names ≡ None → lookup (is_same name) (zip names values) ≡ None
lookup-none name names values same at = lookup-place name names values same ∙ by (nat_lt (place name names) (length names)) refl at
  where
    by : (b : Bool) → nat_lt (place name names) (length names) ≡ b → cond b (Some (place name names)) None ≡ None → slice_get values (place name names) ≡ None
    by true e none = absurd (cc)
    by false e none = let past : length names ≤ place name names = ltb-false (place name names) (length names) e in slice_get_past values (place name names) (omega arith)

pub has-key : {A : Type 0} (name : List ℕ) (names : List (List ℕ)) (values : List A) → length names ≡ length values → has_name names name ≡ has_key name (zip names values)
has-key name [] values same = refl
has-key name (n ∷ ns) [] same = absurd (omega arith)
has-key name (n ∷ ns) (v ∷ vs) same = by (is_same name n) (has-key name ns vs (omega arith))
  where
    by : (b : Bool) → has_name ns name ≡ has_key name (zip ns vs) → (b || has_name ns name) ≡ is_some (cond b (Some v) (lookup (is_same name) (zip ns vs)))
    by true rest = refl
    by false rest = rest

zip-push : {A : Type 0} (names : List (List ℕ)) (values : List A) (n : List ℕ) (v : A) → length names ≡ length values → zip (names ++ n ∷ []) (values ++ v ∷ []) ≡ zip names values ++ (n, v) ∷ []
zip-push [] [] n v same = refl
zip-push [] (w ∷ ws) n v same = absurd (omega arith)
zip-push (m ∷ ms) [] n v same = absurd (omega arith)
zip-push (m ∷ ms) (w ∷ ws) n v same = ap (λ es. (m, w) ∷ es) (zip-push ms ws n v (omega arith))

-- one more name that is new, with its value
pub record Pushed {A : Type 0} (names : List (List ℕ)) (values : List A) (name : List ℕ) (value : A) (names2 : List (List ℕ)) (values2 : List A) : Type 0 where
  pub long : length names2 ≡ length values2
  pub are : zip names2 values2 ≡ zip names values ++ (name, value) ∷ []

pub pushed : {A : Type 0} (names : List (List ℕ)) (values : List A) (name : List ℕ) (value : A) (names2 : List (List ℕ)) (values2 : List A) (added : Bool) → length names ≡ length values → has_key name (zip names values) ≡ false
    → added ≡ not (has_name names name) → names2 ≡ (if added then names ++ name ∷ [] else names) → values2 ≡ values ++ value ∷ [] → Pushed names values name value names2 values2
pushed names values name value names2 values2 added long new is at more =
    let is_new : added ≡ true = is ∙ ap not (has-key name names values long ∙ new) in
    let named : names2 ≡ names ++ name ∷ [] = at ∙ ap (λ b. if b then names ++ name ∷ [] else names) is_new in
    let l1 = length-append names (name ∷ []) in
    let l2 = length-append values (value ∷ []) in
    record {
      long = ap length named ∙ l1 ∙ ap (λ n. n + 1) long ∙ sym l2 ∙ sym (ap length more);
      are = (λ i. zip (named i) (more i)) ∙ zip-push names values name value long;
    }

-- A value in place of another ----------------------------------------------------------------

pub is_same-true : (a b : List ℕ) → is_same a b ≡ true → a ≡ b
is_same-true a b h = (bytes_decides a b).0 h

pub is_same-self : (a b : List ℕ) → a ≡ b → is_same a b ≡ true
is_same-self a b h = (bytes_decides a b).1 h

set-place : {A : Type 0} (key name : List ℕ) (value : A) (names : List (List ℕ)) (values : List A) → length names ≡ length values → place name names < length names
    → lookup (is_same key) (zip names (set values (place name names) value)) ≡ (if is_same key name then Some value else lookup (is_same key) (zip names values))
set-place {A = A} key name value [] values same inside = absurd (omega arith)
set-place {A = A} key name value (n ∷ ns) [] same inside = absurd (omega arith)
set-place {A = A} key name value (n ∷ ns) (w ∷ ws) same inside =
    by (is_same name n) refl inside (λ within. set-place key name value ns ws (omega arith) within)
  where
    rest : List (List ℕ × A)
    rest = zip ns ws

    here : (b : Bool) → cond b (Some value) (lookup (is_same key) rest) ≡ cond b (Some value) (cond b (Some w) (lookup (is_same key) rest))
    here true = refl
    here false = refl

    crossed : (b d : Bool) → (b ≡ true → d ≡ true → ⊥) → cond b (Some w) (cond d (Some value) (lookup (is_same key) rest)) ≡ cond d (Some value) (cond b (Some w) (lookup (is_same key) rest))
    crossed true true apart = absurd (apart refl refl)
    crossed true false apart = refl
    crossed false true apart = refl
    crossed false false apart = refl

    apart : is_same name n ≡ false → is_same key n ≡ true → is_same key name ≡ true → ⊥
    apart differ k d = true≢false (sym (is_same-self name n (sym (is_same-true key name d) ∙ is_same-true key n k)) ∙ differ)

    by : (b : Bool) → is_same name n ≡ b → cond (not b) (1 + place name ns) 0 < length (n ∷ ns)
        → (place name ns < length ns → lookup (is_same key) (zip ns (set ws (place name ns) value)) ≡ (if is_same key name then Some value else lookup (is_same key) rest))
        → lookup (is_same key) (zip (n ∷ ns) (set (w ∷ ws) (cond (not b) (1 + place name ns) 0) value)) ≡ (if is_same key name then Some value else lookup (is_same key) (zip (n ∷ ns) (w ∷ ws)))
    by true e within others =
        let at : n ≡ name = sym (is_same-true name n e) in
        ap (λ m. cond (is_same key m) (Some value) (lookup (is_same key) rest)) at ∙ here (is_same key name)
        ∙ ap (λ m. cond (is_same key name) (Some value) (cond (is_same key m) (Some w) (lookup (is_same key) rest))) (sym at)
    by false e within others =
        let one : 1 + place name ns ≡ suc (place name ns) = omega arith in
        ap (λ p. lookup (is_same key) (zip (n ∷ ns) (set (w ∷ ws) p value))) one
        ∙ ap (cond (is_same key n) (Some w)) (others (omega arith))
        ∙ crossed (is_same key n) (is_same key name) (apart e)

placed : (name : List ℕ) (names : List (List ℕ)) (i : ℕ) → place_of name names ≡ Some i → (place name names ≡ i) × (place name names < length names)
placed name names i at = by (nat_lt (place name names) (length names)) refl at
  where
    by : (b : Bool) → nat_lt (place name names) (length names) ≡ b → cond b (Some (place name names)) None ≡ Some i → (place name names ≡ i) × (place name names < length names)
    by true e found = (cc, ltb-true (place name names) (length names) e)
    by false e found = absurd (cc)

pub set-at : {A : Type 0} (name : List ℕ) (value : A) (names : List (List ℕ)) (values : List A) (i : ℕ) (old : List (List ℕ × A)) → zip names values ≡ old → length names ≡ length values → place_of name names ≡ Some i → IsSet old name value (zip names (set values i value))
set-at name value names values i old is same at key =
    let found : (place name names ≡ i) × (place name names < length names) = placed name names i at in
    ap (λ p. lookup (is_same key) (zip names (set values p value))) (sym found.0)
    ∙ set-place key name value names values same found.1
    ∙ ap (λ es. if is_same key name then Some value else lookup (is_same key) es) is

lookup-push : {A : Type 0} (key name : List ℕ) (value : A) (old : List (List ℕ × A)) → lookup (is_same key) (old ++ (name, value) ∷ []) ≡ option_or (lookup (is_same key) old) (cond (is_same key name) (Some value) None)
lookup-push key name value [] = refl
lookup-push key name value (e ∷ es) = by (is_same key e.0) (lookup-push key name value es)
  where
    by : (b : Bool) → lookup (is_same key) (es ++ (name, value) ∷ []) ≡ option_or (lookup (is_same key) es) (cond (is_same key name) (Some value) None)
        → cond b (Some e.1) (lookup (is_same key) (es ++ (name, value) ∷ [])) ≡ option_or (cond b (Some e.1) (lookup (is_same key) es)) (cond (is_same key name) (Some value) None)
    by true rest = refl
    by false rest = rest

pub set-new : {A : Type 0} (name : List ℕ) (value : A) (old : List (List ℕ × A)) → has_key name old ≡ false → IsSet old name value (old ++ (name, value) ∷ [])
set-new {A = A} name value old new key = lookup-push key name value old ∙ by (is_same key name) refl
  where
    none : (o : Option A) → is_some o ≡ false → o ≡ None
    none None h = refl
    none (Some x) h = absurd (true≢false h)

    left : (o : Option A) → option_or o None ≡ o
    left None = refl
    left (Some x) = refl

    by : (b : Bool) → is_same key name ≡ b → option_or (lookup (is_same key) old) (cond b (Some value) None) ≡ cond b (Some value) (lookup (is_same key) old)
    by true e = ap (λ o. option_or o (Some value)) (ap (λ k. lookup (is_same k) old) (is_same-true key name e) ∙ none (lookup (is_same name) old) new)
    by false e = left (lookup (is_same key) old)

-- a name that has no place has no value
pub no-place : {A : Type 0} (name : List ℕ) (names : List (List ℕ)) (values : List A) (old : List (List ℕ × A)) → zip names values ≡ old → length names ≡ length values → place_of name names ≡ None → has_key name old ≡ false
no-place name names values old is same at = ap (has_key name) (sym is) ∙ ap is_some (lookup-none name names values same at)
