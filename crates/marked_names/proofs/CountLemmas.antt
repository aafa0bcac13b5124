-- Counts of keys by their places.
use Rattle.std.proofs.Common.{◌≡◌, ℕ, zero, suc, ◌+◌, ◌-◌, ◌<◌, ◌≤◌, ◌||◌, Bool, true, false, not, if◌then◌else◌, cond, nat_lt, List, [], ◌∷◌, ◌++◌, length, map, drop, reverse, get_or, set, Option, Some, None, refl, sym, ap, ◌∙◌, arith}
use Rattle.std.specs.Cmp.Lexicographic.{bytes_decides}
use Rattle.std.specs.List.{list_any}
use Rattle.std.specs.Option.{option_map, is_some}
use Rattle.std.proofs.Math.Seq.{get_or-append_seam, drop-nil}
use Rattle.std.proofs.lemmas.Bool.Decides.{nat_tests}
use Rattle.std.proofs.lemmas.List.{get_or-set_same, get_or-set_other, reverse-append}
use Rattle.scheme_data.specs.Names.{is_same}
use Rattle.name_table.specs.Names.{place_of, has_name}
use Rattle.name_table.proofs.Places.{place-cons, place-has, place-added}
use Rattle.marked_names.specs.Keys.{key_of, of_key, AreKeys, occurrences, count_at, count_of}

abbrev one_more : Option ℕ → Option ℕ
one_more o = option_map (λ n. suc n) o

-- A place is one name's -------------------------------------------------------------------

below_by : (x : List ℕ) (b : Bool) (o : Option ℕ) (p n : ℕ) → ((q : ℕ) → o ≡ Some q → q < n) → cond b (Some 0) (one_more o) ≡ Some p → p < suc n
below_by x true o p n below e = let is : 0 ≡ p = cc in omega (arith, is)
below_by x false None p n below e = absurd (cc)
below_by x false (Some q) p n below e = let is : suc q ≡ p = cc in omega (arith, is, below q refl)

pub place_below : (k : List ℕ) (keys : List (List ℕ)) (p : ℕ) → place_of k keys ≡ Some p → p < length keys
place_below k [] p e = absurd (cc)
place_below k (x ∷ xs) p e = below_by x (is_same k x) (place_of k xs) p (length xs) (λ q f. place_below k xs q f) (sym (place-cons k x xs (is_same k x) refl) ∙ e)

one_place_by : (k l x : List ℕ) (a b : Bool) (o r : Option ℕ) (p : ℕ) → is_same k x ≡ a → is_same l x ≡ b → ((q : ℕ) → o ≡ Some q → r ≡ Some q → k ≡ l)
    → cond a (Some 0) (one_more o) ≡ Some p → cond b (Some 0) (one_more r) ≡ Some p → k ≡ l
one_place_by k l x true true o r p f g same d e = (bytes_decides k x).0 f ∙ sym ((bytes_decides l x).0 g)
one_place_by k l x true false o None p f g same d e = absurd (cc)
one_place_by k l x true false o (Some q) p f g same d e = absurd (cc)
one_place_by k l x false true None r p f g same d e = absurd (cc)
one_place_by k l x false true (Some q) r p f g same d e = absurd (cc)
one_place_by k l x false false None r p f g same d e = absurd (cc)
one_place_by k l x false false (Some q) None p f g same d e = absurd (cc)
one_place_by k l x false false (Some q) (Some s) p f g same d e = let is : suc q ≡ suc s = cc in same q refl (cc)

pub one_place : (k l : List ℕ) (keys : List (List ℕ)) (p : ℕ) → place_of k keys ≡ Some p → place_of l keys ≡ Some p → k ≡ l
one_place k l [] p d e = absurd (cc)
one_place k l (x ∷ xs) p d e = one_place_by k l x (is_same k x) (is_same l x) (place_of k xs) (place_of l xs) p refl refl (λ q f g. one_place k l xs q f g)
    (sym (place-cons k x xs (is_same k x) refl) ∙ d) (sym (place-cons l x xs (is_same l x) refl) ∙ e)

-- A count that changes --------------------------------------------------------------------

set_at : (k key : List ℕ) (b : Bool) (o : Option ℕ) (counts : List ℕ) (p n : ℕ) → is_same k key ≡ b → p < length counts → (is_same k key ≡ true → o ≡ Some p) → (o ≡ Some p → k ≡ key)
    → count_at (set counts p n) o ≡ cond b n (count_at counts o)
set_at k key true o counts p n e low same back = ap (count_at (set counts p n)) (same e) ∙ get_or-set_same counts p n 0 low
set_at k key false None counts p n e low same back = refl
set_at k key false (Some q) counts p n e low same back = get_or-set_other counts p q n 0
    (λ is. let t : true ≡ false = sym ((bytes_decides k key).1 (back (ap Some is))) ∙ e in absurd (cc))

-- a count that is set is that of its key, and the others stay
pub count_set : (k key : List ℕ) (keys : List (List ℕ)) (counts : List ℕ) (p n : ℕ) → place_of key keys ≡ Some p → length counts ≡ length keys
    → count_of keys (set counts p n) k ≡ cond (is_same k key) n (count_of keys counts k)
count_set k key keys counts p n at long = set_at k key (is_same k key) (place_of k keys) counts p n refl
    (let low = place_below key keys p at in omega (arith, low, long))
    (λ e. ap (λ l. place_of l keys) ((bytes_decides k key).0 e) ∙ at)
    (λ e. one_place k key keys p e at)

count_there : (key : List ℕ) (keys : List (List ℕ)) (counts : List ℕ) (p : ℕ) → place_of key keys ≡ Some p → count_of keys counts key ≡ get_or counts p 0
count_there key keys counts p at = ap (count_at counts) at

plain : (n : ℕ) → n ≡ 0 + n
plain n = omega arith

same_default : (l : List ℕ) (p d e : ℕ) → p < length l → get_or l p d ≡ get_or l p e
same_default [] p d e low = absurd (omega arith)
same_default (x ∷ xs) zero d e low = refl
same_default (x ∷ xs) (suc p) d e low = same_default xs p d e (omega arith)

more_by : (k key : List ℕ) (keys : List (List ℕ)) (counts : List ℕ) (b : Bool) (m n : ℕ) → is_same k key ≡ b → count_of keys counts key ≡ m → n ≡ m + 1 → cond b n (count_of keys counts k) ≡ cond b 1 0 + count_of keys counts k
more_by k key keys counts true m n e f g = let same : count_of keys counts k ≡ m = ap (count_of keys counts) ((bytes_decides k key).0 e) ∙ f in omega (arith, same, g)
more_by k key keys counts false m n e f g = plain (count_of keys counts k)

pub count_more : (k key : List ℕ) (keys : List (List ℕ)) (counts : List ℕ) (p n d : ℕ) → place_of key keys ≡ Some p → length counts ≡ length keys → n ≡ get_or counts p d + 1
    → count_of keys (set counts p n) k ≡ cond (is_same k key) 1 0 + count_of keys counts k
count_more k key keys counts p n d at long is =
    let low = place_below key keys p at in
    let same = same_default counts p d 0 (omega (arith, low, long)) in
    count_set k key keys counts p n at long ∙ more_by k key keys counts (is_same k key) (get_or counts p 0) n refl (count_there key keys counts p at) (omega (arith, is, same))

less_by : (k key : List ℕ) (keys : List (List ℕ)) (counts : List ℕ) (b : Bool) (m n : ℕ) → is_same k key ≡ b → count_of keys counts key ≡ m → m ≡ n + 1 → count_of keys counts k ≡ cond b 1 0 + cond b n (count_of keys counts k)
less_by k key keys counts true m n e f g = let same : count_of keys counts k ≡ m = ap (count_of keys counts) ((bytes_decides k key).0 e) ∙ f in omega (arith, same, g)
less_by k key keys counts false m n e f g = plain (count_of keys counts k)

pub count_less : (k key : List ℕ) (keys : List (List ℕ)) (counts : List ℕ) (p n d : ℕ) → place_of key keys ≡ Some p → length counts ≡ length keys → n ≡ get_or counts p d - 1
    → 1 ≤ count_of keys counts key → count_of keys counts k ≡ cond (is_same k key) 1 0 + count_of keys (set counts p n) k
count_less k key keys counts p n d at long is some =
    let low = place_below key keys p at in
    let same = same_default counts p d 0 (omega (arith, low, long)) in
    let there = count_there key keys counts p at in
    less_by k key keys counts (is_same k key) (get_or counts p 0) n refl there (omega (arith, there, is, some, same)) ∙ sym (ap (λ c. cond (is_same k key) 1 0 + c) (count_set k key keys counts p n at long))

-- A new key -------------------------------------------------------------------------------

added_as : (key : List ℕ) (old new : List (List ℕ)) (b added : Bool) → has_name old key ≡ b → b ≡ false → added ≡ not b → new ≡ (if added then old ++ key ∷ [] else old) → new ≡ old ++ key ∷ []
added_as key old new true added e f g h = absurd (cc)
added_as key old new false added e f g h = h ∙ ap (λ a. if a then old ++ key ∷ [] else old) g

missing : (key : List ℕ) (keys : List (List ℕ)) → place_of key keys ≡ None → has_name keys key ≡ false
missing key keys none = sym (place-has key keys) ∙ ap is_some none

-- a key that has no place is put at the end
pub new_key : (key : List ℕ) (old new : List (List ℕ)) (added : Bool) → place_of key old ≡ None → added ≡ not (has_name old key) → new ≡ (if added then old ++ key ∷ [] else old) → new ≡ old ++ key ∷ []
new_key key old new added none e is = added_as key old new (has_name old key) added refl (missing key old none) e is

pub new_place : (key : List ℕ) (old new : List (List ℕ)) → place_of key old ≡ None → new ≡ old ++ key ∷ [] → place_of key new ≡ Some (length old)
new_place key old new none is =
    ap (place_of key) is ∙ place-added key key old (missing key old none)
    ∙ ap (λ b. cond b (Some (length old)) (place_of key old)) ((bytes_decides key key).1 refl)

zero_more : (l : List ℕ) (p : ℕ) → get_or (l ++ 0 ∷ []) p 0 ≡ get_or l p 0
zero_more [] zero = refl
zero_more [] (suc p) = refl
zero_more (x ∷ xs) zero = refl
zero_more (x ∷ xs) (suc p) = zero_more xs p

fresh_count : (k key : List ℕ) (b : Bool) (keys : List (List ℕ)) (counts : List ℕ) → is_same k key ≡ b → place_of key keys ≡ None → length counts ≡ length keys
    → count_at (counts ++ 0 ∷ []) (cond b (Some (length keys)) (place_of k keys)) ≡ count_of keys counts k
fresh_count k key true keys counts e none long =
    ap (λ n. get_or (counts ++ 0 ∷ []) n 0) (sym long) ∙ get_or-append_seam counts 0 [] 0
    ∙ sym (ap (count_at counts) (ap (λ l. place_of l keys) ((bytes_decides k key).0 e) ∙ none))
fresh_count k key false keys counts e none long = kept (place_of k keys)
  where
    kept : (o : Option ℕ) → count_at (counts ++ 0 ∷ []) o ≡ count_at counts o
    kept None = refl
    kept (Some p) = zero_more counts p

-- and is held as often as before
pub same_counts : (k key : List ℕ) (old new : List (List ℕ)) (counts now : List ℕ) → place_of key old ≡ None → new ≡ old ++ key ∷ [] → length counts ≡ length old → now ≡ counts ++ 0 ∷ []
    → count_of new now k ≡ count_of old counts k
same_counts k key old new counts now none is long is_now =
    ap (λ keys. count_of keys now k) is ∙ ap (λ l. count_of (old ++ key ∷ []) l k) is_now
    ∙ ap (count_at (counts ++ 0 ∷ [])) (place-added k key old (missing key old none))
    ∙ fresh_count k key (is_same k key) old counts refl none long

-- Bound keys ------------------------------------------------------------------------------

pub occurrences_more : (k x : List ℕ) (xs : List (List ℕ)) → occurrences k (xs ++ x ∷ []) ≡ cond (is_same k x) 1 0 + occurrences k xs
occurrences_more k x [] = refl
occurrences_more k x (y ∷ ys) = let more = occurrences_more k x ys in omega (arith, more)

occurs_by : (b : Bool) (n : ℕ) (rest : Bool) → nat_lt 0 n ≡ rest → nat_lt 0 (cond b 1 0 + n) ≡ (b || rest)
occurs_by true n rest e = grind (arith, nat_tests)
occurs_by false n rest e = sym (ap (nat_lt 0) (plain n)) ∙ e

pub occurs : (k : List ℕ) (xs : List (List ℕ)) → nat_lt 0 (occurrences k xs) ≡ has_name xs k
occurs k [] = refl
occurs k (x ∷ xs) = occurs_by (is_same k x) (occurrences k xs) (has_name xs k) (occurs k xs)

or_last : (a b c : Bool) → (a || (b || c)) ≡ ((a || b) || c)
or_last true b c = refl
or_last false b c = refl

or_swap : (a b : Bool) → (a || (b || false)) ≡ (b || a)
or_swap true true = refl
or_swap true false = refl
or_swap false true = refl
or_swap false false = refl

any_more : {X : Type 0} (p : X → Bool) (x : X) (xs : List X) → list_any p (xs ++ x ∷ []) ≡ (p x || list_any p xs)
any_more p x [] = refl
any_more p x (y ∷ ys) = ap (λ b. p y || b) (any_more p x ys) ∙ turned (p y) (p x) (list_any p ys)
  where
    turned : (a b c : Bool) → (a || (b || c)) ≡ (b || (a || c))
    turned true true c = refl
    turned true false c = refl
    turned false b c = refl

pub any_reverse : {X : Type 0} (p : X → Bool) (xs : List X) → list_any p (reverse xs) ≡ list_any p xs
any_reverse p [] = refl
any_reverse p (x ∷ xs) = ap (list_any p) (reverse-append (x ∷ []) xs) ∙ any_more p x (reverse xs) ∙ ap (λ b. p x || b) (any_reverse p xs)

tail_is : (a b : List ℕ) (xs ys : List (List ℕ)) → ◌≡◌ {A = List (List ℕ)} (a ∷ xs) (b ∷ ys) → (a ≡ b) × (xs ≡ ys)
tail_is a b xs ys e = (cc, cc)

pub keys_fewer : (ks : List (List ℕ)) (k : List ℕ) → AreKeys (ks ++ k ∷ []) → AreKeys ks
keys_fewer [] k are = refl
keys_fewer (x ∷ xs) k are =
    let parts = tail_is _ x _ (xs ++ k ∷ []) are in
    ap (λ y. y ∷ map (λ k. key_of (of_key k).0 (of_key k).1) xs) parts.0 ∙ ap (λ ys. x ∷ ys) (keys_fewer xs k parts.1)

cancelled : (a b c n : ℕ) → n ≡ a + b → n ≡ a + c → c ≡ b
cancelled a b c n e f = omega (arith, e, f)

-- the counts after the last key has gone
pub counted_fewer : (k key : List ℕ) (bound : List (List ℕ)) (old now : ℕ) → old ≡ occurrences k (bound ++ key ∷ []) → old ≡ cond (is_same k key) 1 0 + now → now ≡ occurrences k bound
counted_fewer k key bound old now e f = cancelled (cond (is_same k key) 1 0) (occurrences k bound) now old (e ∙ occurrences_more k key bound) f

some_last : (key : List ℕ) (bound : List (List ℕ)) → 1 ≤ occurrences key (bound ++ key ∷ [])
some_last key bound =
    let more = occurrences_more key key bound ∙ ap (λ b. cond b 1 0 + occurrences key bound) ((bytes_decides key key).1 refl) in
    omega (arith, more)

-- the last key is held
pub last_held : (key : List ℕ) (bound : List (List ℕ)) (n : ℕ) → n ≡ occurrences key (bound ++ key ∷ []) → 1 ≤ n
last_held key bound n e = let some = some_last key bound in omega (arith, some, e)

drop_more : {X : Type 0} (k : ℕ) (xs : List X) → drop 1 (drop k xs) ≡ drop (suc k) xs
drop_more k [] = ap (drop 1) (drop-nil k)
drop_more zero (x ∷ xs) = refl
drop_more (suc k) (x ∷ xs) = drop_more k xs

next_is : (k : ℕ) → suc k ≡ k + 1
next_is k = omega arith

pub drop_next : {X : Type 0} (k : ℕ) (xs : List X) → drop 1 (drop k xs) ≡ drop (k + 1) xs
drop_next k xs = drop_more k xs ∙ ap (λ n. drop n xs) (next_is k)
