-- A key is that of one name with one mark, so keys are looked up as these are.
use Rattle.std.proofs.Common.{◌≡◌, ℕ, suc, ◌-◌, ◌<◌, ◌^◌, ◌&&◌, ◌||◌, Bool, true, false, cond, nat_eq, List, [], ◌∷◌, ◌++◌, length, map, take, drop, refl, sym, ap, ◌∙◌, arith, one-add}
use Rattle.std.specs.Int.{w32, to_be_bytes, from_be_bytes}
use Rattle.std.specs.Cmp.{both_ways}
use Rattle.std.specs.Cmp.Lexicographic.{bytes_decides}
use Rattle.std.specs.List.{position_or_len}
use Rattle.std.proofs.lemmas.Bool.{and_parts}
use Rattle.std.proofs.lemmas.Bool.Decides.{nat_tests}
use Rattle.std.proofs.lemmas.List.{length-append, length-map, map-append}
use Rattle.std.proofs.lemmas.Nat.{from_be_bytes-to_be_bytes_4}
use Rattle.std.proofs.Math.Seq.{take-append_seam, drop-append_seam}
use Rattle.scheme_data.specs.Names.{is_same}
use Rattle.name_table.specs.Names.{place_of, has_name}
use Rattle.marked_names.specs.Keys.{key_of, of_key, AreKeys}
use Rattle.marked_names.specs.MarkedNames.{is_marked, has_marked, marked_place}

four : (m : ℕ) → length (to_be_bytes w32 m) ≡ 4
four m = refl

name_length : (x : List ℕ) (m : ℕ) → length (key_of x m) - 4 ≡ length x
name_length x m = let e = length-append x (to_be_bytes w32 m) in let f = four m in omega (arith, e, f)

pub of_key-key_of : (x : List ℕ) (m : ℕ) → m < 2 ^ 32 → of_key (key_of x m) ≡ (x, m)
of_key-key_of x m fits =
    ap (λ n. (take n (key_of x m), from_be_bytes w32 (drop n (key_of x m)))) (name_length x m)
    ∙ ap (λ k. (k, from_be_bytes w32 (drop (length x) (key_of x m)))) (take-append_seam x (to_be_bytes w32 m))
    ∙ ap (λ b. (x, from_be_bytes w32 b)) (drop-append_seam x (to_be_bytes w32 m))
    ∙ ap (λ n. (x, n)) (from_be_bytes-to_be_bytes_4 m fits)

eq_is : (m k : ℕ) → nat_eq m k ≡ true → m ≡ k
eq_is m k e = grind (arith, nat_tests)

is_eq : (m k : ℕ) → m ≡ k → nat_eq m k ≡ true
is_eq m k e = grind (arith, nat_tests)

both_true : (a b : Bool) → a ≡ true → b ≡ true → (a && b) ≡ true
both_true a b e f = ap (λ c. c && b) e ∙ f

-- a key is another where its name and its mark are
pub key_is : (x : List ℕ) (m : ℕ) (k : List ℕ) → m < 2 ^ 32 → key_of (of_key k).0 (of_key k).1 ≡ k → is_same (key_of x m) k ≡ is_marked x m (of_key k)
key_is x m k fits is = both_ways (is_same (key_of x m) k) (is_marked x m (of_key k))
    (λ same. let e = sym (ap of_key ((bytes_decides (key_of x m) k).0 same)) ∙ of_key-key_of x m fits in
    both_true (is_same (of_key k).0 x) (nat_eq (of_key k).1 m) ((bytes_decides (of_key k).0 x).1 (ap (λ p. p.0) e)) (is_eq (of_key k).1 m (ap (λ p. p.1) e)))
    (λ same. let parts = and_parts (is_same (of_key k).0 x) (nat_eq (of_key k).1 m) same in
    let e : key_of x m ≡ k = sym (ap (λ y. key_of y m) ((bytes_decides (of_key k).0 x).0 parts.0)) ∙ sym (ap (key_of (of_key k).0) (eq_is (of_key k).1 m parts.1)) ∙ is in
    (bytes_decides (key_of x m) k).1 e)

head_is : (a b : List ℕ) (xs ys : List (List ℕ)) → ◌≡◌ {A = List (List ℕ)} (a ∷ xs) (b ∷ ys) → (a ≡ b) × (xs ≡ ys)
head_is a b xs ys e = (cc, cc)

first_at : {X : Type 0} (p : X → Bool) (x : X) (xs : List X) (b : Bool) → p x ≡ b → position_or_len p (x ∷ xs) ≡ cond b 0 (suc (position_or_len p xs))
first_at p x xs true e = rw e refl
first_at p x xs false e = rw e (one-add (position_or_len p xs))

place_by : (x : List ℕ) (m : ℕ) → m < 2 ^ 32 → (ks : List (List ℕ)) → AreKeys ks → position_or_len (is_same (key_of x m)) ks ≡ position_or_len (is_marked x m) (map of_key ks)
place_by x m fits [] are = refl
place_by x m fits (k ∷ ks) are =
    let parts = head_is _ k _ ks are in
    first_at (is_same (key_of x m)) k ks (is_same (key_of x m) k) refl
    ∙ ap (λ b. cond b 0 (suc (position_or_len (is_same (key_of x m)) ks))) (key_is x m k fits parts.0)
    ∙ ap (λ n. cond (is_marked x m (of_key k)) 0 (suc n)) (place_by x m fits ks parts.1)
    ∙ sym (first_at (is_marked x m) (of_key k) (map of_key ks) (is_marked x m (of_key k)) refl)

pub key_place : (x : List ℕ) (m : ℕ) (ks : List (List ℕ)) → m < 2 ^ 32 → AreKeys ks → place_of (key_of x m) ks ≡ marked_place x m (map of_key ks)
key_place x m ks fits are =
    rw (place_by x m fits ks are, length-map ks of_key) refl

pub key_among : (x : List ℕ) (m : ℕ) (ks : List (List ℕ)) → m < 2 ^ 32 → AreKeys ks → has_name ks (key_of x m) ≡ has_marked (map of_key ks) x m
key_among x m [] fits are = refl
key_among x m (k ∷ ks) fits are =
    let parts = head_is _ k _ ks are in
    ap (λ b. b || has_name ks (key_of x m)) (key_is x m k fits parts.0)
    ∙ ap (λ b. is_marked x m (of_key k) || b) (key_among x m ks fits parts.1)

pub keys_more : (x : List ℕ) (m : ℕ) (ks : List (List ℕ)) → m < 2 ^ 32 → AreKeys ks → AreKeys (ks ++ key_of x m ∷ [])
keys_more x m ks fits are =
    map-append (λ k. key_of (of_key k).0 (of_key k).1) ks (key_of x m ∷ [])
    ∙ ap (λ ls. ls ++ key_of (of_key (key_of x m)).0 (of_key (key_of x m)).1 ∷ []) are
    ∙ ap (λ p. ks ++ key_of p.0 p.1 ∷ []) (of_key-key_of x m fits)

pub names_more : (x : List ℕ) (m : ℕ) (ks : List (List ℕ)) → m < 2 ^ 32 → map of_key (ks ++ key_of x m ∷ []) ≡ map of_key ks ++ (x, m) ∷ []
names_more x m ks fits = map-append of_key ks (key_of x m ∷ []) ∙ ap (λ p. map of_key ks ++ p ∷ []) (of_key-key_of x m fits)
