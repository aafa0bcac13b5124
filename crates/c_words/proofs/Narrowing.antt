-- Rows in the order of their names that go on with a byte stand together, and are in order by what stands behind it.
use Rattle.std.proofs.Common.{◌≡◌, ℕ, zero, suc, ◌<◌, ◌≤◌, ◌+◌, ◌-◌, length, get_or, take, drop, List, [], ◌∷◌, Bool, true, false, Some, None, nat_eq, sym, ap, ◌∙◌, arith, find, refl, cond, subst}
use Rattle.std.specs.Prelude.{nat_lt, ◌&&◌, ◌||◌, slice_get}
use Rattle.std.specs.List.{list_all, filter}
use Rattle.std.specs.List.Sorted.{IsPartitionedBy, IsPartitionPoint}
use Rattle.std.proofs.lemmas.Bool.{and_parts}
use Rattle.std.proofs.lemmas.Bool.Decides.{nat_tests}
use Rattle.std.proofs.lemmas.List.{get_or-drop, drop-drop, drop_all}
use Rattle.std.proofs.lemmas.Option.{get_or_from_slice_get}
use Rattle.scheme_data.specs.Names.{is_same}
use Rattle.c_tree.specs.Names.{begins_with}
use Rattle.c_words.specs.Search.{is_not_after, begins_below, behind, precedes_all, are_in_order, that_go_on, with_rest}

-- Two texts ---------------------------------------------------------------------------------

below_first : (byte x y : ℕ) (same : Bool) → (nat_lt x y || (nat_eq x y && same)) ≡ true → nat_lt y byte ≡ true → nat_lt x byte ≡ true
below_first byte x y true e h = grind (arith, nat_tests)
below_first byte x y false e h = grind (arith, nat_tests)

below_before : (byte : ℕ) (xs ys : List ℕ) → is_not_after xs ys ≡ true → begins_below byte ys ≡ true → begins_below byte xs ≡ true
below_before byte [] ys e h = refl
below_before byte (x ∷ xs) [] e h = absurd (cc)
below_before byte (x ∷ xs) (y ∷ ys) e h = below_first byte x y (is_not_after xs ys) e h

same_first : (byte x y : ℕ) (same : Bool) → (nat_lt x y || (nat_eq x y && same)) ≡ true → nat_lt x byte ≡ false → nat_eq byte y ≡ true → nat_eq byte x ≡ true
same_first byte x y true e low h = grind (arith, nat_tests)
same_first byte x y false e low h = grind (arith, nat_tests)

same_before : (byte : ℕ) (xs ys : List ℕ) → is_not_after xs ys ≡ true → begins_below byte xs ≡ false → begins_with byte ys ≡ true → begins_with byte xs ≡ true
same_before byte [] ys e low h = absurd (cc)
same_before byte (x ∷ xs) [] e low h = absurd (cc)
same_before byte (x ∷ xs) (y ∷ ys) e low h = same_first byte x y (is_not_after xs ys) e low h

rest_first : (byte x y : ℕ) (same : Bool) → (nat_lt x y || (nat_eq x y && same)) ≡ true → nat_eq byte x ≡ true → nat_eq byte y ≡ true → same ≡ true
rest_first byte x y true e h k = refl
rest_first byte x y false e h k = absurd (grind (arith, nat_tests))

rest_before : (byte : ℕ) (xs ys : List ℕ) → is_not_after xs ys ≡ true → begins_with byte xs ≡ true → begins_with byte ys ≡ true → is_not_after (drop 1 xs) (drop 1 ys) ≡ true
rest_before byte [] ys e h k = absurd (cc)
rest_before byte (x ∷ xs) [] e h k = absurd (cc)
rest_before byte (x ∷ xs) (y ∷ ys) e h k = rest_first byte x y (is_not_after xs ys) e h k

-- Places ------------------------------------------------------------------------------------

filter_drop : {T : Type 0} (test : T → Bool) (xs : List T) (i : ℕ) → ((k : ℕ) (d : T) → k < i → test (get_or xs k d) ≡ false) → filter test (drop i xs) ≡ filter test xs
filter_drop test xs zero h = refl
filter_drop test [] (suc i) h = refl
filter_drop test (x ∷ xs) (suc i) h = filter_drop test xs i (λ k d low. h (suc k) d (omega arith)) ∙ sym (ap (λ b. cond b (x ∷ filter test xs) (filter test xs)) (h 0 x (omega arith)))

filter_none : {T : Type 0} (test : T → Bool) (xs : List T) → ((k : ℕ) (d : T) → k < length xs → test (get_or xs k d) ≡ false) → [] ≡ filter test xs
filter_none test [] h = refl
filter_none test (x ∷ xs) h = filter_none test xs (λ k d low. h (suc k) d (omega arith)) ∙ sym (ap (λ b. cond b (x ∷ filter test xs) (filter test xs)) (h 0 x (omega arith)))

filter_take : {T : Type 0} (test : T → Bool) (xs : List T) (i : ℕ) → IsPartitionPoint (λ x. test x ≡ true) (λ x. test x ≡ false) xs i → take i xs ≡ filter test xs
filter_take test xs zero point = filter_none test xs (λ k d low. point.1 k d (omega arith) low)
filter_take test [] (suc i) point = refl
filter_take test (x ∷ xs) (suc i) point =
    ap (λ ys. x ∷ ys) (filter_take test xs i ((λ k d low high. point.0 (suc k) d (omega arith) (omega arith)), (λ k d low high. point.1 (suc k) d (omega arith) (omega arith))))
    ∙ sym (ap (λ b. cond b (x ∷ filter test xs) (filter test xs)) (point.0 0 x (omega arith) (omega arith)))

filter_all : {T : Type 0} (test : T → Bool) (xs : List T) → ((k : ℕ) (d : T) → k < length xs → test (get_or xs k d) ≡ true) → xs ≡ filter test xs
filter_all test [] h = refl
filter_all test (x ∷ xs) h = ap (λ ys. x ∷ ys) (filter_all test xs (λ k d low. h (suc k) d (omega arith))) ∙ sym (ap (λ b. cond b (x ∷ filter test xs) (filter test xs)) (h 0 x (omega arith)))

first_none : {T : Type 0} (rows : List T) → None ≡ slice_get rows 0 → rows ≡ []
first_none [] e = refl
first_none (r ∷ rows) e = absurd (cc)

first_some : {T : Type 0} (rows : List T) (row : T) → Some row ≡ slice_get rows 0 → rows ≡ row ∷ drop 1 rows
first_some [] row e = absurd (cc)
first_some (r ∷ rows) row e = let same : row ≡ r = cc in ap (λ x. x ∷ rows) (sym same)

-- Rows --------------------------------------------------------------------------------------

module _ {T : Type 0} (spelled : T → List ℕ) where
  before_at : (depth : ℕ) (row : T) (rows : List T) → precedes_all spelled depth row rows ≡ true → (i : ℕ) (d : T) → i < length rows → is_not_after (behind spelled depth row) (behind spelled depth (get_or rows i d)) ≡ true
  before_at depth row [] all i d within = absurd (omega arith)
  before_at depth row (r ∷ rows) all zero d within = (and_parts (is_not_after (behind spelled depth row) (behind spelled depth r)) (precedes_all spelled depth row rows) all).0
  before_at depth row (r ∷ rows) all (suc i) d within = before_at depth row rows (and_parts (is_not_after (behind spelled depth row) (behind spelled depth r)) (precedes_all spelled depth row rows) all).1 i d (omega arith)

  parted : (depth : ℕ) (test : List ℕ → Bool) (is : T → Bool) → ((x y : T) → is x ≡ true → is_not_after (behind spelled depth x) (behind spelled depth y) ≡ true → test (behind spelled depth y) ≡ true → test (behind spelled depth x) ≡ true)
      → (rows : List T) → are_in_order spelled depth rows ≡ true → ((k : ℕ) (d : T) → k < length rows → is (get_or rows k d) ≡ true) → IsPartitionedBy (λ r. test (behind spelled depth r)) rows
  parted depth test is carry [] order all i j d low high h = absurd (omega arith)
  parted depth test is carry (r ∷ rows) order all zero zero d low high h = h
  parted depth test is carry (r ∷ rows) order all zero (suc j) d low high h =
      carry r (get_or rows j d) (all 0 d (omega arith)) (before_at depth r rows (and_parts (precedes_all spelled depth r rows) (are_in_order spelled depth rows) order).0 j d (omega arith)) h
  parted depth test is carry (r ∷ rows) order all (suc i) zero d low high h = absurd (omega arith)
  parted depth test is carry (r ∷ rows) order all (suc i) (suc j) d low high h =
      parted depth test is carry rows (and_parts (precedes_all spelled depth r rows) (are_in_order spelled depth rows) order).1 (λ k d within. all (suc k) d (omega arith)) i j d (omega arith) (omega arith) h

  in_order_drop : (depth : ℕ) (rows : List T) (i : ℕ) → are_in_order spelled depth rows ≡ true → are_in_order spelled depth (drop i rows) ≡ true
  in_order_drop depth rows zero order = order
  in_order_drop depth [] (suc i) order = refl
  in_order_drop depth (r ∷ rows) (suc i) order = in_order_drop depth rows i (and_parts (precedes_all spelled depth r rows) (are_in_order spelled depth rows) order).1

  pub below_parted : (depth byte : ℕ) (rows : List T) → are_in_order spelled depth rows ≡ true → IsPartitionedBy (λ r. begins_below byte (behind spelled depth r)) rows
  below_parted depth byte rows order = parted depth (begins_below byte) (λ _. true) (λ x y _ e h. below_before byte (behind spelled depth x) (behind spelled depth y) e h) rows order (λ _ _ _. refl)

  -- behind those with a lower byte
  abbrev pub IsStart : ℕ → ℕ → List T → ℕ → Type 0
  IsStart depth byte rows start = IsPartitionPoint (λ r. begins_below byte (behind spelled depth r) ≡ true) (λ r. begins_below byte (behind spelled depth r) ≡ false) rows start

  not_of_true : (b : Bool) → b ≡ false → cond b false true ≡ true
  not_of_true true e = absurd (cc)
  not_of_true false e = refl

  false_of_not : (b : Bool) → cond b false true ≡ true → b ≡ false
  false_of_not true e = absurd (cc)
  false_of_not false e = refl

  within_drop : (rows : List T) (i k : ℕ) → k < length (drop i rows) → i + k < length rows
  within_drop rows zero k h = omega arith
  within_drop [] (suc i) k h = absurd (omega arith)
  within_drop (r ∷ rows) (suc i) k h = let within = within_drop rows i k h in omega arith

  pub same_parted : (depth byte : ℕ) (rows rest : List T) (start : ℕ) → rest ≡ drop start rows → are_in_order spelled depth rows ≡ true → IsStart depth byte rows start → IsPartitionedBy (λ r. begins_with byte (behind spelled depth r)) rest
  same_parted depth byte rows rest start is order point =
      subst (IsPartitionedBy (λ r. begins_with byte (behind spelled depth r))) (sym is)
      (parted depth (begins_with byte) (λ r. cond (begins_below byte (behind spelled depth r)) false true)
      (λ x y low e h. same_before byte (behind spelled depth x) (behind spelled depth y) e (false_of_not (begins_below byte (behind spelled depth x)) low) h)
      (drop start rows) (in_order_drop depth rows start order)
      (λ k d within. not_of_true (begins_below byte (behind spelled depth (get_or (drop start rows) k d)))
      (ap (λ r. begins_below byte (behind spelled depth r)) (get_or-drop start rows k d) ∙ point.1 (start + k) d (omega arith) (within_drop rows start k within))))

  low_apart : (byte : ℕ) (xs : List ℕ) → begins_below byte xs ≡ true → begins_with byte xs ≡ false
  low_apart byte [] e = refl
  low_apart byte (x ∷ xs) e = grind (arith, nat_tests)

  pub cut_out : (depth byte : ℕ) (rows rest : List T) (start end : ℕ) → rest ≡ drop start rows → IsStart depth byte rows start
      → IsPartitionPoint (λ r. begins_with byte (behind spelled depth r) ≡ true) (λ r. begins_with byte (behind spelled depth r) ≡ false) rest end
      → take end rest ≡ that_go_on spelled depth byte rows
  cut_out depth byte rows rest start end is low same =
      filter_take (λ r. begins_with byte (behind spelled depth r)) rest end same
      ∙ ap (filter (λ r. begins_with byte (behind spelled depth r))) is
      ∙ filter_drop (λ r. begins_with byte (behind spelled depth r)) rows start (λ k d within. low_apart byte (behind spelled depth (get_or rows k d)) (low.0 k d (omega arith) within))

  -- where the first and the last go on with a byte, all do
  all_alike : (depth byte : ℕ) (rows : List T) (first last : T) → are_in_order spelled depth rows ≡ true → Some first ≡ slice_get rows 0 → Some last ≡ slice_get rows (length rows - 1)
      → begins_with byte (behind spelled depth first) ≡ true → begins_with byte (behind spelled depth last) ≡ true → rows ≡ that_go_on spelled depth byte rows
  all_alike depth byte rows first last order at_first at_last is_first is_last = filter_all (λ r. begins_with byte (behind spelled depth r)) rows
      (λ k d within. same_parted depth byte rows rows 0 refl order ((λ i d low high. absurd (omega arith)), (λ i d low high. not_below i d high)) k (length rows - 1) d (omega arith) (omega arith)
      (ap (λ r. begins_with byte (behind spelled depth r)) (get_or_from_slice_get rows (length rows - 1) last d (sym at_last)) ∙ is_last))
    where
      higher : (xs : List ℕ) → begins_with byte xs ≡ true → begins_below byte xs ≡ false
      higher [] e = absurd (cc)
      higher (x ∷ xs) e = grind (arith, nat_tests)

      apart : (b c : Bool) → (b ≡ true → c ≡ true) → c ≡ false → b ≡ false
      apart true c h e = absurd (let t = h refl in cc)
      apart false c h e = refl

      not_below : (i : ℕ) (d : T) → i < length rows → begins_below byte (behind spelled depth (get_or rows i d)) ≡ false
      not_below i d within =
          apart (begins_below byte (behind spelled depth (get_or rows i d))) (begins_below byte (behind spelled depth (get_or rows 0 d)))
          (λ h. below_parted depth byte rows order 0 i d (omega arith) within h)
          (ap (λ r. begins_below byte (behind spelled depth r)) (get_or_from_slice_get rows 0 first d (sym at_first)) ∙ higher (behind spelled depth first) is_first)

  -- the same by what the code reads of both names
  pub all_told : (depth byte : ℕ) (rows : List T) (first last : T) (first_name last_name : List ℕ) (is_first is_last : Bool) → are_in_order spelled depth rows ≡ true → Some first ≡ slice_get rows 0 → Some last ≡ slice_get rows (length rows - 1)
      → first_name ≡ spelled first → last_name ≡ spelled last → is_first ≡ begins_with byte (drop depth first_name) → is_last ≡ begins_with byte (drop depth last_name) → is_first ≡ true → is_last ≡ true → rows ≡ that_go_on spelled depth byte rows
  all_told depth byte rows first last first_name last_name is_first is_last order at_first at_last e f g h p q =
      all_alike depth byte rows first last order at_first at_last (ap (λ n. begins_with byte (drop depth n)) (sym e) ∙ sym g ∙ p) (ap (λ n. begins_with byte (drop depth n)) (sym f) ∙ sym h ∙ q)

  -- One byte on -----------------------------------------------------------------------------

  deeper : (depth : ℕ) (row : T) → drop 1 (behind spelled depth row) ≡ behind spelled (1 + depth) row
  deeper depth row = drop-drop 1 depth (spelled row) ∙ ap (λ n. drop n (spelled row)) (omega arith)

  pub same_rest : (depth byte : ℕ) (rest : List ℕ) (rows : List T) → with_rest spelled (1 + depth) rest (that_go_on spelled depth byte rows) ≡ with_rest spelled depth (byte ∷ rest) rows
  unfolding with_rest
  same_rest depth byte rest [] = refl
  same_rest depth byte rest (r ∷ rows) = by (behind spelled depth r) refl (same_rest depth byte rest rows)
    where
      by : (xs : List ℕ) → behind spelled depth r ≡ xs
          → find (λ row. is_same rest (behind spelled (1 + depth) row)) (that_go_on spelled depth byte rows) ≡ find (λ row. is_same (byte ∷ rest) (behind spelled depth row)) rows
          → find (λ row. is_same rest (behind spelled (1 + depth) row)) (cond (begins_with byte (behind spelled depth r)) (r ∷ that_go_on spelled depth byte rows) (that_go_on spelled depth byte rows))
          ≡ cond (is_same (byte ∷ rest) (behind spelled depth r)) (Some r) (find (λ row. is_same (byte ∷ rest) (behind spelled depth row)) rows)
      by [] e later = rw e later
      by (x ∷ xs) e later = on (nat_eq byte x) refl
        where
          tail : behind spelled (1 + depth) r ≡ xs
          tail = sym (deeper depth r) ∙ ap (drop 1) e

          on : (b : Bool) → nat_eq byte x ≡ b
              → find (λ row. is_same rest (behind spelled (1 + depth) row)) (cond (begins_with byte (behind spelled depth r)) (r ∷ that_go_on spelled depth byte rows) (that_go_on spelled depth byte rows))
              ≡ cond (is_same (byte ∷ rest) (behind spelled depth r)) (Some r) (find (λ row. is_same (byte ∷ rest) (behind spelled depth row)) rows)
          on true q = rw (e, q, tail) (ap (λ o. cond (is_same rest xs) (Some r) o) later)
          on false q = rw (e, q) later

  precedes_deeper : (depth byte : ℕ) (row : T) → begins_with byte (behind spelled depth row) ≡ true → (rows : List T) → precedes_all spelled depth row rows ≡ true → precedes_all spelled (1 + depth) row (that_go_on spelled depth byte rows) ≡ true
  precedes_deeper depth byte row goes [] all = refl
  precedes_deeper depth byte row goes (r ∷ rows) all = by (begins_with byte (behind spelled depth r)) refl (precedes_deeper depth byte row goes rows parts.1)
    where
      parts : (is_not_after (behind spelled depth row) (behind spelled depth r) ≡ true) × (precedes_all spelled depth row rows ≡ true)
      parts = and_parts (is_not_after (behind spelled depth row) (behind spelled depth r)) (precedes_all spelled depth row rows) all

      by : (b : Bool) → begins_with byte (behind spelled depth r) ≡ b → precedes_all spelled (1 + depth) row (that_go_on spelled depth byte rows) ≡ true
          → precedes_all spelled (1 + depth) row (cond b (r ∷ that_go_on spelled depth byte rows) (that_go_on spelled depth byte rows)) ≡ true
      by false e later = later
      by true e later =
          let first : is_not_after (behind spelled (1 + depth) row) (behind spelled (1 + depth) r) ≡ true = rw (sym (deeper depth row), sym (deeper depth r)) (rest_before byte (behind spelled depth row) (behind spelled depth r) parts.0 goes e) in
          rw first later

  pub order_on : (depth byte : ℕ) (rows : List T) → are_in_order spelled depth rows ≡ true → are_in_order spelled (1 + depth) (that_go_on spelled depth byte rows) ≡ true
  order_on depth byte [] order = refl
  order_on depth byte (r ∷ rows) order = by (begins_with byte (behind spelled depth r)) refl (order_on depth byte rows parts.1)
    where
      parts : (precedes_all spelled depth r rows ≡ true) × (are_in_order spelled depth rows ≡ true)
      parts = and_parts (precedes_all spelled depth r rows) (are_in_order spelled depth rows) order

      by : (b : Bool) → begins_with byte (behind spelled depth r) ≡ b → are_in_order spelled (1 + depth) (that_go_on spelled depth byte rows) ≡ true
          → are_in_order spelled (1 + depth) (cond b (r ∷ that_go_on spelled depth byte rows) (that_go_on spelled depth byte rows)) ≡ true
      by false e later = later
      by true e later = rw (precedes_deeper depth byte r e rows parts.0) later

  -- What a search has after a byte ------------------------------------------------------------

  pub record Narrowed (old_depth : ℕ) (old_rows : List T) (byte depth : ℕ) (rows : List T) : Type 0 where
    pub order : are_in_order spelled depth rows ≡ true
    pub rest : (rest : List ℕ) → with_rest spelled depth rest rows ≡ with_rest spelled old_depth (byte ∷ rest) old_rows

  pub none_left : (depth byte : ℕ) (old rows : List T) → rows ≡ that_go_on spelled depth byte old → None ≡ slice_get rows 0 → Narrowed depth old byte depth rows
  unfolding with_rest
  none_left depth byte old rows is e =
      let none = first_none rows e in
      record {
        order = ap (are_in_order spelled depth) none;
        rest = λ rest. ap (find (λ row. is_same rest (behind spelled depth row))) none ∙ ap (find (λ row. is_same rest (behind spelled (1 + depth) row))) (sym none ∙ is) ∙ same_rest depth byte rest old;
      }

  pub one_on : (depth byte deep : ℕ) (old rows : List T) → deep ≡ 1 + depth → are_in_order spelled depth old ≡ true → rows ≡ that_go_on spelled depth byte old → Narrowed depth old byte deep rows
  one_on depth byte deep old rows more order is = subst (λ d. Narrowed depth old byte d rows) (sym more)
      (record { order = ap (are_in_order spelled (1 + depth)) is ∙ order_on depth byte old order; rest = λ rest. ap (with_rest spelled (1 + depth) rest) is ∙ same_rest depth byte rest old })

  longer : (depth byte : ℕ) (old : List T) (row : T) (rows : List T) → row ∷ rows ≡ that_go_on spelled depth byte old → begins_with byte (behind spelled depth row) ≡ true
  longer depth byte [] row rows is = absurd (cc)
  longer depth byte (r ∷ old) row rows is = by (begins_with byte (behind spelled depth r)) refl (longer depth byte old row rows) is
    where
      by : (b : Bool) → begins_with byte (behind spelled depth r) ≡ b → (row ∷ rows ≡ that_go_on spelled depth byte old → begins_with byte (behind spelled depth row) ≡ true)
          → row ∷ rows ≡ cond b (r ∷ that_go_on spelled depth byte old) (that_go_on spelled depth byte old) → begins_with byte (behind spelled depth row) ≡ true
      by true e later is = let same : row ≡ r = cc in ap (λ x. begins_with byte (behind spelled depth x)) same ∙ e
      by false e later is = later is

  pub is_longer : (depth byte : ℕ) (old rows : List T) (row : T) → rows ≡ that_go_on spelled depth byte old → Some row ≡ slice_get rows 0 → depth < length (spelled row)
  is_longer depth byte old rows row is first = long byte depth (spelled row) (longer depth byte old row (drop 1 rows) (sym (first_some rows row first) ∙ is))
    where
      long : (byte : ℕ) (depth : ℕ) (name : List ℕ) → begins_with byte (drop depth name) ≡ true → depth < length name
      long byte zero [] e = absurd (cc)
      long byte zero (x ∷ xs) e = omega arith
      long byte (suc depth) [] e = absurd (cc)
      long byte (suc depth) (x ∷ xs) e = let more = long byte depth xs e in omega arith

  -- The name that ends first ------------------------------------------------------------------

  ended_first : (depth : ℕ) (row : T) (rows : List T) → length (spelled row) ≤ depth → Some row ≡ find (λ r. is_same [] (behind spelled depth r)) (row ∷ rows)
  ended_first depth row rows short = sym (ap (λ xs. cond (is_same [] xs) (Some row) (find (λ r. is_same [] (behind spelled depth r)) rows)) (drop_all depth (spelled row) short))

  none_ends : (depth : ℕ) (x : ℕ) (xs : List ℕ) (rows : List T) → list_all (λ other. is_not_after (x ∷ xs) (behind spelled depth other)) rows ≡ true → None ≡ find (λ r. is_same [] (behind spelled depth r)) rows
  none_ends depth x xs [] all = refl
  none_ends depth x xs (r ∷ rows) all = by (behind spelled depth r) parts.0 (none_ends depth x xs rows parts.1)
    where
      parts : (is_not_after (x ∷ xs) (behind spelled depth r) ≡ true) × (list_all (λ other. is_not_after (x ∷ xs) (behind spelled depth other)) rows ≡ true)
      parts = and_parts (is_not_after (x ∷ xs) (behind spelled depth r)) (list_all (λ other. is_not_after (x ∷ xs) (behind spelled depth other)) rows) all

      by : (ys : List ℕ) → is_not_after (x ∷ xs) ys ≡ true → None ≡ find (λ r. is_same [] (behind spelled depth r)) rows → None ≡ cond (is_same [] ys) (Some r) (find (λ r. is_same [] (behind spelled depth r)) rows)
      by [] e later = absurd (cc)
      by (y ∷ ys) e later = later

  none_first : (depth : ℕ) (row : T) (rows : List T) → depth < length (spelled row) → precedes_all spelled depth row rows ≡ true → None ≡ find (λ r. is_same [] (behind spelled depth r)) (row ∷ rows)
  none_first depth row rows long all = by (behind spelled depth row) (nonempty depth (spelled row) long) all
    where
      nonempty : (depth : ℕ) (name : List ℕ) → depth < length name → is_same [] (drop depth name) ≡ false
      nonempty zero [] h = absurd (omega arith)
      nonempty zero (y ∷ ys) h = refl
      nonempty (suc depth) [] h = absurd (omega arith)
      nonempty (suc depth) (y ∷ ys) h = nonempty depth ys (omega arith)

      by : (ys : List ℕ) → is_same [] ys ≡ false → list_all (λ other. is_not_after ys (behind spelled depth other)) rows ≡ true → None ≡ cond (is_same [] ys) (Some row) (find (λ r. is_same [] (behind spelled depth r)) rows)
      by [] e all = absurd (cc)
      by (y ∷ ys) e all = none_ends depth y ys rows all

  pub found_first : (depth : ℕ) (rows : List T) (row : T) → Some row ≡ slice_get rows 0 → length (spelled row) ≤ depth → Some row ≡ with_rest spelled depth [] rows
  unfolding with_rest
  found_first depth rows row is short = ended_first depth row (drop 1 rows) short ∙ ap (find (λ r. is_same [] (behind spelled depth r))) (sym (first_some rows row is))

  pub found_none : (depth : ℕ) (rows : List T) (row : T) → are_in_order spelled depth rows ≡ true → Some row ≡ slice_get rows 0 → depth < length (spelled row) → None ≡ with_rest spelled depth [] rows
  unfolding with_rest
  found_none depth rows row order is long =
      let first = first_some rows row is in
      none_first depth row (drop 1 rows) long (and_parts (precedes_all spelled depth row (drop 1 rows)) (are_in_order spelled depth (drop 1 rows)) (ap (are_in_order spelled depth) (sym first) ∙ order)).0
      ∙ ap (find (λ r. is_same [] (behind spelled depth r))) (sym first)

  pub found_nothing : (depth : ℕ) (rows : List T) → None ≡ slice_get rows 0 → None ≡ with_rest spelled depth [] rows
  unfolding with_rest
  found_nothing depth rows none = ap (find (λ r. is_same [] (behind spelled depth r))) (sym (first_none rows none))
