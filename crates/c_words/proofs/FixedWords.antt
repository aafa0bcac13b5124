-- Why the tables find what each word is that no program chooses.
use Rattle.std.proofs.Common.{◌≡◌, ℕ, List, [], ◌∷◌, ◌++◌, codes, drop, get_or, map, length, find, cond, ◌<◌, ◌+◌, Bool, true, false, Option, Some, None, nat_eq, refl, sym, ap, ◌∙◌, arith}
use Rattle.std.specs.Prelude.{◌&&◌}
use Rattle.std.specs.List.{list_all}
use Rattle.std.specs.Option.{is_some, option_map}
use Rattle.std.specs.Cmp.Lexicographic.{same_text}
use Rattle.std.proofs.lemmas.Bool.{and_parts}
use Rattle.std.proofs.lemmas.Bool.Decides.{nat_tests}
use Rattle.std.proofs.lemmas.List.{drop_more}
use Rattle.scheme_data.specs.Names.{is_same}
use Rattle.prim_table.specs.declared.primitives.Primitive.{Primitive}
use Rattle.prim_table.specs.Table.{name_of, primitives}
use Rattle.c_tree.specs.declared.op.Op.{Op}
use Rattle.c_tree.specs.declared.op.Op.TheVariants.{Primitive as Does}
use Rattle.c_tree.specs.Names.{mangled, unmangled, begins_with}
use Rattle.c_tree.specs.Operations.{op_text, op_named, operations}
use Rattle.c_tree.proofs.OpNames.{op_named-is, op_named-op_text, every_operation, is_mangled_so, all_mangled_so, mangled_so}
use Rattle.c_tree.proofs.Unmangled.{unmangled-is}
use Rattle.c_words.specs.declared.kind.WordKind.TheVariants.{Other}
use Rattle.c_words.specs.declared.fixed.ReservedWord.{ReservedWord}
use Rattle.c_words.specs.Kinds.{reserved, is_reserved, by_reserved, by_operation, fixed_kind}
use Rattle.c_words.specs.Search.{behind, is_not_after, precedes_all, are_in_order, with_rest}
use Rattle.c_words.specs.Fixed.{as_reserved, plain_name, plain_operations, starts_with, with_name, with_mangling}

-- Texts -------------------------------------------------------------------------------------

starts_is : (xs text : List ℕ) → starts_with xs text ≡ true → text ≡ xs ++ drop (length xs) text
starts_is [] text e = refl
starts_is (x ∷ xs) [] e = absurd (cc)
starts_is (x ∷ xs) (y ∷ ys) e =
    let parts = and_parts (nat_eq x y) (starts_with xs ys) e in
    let same : y ≡ x = is_equal x y parts.0 in
    ap (λ z. z ∷ ys) same ∙ ap (λ zs. x ∷ zs) (starts_is xs ys parts.1)
  where
    is_equal : (x y : ℕ) → nat_eq x y ≡ true → y ≡ x
    is_equal x y e = grind (arith, nat_tests)

-- a byte further in both
pub starts_on : (text left : List ℕ) (i : ℕ) → i < length text → begins_with (get_or text i 0) left ≡ true → starts_with (drop (i + 1) text) (drop 1 left) ≡ starts_with (drop i text) left
starts_on text [] i within e = absurd (cc)
starts_on text (y ∷ ys) i within e =
    sym (ap (λ t. starts_with t (y ∷ ys)) (drop_more text i 0 within) ∙ ap (λ b. b && starts_with (drop (i + 1) text) ys) e)

-- how the words of primitives begin
pub no_p : (left : List ℕ) → begins_with 112 left ≡ false → starts_with (codes "p_") left ≡ false
no_p [] e = refl
no_p (y ∷ ys) e = ap (λ b. b && starts_with (codes "_") ys) e

pub p_first : (left : List ℕ) → begins_with 112 left ≡ true → left ≡ 112 ∷ drop 1 left
p_first [] e = absurd (cc)
p_first (y ∷ ys) e = let same : y ≡ 112 = grind (arith, nat_tests) in ap (λ z. z ∷ ys) same

pub no_bar : (left : List ℕ) → begins_with 112 left ≡ true → begins_with 95 (drop 1 left) ≡ false → starts_with (codes "p_") left ≡ false
no_bar [] e h = absurd (cc)
no_bar (y ∷ []) e h = ap (λ b. b && false) e
no_bar (y ∷ z ∷ zs) e h = (λ i. e i && (h i && true))

pub p_bar : (left : List ℕ) → begins_with 112 left ≡ true → begins_with 95 (drop 1 left) ≡ true → left ≡ 112 ∷ 95 ∷ drop 1 (drop 1 left)
p_bar left e h = p_first left e ∙ ap (λ xs. 112 ∷ xs) (bar (drop 1 left) h)
  where
    bar : (xs : List ℕ) → begins_with 95 xs ≡ true → xs ≡ 95 ∷ drop 1 xs
    bar [] h = absurd (cc)
    bar (y ∷ ys) h = let same : y ≡ 95 = grind (arith, nat_tests) in ap (λ z. z ∷ ys) same

-- What is found -----------------------------------------------------------------------------

-- it passes the test, and has what all have
record Found {A : Type 0} (test has : A → Bool) (x : A) : Type 0 where
  passes : test x ≡ true
  like_all : has x ≡ true

found : {A : Type 0} (test has : A → Bool) (xs : List A) (x : A) → list_all has xs ≡ true → find test xs ≡ Some x → Found test has x
found test has [] x all e = absurd (cc)
found test has (y ∷ ys) x all e = go (test y) refl (found test has ys x parts.1) e
  where
    parts : (has y ≡ true) × (list_all has ys ≡ true)
    parts = and_parts (has y) (list_all has ys) all

    go : (b : Bool) → test y ≡ b → (find test ys ≡ Some x → Found test has x) → cond b (Some y) (find test ys) ≡ Some x → Found test has x
    go true same later is = let here : y ≡ x = cc in record { passes = sym (ap test here) ∙ same; like_all = sym (ap has here) ∙ parts.0 }
    go false same later is = later is

-- Operations --------------------------------------------------------------------------------

abbrev starts_bgl : Op → Bool
starts_bgl op = starts_with (codes "bgl_") (op_text op)

all_start_bgl : list_all starts_bgl operations ≡ true
all_start_bgl = refl

no_operation : (word : List ℕ) → starts_with (codes "bgl_") word ≡ false → None ≡ op_named word
no_operation word e = by (op_named word) refl
  where
    by : (o : Option Op) → op_named word ≡ o → None ≡ o
    by None q = refl
    by (Some op) q = let starts = ap (starts_with (codes "bgl_")) (op_named-is word op q) ∙ every_operation starts_bgl all_start_bgl op in absurd (cc)

-- a name in the table is the text of its operation
abbrev is_plain_text : Op → Bool
is_plain_text op = is_same (plain_name op) (op_text op) && starts_with (codes "bgl_") (plain_name op)

all_plain_texts : list_all is_plain_text plain_operations ≡ true
all_plain_texts = refl

-- an operation is found by what stands behind the first bytes of its text
abbrev is_reached : Op → Bool
is_reached op =
    cond (starts_with (codes "bgl_p_") (op_text op))
    (is_some (with_mangling name_of 0 (drop 6 (op_text op)) primitives))
    (is_some (with_rest plain_name 4 (drop 4 (op_text op)) plain_operations))

all_reached : list_all is_reached operations ≡ true
unfolding with_rest unmangled
all_reached = refl

reached : (word : List ℕ) (op : Op) → op_named word ≡ Some op
    → cond (starts_with (codes "bgl_p_") word) (is_some (with_mangling name_of 0 (drop 6 word) primitives)) (is_some (with_rest plain_name 4 (drop 4 word) plain_operations)) ≡ true
reached word op e =
    ap (λ text. cond (starts_with (codes "bgl_p_") text) (is_some (with_mangling name_of 0 (drop 6 text) primitives)) (is_some (with_rest plain_name 4 (drop 4 text) plain_operations))) (op_named-is word op e)
    ∙ every_operation is_reached all_reached op

-- what is found has the word as its text
named_again : (word : List ℕ) (op : Op) → word ≡ op_text op → Some op ≡ op_named word
named_again word op e = sym (op_named-op_text op) ∙ ap op_named (sym e)

plain_found : (rest : List ℕ) (op : Op) → with_rest plain_name 4 rest plain_operations ≡ Some op → Some op ≡ op_named (codes "bgl_" ++ rest)
unfolding with_rest
plain_found rest op e =
    let f = found (λ row. is_same rest (behind plain_name 4 row)) is_plain_text plain_operations op all_plain_texts e in
    let parts = and_parts (is_same (plain_name op) (op_text op)) (starts_with (codes "bgl_") (plain_name op)) f.like_all in
    named_again (codes "bgl_" ++ rest) op
    (ap (λ text. codes "bgl_" ++ text) (same_text rest (drop 4 (plain_name op)) (sym f.passes))
    ∙ sym (starts_is (codes "bgl_") (plain_name op) parts.1)
    ∙ same_text (plain_name op) (op_text op) (sym parts.0))

pub plain : (rest : List ℕ) → starts_with (codes "p_") rest ≡ false → with_rest plain_name 4 rest plain_operations ≡ op_named (codes "bgl_" ++ rest)
plain rest e = by (with_rest plain_name 4 rest plain_operations) refl (op_named (codes "bgl_" ++ rest)) refl
  where
    by : (o : Option Op) → with_rest plain_name 4 rest plain_operations ≡ o → (q : Option Op) → op_named (codes "bgl_" ++ rest) ≡ q → o ≡ q
    by (Some op) h q k = sym h ∙ h ∙ plain_found rest op h ∙ k
    by None h None k = refl
    by None h (Some op) k = absurd (none (starts_with (codes "p_") rest) e (with_rest plain_name 4 rest plain_operations) h (reached (codes "bgl_" ++ rest) op k))
      where
        none : (b : Bool) → b ≡ false → (o : Option Op) → o ≡ None → cond b (is_some (with_mangling name_of 0 (drop 2 rest) primitives)) (is_some o) ≡ true → ⊥
        none true e o h r = absurd (cc)
        none false e None h r = absurd (cc)
        none false e (Some op) h r = absurd (cc)

mangled_found : (rest : List ℕ) (p : Primitive) (name : Option (List ℕ)) → unmangled rest ≡ name → with_name name_of 0 name primitives ≡ Some p → Some (Does p) ≡ op_named (codes "bgl_p_" ++ rest)
unfolding with_rest
mangled_found rest p None e h = absurd (cc)
mangled_found rest p (Some name) e h =
    let f = found (λ row. is_same name (behind name_of 0 row)) is_mangled_so primitives p all_mangled_so h in
    named_again (codes "bgl_p_" ++ rest) (Does p)
    (ap (λ text. codes "bgl_p_" ++ text) (unmangled-is rest name e ∙ ap mangled (same_text name (name_of p) (sym f.passes)))
    ∙ sym (mangled_so p f.like_all).text)

pub by_mangling : (rest : List ℕ) → option_map Does (with_mangling name_of 0 rest primitives) ≡ op_named (codes "bgl_p_" ++ rest)
by_mangling rest = by (with_mangling name_of 0 rest primitives) refl (op_named (codes "bgl_p_" ++ rest)) refl
  where
    by : (o : Option Primitive) → with_mangling name_of 0 rest primitives ≡ o → (q : Option Op) → op_named (codes "bgl_p_" ++ rest) ≡ q → option_map Does o ≡ q
    by (Some p) h q k = mangled_found rest p (unmangled rest) refl h ∙ k
    by None h None k = refl
    by None h (Some op) k = absurd (none (with_mangling name_of 0 rest primitives) h (reached (codes "bgl_p_" ++ rest) op k))
      where
        none : (o : Option Primitive) → o ≡ None → is_some o ≡ true → ⊥
        none None h r = absurd (cc)
        none (Some p) h r = absurd (cc)

-- The kind of a word ------------------------------------------------------------------------

pub of_no_operation : (first : ℕ) (left : List ℕ) → nat_eq 98 first ≡ false → by_reserved (find (is_reserved (first ∷ left)) reserved) Other ≡ fixed_kind (first ∷ left)
unfolding fixed_kind
of_no_operation first left e = ap (λ o. by_reserved (find (is_reserved (first ∷ left)) reserved) (by_operation o)) (no_operation (first ∷ left) (ap (λ b. b && starts_with (codes "gl_") left) e))

of_operation : (left : List ℕ) → by_operation (op_named (98 ∷ left)) ≡ fixed_kind (98 ∷ left)
unfolding fixed_kind
of_operation left = refl

pub of_nothing : (left : List ℕ) → starts_with (codes "gl_") left ≡ false → Other ≡ fixed_kind (98 ∷ left)
of_nothing left e = ap by_operation (no_operation (98 ∷ left) e) ∙ of_operation left

pub of_rest : (left : List ℕ) → starts_with (codes "gl_") left ≡ true → by_operation (op_named (codes "bgl_" ++ drop 3 left)) ≡ fixed_kind (98 ∷ left)
of_rest left e = ap (λ text. by_operation (op_named (98 ∷ text))) (sym (starts_is (codes "gl_") left e)) ∙ of_operation left

-- Reserved words ----------------------------------------------------------------------------

abbrev pub word_of : ReservedWord → List ℕ
word_of r = r.word.now

map_precedes : (row : ReservedWord) (rows : List ReservedWord) → precedes_all (λ r. r.word) 0 (as_reserved row) (map as_reserved rows) ≡ precedes_all word_of 0 row rows
map_precedes row [] = refl
map_precedes row (r ∷ rows) = ap (λ b. is_not_after row.word.now r.word.now && b) (map_precedes row rows)

map_order : (rows : List ReservedWord) → are_in_order (λ r. r.word) 0 (map as_reserved rows) ≡ are_in_order word_of 0 rows
map_order [] = refl
map_order (r ∷ rows) = (λ i. map_precedes r rows i && map_order rows i)

reserved_order : are_in_order (λ r. r.word) 0 reserved ≡ true
reserved_order = refl

pub words_order : (rows : List ReservedWord) → map as_reserved rows ≡ reserved → are_in_order word_of 0 rows ≡ true
words_order rows e = sym (map_order rows) ∙ ap (are_in_order (λ r. r.word) 0) e ∙ reserved_order

map_find : (word : List ℕ) (rows : List ReservedWord) → find (is_reserved word) (map as_reserved rows) ≡ option_map as_reserved (find (λ r. is_same word (word_of r)) rows)
map_find word [] = refl
map_find word (r ∷ rows) = by (is_same word r.word.now) (map_find word rows)
  where
    by : (b : Bool) → find (is_reserved word) (map as_reserved rows) ≡ option_map as_reserved (find (λ r. is_same word (word_of r)) rows)
        → cond b (Some (as_reserved r)) (find (is_reserved word) (map as_reserved rows)) ≡ option_map as_reserved (cond b (Some r) (find (λ r. is_same word (word_of r)) rows))
    by true later = refl
    by false later = later

pub by_word : (word : List ℕ) (rows : List ReservedWord) (o : Option ReservedWord) → map as_reserved rows ≡ reserved → o ≡ with_rest word_of 0 word rows → by_reserved (option_map as_reserved o) Other ≡ by_reserved (find (is_reserved word) reserved) Other
unfolding with_rest
by_word word rows o e h = ap (λ p. by_reserved p Other) (ap (option_map as_reserved) h ∙ sym (map_find word rows) ∙ ap (find (is_reserved word)) e)

-- Orders ------------------------------------------------------------------------------------

pub plain_order : are_in_order plain_name 4 plain_operations ≡ true
plain_order = refl

pub primitives_order : are_in_order name_of 0 primitives ≡ true
primitives_order = refl
