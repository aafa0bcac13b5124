-- Bytes cut where one byte stands first, and texts cut into lines.
use Rattle.std.proofs.Common.{◌≡◌, ◌≢◌, ℕ, suc, ◌+◌, ◌-◌, ◌<◌, List, [], ◌∷◌, ◌++◌, length, take, drop, Bool, true, false, cond, not, IsTrue, refl, ap, sym, ◌∙◌, subst, arith, one-add, add-one, nat_eq}
use Rattle.std.specs.List.{list_all, prefix_len, onto_first, join_with_byte}
use Rattle.std.proofs.lemmas.Bool.{and_parts}
use Rattle.std.proofs.lemmas.Bool.Decides.{Decides-eqb}
use Rattle.std.proofs.lemmas.List.{take_all, take_at, take_rest}
use Rattle.std.proofs.lemmas.List.Splits.{join_with_byte-slice_split}
use Rattle.iface_text.specs.Format.{ended}
use Rattle.iface_text.specs.Refusal.{is_line_end, lines_and_rest}
use Rattle.iface_text.specs.Lines.{other_than, Lacks, first_word}

-- One byte ----------------------------------------------------------------------------------

other_by : (c x : ℕ) (v : Bool) → nat_eq x c ≡ v → x ≢ c → other_than c x ≡ true
other_by c x false e apart = rw e refl
other_by c x true e apart = absurd (apart ((Decides-eqb x c).0 e))

same_by : (c x : ℕ) (v : Bool) → nat_eq x c ≡ v → other_than c x ≡ false → x ≡ c
same_by c x true e h = (Decides-eqb x c).0 e
same_by c x false e h = let q : true ≡ false = rw e at h in absurd (cc)

apart_by : (c x : ℕ) → other_than c x ≡ true → nat_eq x c ≡ false
apart_by c x h = not_true (nat_eq x c) h where
  not_true : (v : Bool) → not v ≡ true → v ≡ false
  not_true false e = refl
  not_true true e = absurd (cc)

apart_from : (c x : ℕ) → other_than c x ≡ true → x ≢ c
apart_from c x h e = let t : nat_eq x c ≡ true = (Decides-eqb x c).1 e in let f : nat_eq x c ≡ false = apart_by c x h in absurd (cc)

-- a byte that fails a test isn't among bytes that pass it
pub passes_other : (p : ℕ → Bool) (c : ℕ) → p c ≡ false → (xs : List ℕ) → IsTrue (list_all p xs) → Lacks c xs
passes_other p c fails [] h = refl
passes_other p c fails (x ∷ xs) h =
    let k = and_parts (p x) (list_all p xs) h in
    let e : x ≢ c = λ (q : x ≡ c). let y : p x ≡ true = k.0 in let z : p x ≡ false = ap p q ∙ fails in absurd (cc) in
    rw (other_by c x (nat_eq x c) refl e) (passes_other p c fails xs k.1)

pub lacks_append : (c : ℕ) (xs ys : List ℕ) → Lacks c xs → Lacks c ys → Lacks c (xs ++ ys)
lacks_append c [] ys h k = k
lacks_append c (x ∷ xs) ys h k =
    let p = and_parts (other_than c x) (list_all (other_than c) xs) h in
    rw p.0 (lacks_append c xs ys p.1 k)

-- What stands before it ---------------------------------------------------------------------

pub run_len : (c : ℕ) (xs rest : List ℕ) → Lacks c xs → prefix_len (other_than c) (xs ++ c ∷ rest) ≡ length xs
run_len c [] rest h = rw ((Decides-eqb c c).1 refl) refl
run_len c (x ∷ xs) rest h =
    let p = and_parts (other_than c x) (list_all (other_than c) xs) h in
    rw p.0 (rw (run_len c xs rest p.1) (one-add (length xs)))

pub first_word_is : (name rest : List ℕ) → Lacks 32 name → first_word (name ++ 32 ∷ rest) ≡ name
first_word_is name rest h = rw (run_len 32 name rest h) (take_at name (32 ∷ rest) (length name) refl)

run_at : (c x : ℕ) (xs : List ℕ) (v : Bool) → other_than c x ≡ v → Lacks c (take (prefix_len (other_than c) xs) xs) → Lacks c (take (cond v (1 + prefix_len (other_than c) xs) 0) (x ∷ xs))
run_at c x xs false e h = refl
run_at c x xs true e h = rw (one-add (prefix_len (other_than c) xs)) (rw e h)

pub run_lacks : (c : ℕ) (xs : List ℕ) → Lacks c (take (prefix_len (other_than c) xs) xs)
run_lacks c [] = refl
run_lacks c (x ∷ xs) = run_at c x xs (other_than c x) refl (run_lacks c xs)

stop_at : (c x : ℕ) (xs : List ℕ) (v : Bool) → other_than c x ≡ v
    → (prefix_len (other_than c) xs < length xs → xs ≡ take (prefix_len (other_than c) xs) xs ++ c ∷ drop (suc (prefix_len (other_than c) xs)) xs)
    → cond v (1 + prefix_len (other_than c) xs) 0 < suc (length xs)
    → x ∷ xs ≡ take (cond v (1 + prefix_len (other_than c) xs) 0) (x ∷ xs) ++ c ∷ drop (suc (cond v (1 + prefix_len (other_than c) xs) 0)) (x ∷ xs)
stop_at c x xs false e rest within = ap (λ (y : ℕ). y ∷ xs) (same_by c x (nat_eq x c) refl e)
stop_at c x xs true e rest within = rw (one-add (prefix_len (other_than c) xs)) (ap (λ (ys : List ℕ). x ∷ ys) (rest (omega arith)))

stops : (c : ℕ) (xs : List ℕ) → prefix_len (other_than c) xs < length xs → xs ≡ take (prefix_len (other_than c) xs) xs ++ c ∷ drop (suc (prefix_len (other_than c) xs)) xs
stops c [] within = absurd (omega arith)
stops c (x ∷ xs) within = stop_at c x xs (other_than c x) refl (stops c xs) within

-- the byte stands nowhere
pub nowhere : (c n : ℕ) (xs : List ℕ) → n ≡ prefix_len (other_than c) xs → n ≡ length xs → Lacks c xs
nowhere c n xs value all = subst (λ (ys : List ℕ). Lacks c ys) (take_all (prefix_len (other_than c) xs) xs (omega (arith, value, all))) (run_lacks c xs)

-- the byte stands at place n
pub cut_there : (c n : ℕ) (xs before after : List ℕ) → n ≡ prefix_len (other_than c) xs → n < length xs → before ≡ take n xs → after ≡ take (length xs - (n + 1)) (drop (n + 1) xs) → xs ≡ before ++ c ∷ after
cut_there c n xs before after value within b a =
    let within' : prefix_len (other_than c) xs < length xs = omega (arith, value) in
    let e : after ≡ drop (suc (prefix_len (other_than c) xs)) xs = a ∙ take_rest xs (n + 1) ∙ ap (λ (k : ℕ). drop k xs) (add-one n ∙ ap suc value) in
    stops c xs within' ∙ sym (rw (b, e) (ap (λ (k : ℕ). take k xs ++ c ∷ drop (suc (prefix_len (other_than c) xs)) xs) value))

pub lacks_before : (c n : ℕ) (xs before : List ℕ) → n ≡ prefix_len (other_than c) xs → before ≡ take n xs → Lacks c before
lacks_before c n xs before value b = subst (λ (ys : List ℕ). Lacks c ys) (sym (b ∙ ap (λ (k : ℕ). take k xs) value)) (run_lacks c xs)

pub record SameCut (xs us ys vs : List ℕ) : Type 0 where
  pub before : xs ≡ ys
  pub after : us ≡ vs

-- a list is cut in one way where the byte stands first
pub cut_once : (c : ℕ) (xs us ys vs : List ℕ) → Lacks c xs → Lacks c ys → xs ++ c ∷ us ≡ ys ++ c ∷ vs → SameCut xs us ys vs
cut_once c [] us [] vs h k e = record { before = refl; after = cc }
cut_once c [] us (y ∷ ys) vs h k e =
    let p = and_parts (other_than c y) (list_all (other_than c) ys) k in
    let q : y ≡ c = cc in absurd (apart_from c y p.0 q)
cut_once c (x ∷ xs) us [] vs h k e =
    let p = and_parts (other_than c x) (list_all (other_than c) xs) h in
    let q : x ≡ c = cc in absurd (apart_from c x p.0 q)
cut_once c (x ∷ xs) us (y ∷ ys) vs h k e =
    let p = and_parts (other_than c x) (list_all (other_than c) xs) h in
    let q = and_parts (other_than c y) (list_all (other_than c) ys) k in
    let t : xs ++ c ∷ us ≡ ys ++ c ∷ vs = cc in
    let i = cut_once c xs us ys vs p.1 q.1 t in
    let z : x ≡ y = cc in
    let w : xs ≡ ys = i.before in
    record { before = cc; after = i.after }

-- Lines -------------------------------------------------------------------------------------

pub split_line : (line rest : List ℕ) → Lacks 10 line → lines_and_rest (line ++ 10 ∷ rest) ≡ line ∷ lines_and_rest rest
split_line [] rest h = refl
split_line (b ∷ bs) rest h =
    let p = and_parts (other_than 10 b) (list_all (other_than 10) bs) h in
    rw (apart_by 10 b p.0) (rw (split_line bs rest p.1) refl)

pub split_rest : (rest : List ℕ) → Lacks 10 rest → lines_and_rest rest ≡ rest ∷ []
split_rest [] h = refl
split_rest (b ∷ bs) h =
    let p = and_parts (other_than 10 b) (list_all (other_than 10) bs) h in
    rw (apart_by 10 b p.0) (rw (split_rest bs p.1) refl)

abbrev pub AllLack : List (List ℕ) → Type 0
AllLack [] = Unit {0}
AllLack (l ∷ ls) = Lacks 10 l × AllLack ls

pub split_ended : (lines : List (List ℕ)) → AllLack lines → lines_and_rest (ended lines) ≡ lines ++ [] ∷ []
split_ended [] h = refl
split_ended (l ∷ ls) h = split_line l (ended ls) h.0 ∙ ap (λ (xs : List (List ℕ)). l ∷ xs) (split_ended ls h.1)

joined : (lines : List (List ℕ)) → join_with_byte 10 (lines ++ [] ∷ []) ≡ ended lines
joined [] = refl
joined (l ∷ []) = refl
joined (l ∷ (m ∷ ls)) = ap (λ (xs : List ℕ). l ++ (10 ∷ xs)) (joined (m ∷ ls))

pub ended_is : (bytes : List ℕ) (lines : List (List ℕ)) → lines_and_rest bytes ≡ lines ++ [] ∷ [] → bytes ≡ ended lines
ended_is bytes lines e = sym (join_with_byte-slice_split 10 bytes) ∙ ap (join_with_byte 10) e ∙ joined lines

onto_some : (x : ℕ) (xs : List (List ℕ)) → onto_first x xs ≢ []
onto_some x [] e = absurd (cc)
onto_some x (y ∷ ys) e = absurd (cc)

part_by : (x : ℕ) (xs : List (List ℕ)) (v : Bool) → cond v ([] ∷ xs) (onto_first x xs) ≢ []
part_by x xs true e = absurd (cc)
part_by x xs false e = onto_some x xs e

pub some_part : (bytes : List ℕ) → lines_and_rest bytes ≢ []
some_part [] e = absurd (cc)
some_part (b ∷ bs) e = part_by b (lines_and_rest bs) (is_line_end b) e
