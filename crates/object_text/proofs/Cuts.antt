-- A list is cut in one way behind a front, and behind the longest run of elements that pass a test.
use Rattle.std.proofs.Common.{◌≡◌, ℕ, ◌+◌, List, [], ◌∷◌, ◌++◌, length, take, drop, Bool, true, false, cond, IsTrue, ◌&&◌, refl, ap, sym, ◌∙◌, arith, one-add, subst, take-append-drop, None, nat_eq}
use Rattle.std.specs.List.{list_all, prefix_len}
use Rattle.std.specs.Cmp.Lexicographic.{pointwise}
use Rattle.std.proofs.lemmas.Bool.Decides.{Decides-eqb}
use Rattle.std.proofs.lemmas.Slice.Eq.{strip_prefix_is}
use Rattle.std.proofs.Math.Seq.{take-append_seam}
use Rattle.std.proofs.lemmas.List.{append_cancel_left}
use Rattle.scheme_data.specs.Symbols.{is_symbol_byte, has_symbol_form}
use Rattle.scheme_data.proofs.SymbolTests.{symbol_of_form, has_form}
use Rattle.object_text.specs.Header.{IsNamed, NotNamed, Stops}

both_true : (a b : Bool) → (a && b) ≡ true → (a ≡ true) × (b ≡ true)
both_true true b h = (refl, h)
both_true false b h = absurd (cc)

run_len : (p : ℕ → Bool) (n r : List ℕ) → IsTrue (list_all p n) → Stops p r → prefix_len p (n ++ r) ≡ length n
run_len p [] [] h s = refl
run_len p [] (b ∷ bs) h s = rw s refl
run_len p (b ∷ bs) r h s =
    let k = both_true (p b) (list_all p bs) h in
    rw k.0 (rw (run_len p bs r k.1 s) (one-add (length bs)))

run_at : (p : ℕ → Bool) (b : ℕ) (bs : List ℕ) (v : Bool) → p b ≡ v → IsTrue (list_all p (take (prefix_len p bs) bs)) → IsTrue (list_all p (take (cond v (1 + prefix_len p bs) 0) (b ∷ bs)))
run_at p b bs false e h = refl
run_at p b bs true e h = rw (one-add (prefix_len p bs)) (rw e h)

run_passes : (p : ℕ → Bool) (bs : List ℕ) → IsTrue (list_all p (take (prefix_len p bs) bs))
run_passes p [] = refl
run_passes p (b ∷ bs) = run_at p b bs (p b) refl (run_passes p bs)

stop_at : (p : ℕ → Bool) (b : ℕ) (bs : List ℕ) (v : Bool) → p b ≡ v → Stops p (drop (prefix_len p bs) bs) → Stops p (drop (cond v (1 + prefix_len p bs) 0) (b ∷ bs))
stop_at p b bs false e h = e
stop_at p b bs true e h = rw (one-add (prefix_len p bs)) h

run_stops : (p : ℕ → Bool) (bs : List ℕ) → Stops p (drop (prefix_len p bs) bs)
run_stops p [] = tt
run_stops p (b ∷ bs) = stop_at p b bs (p b) refl (run_stops p bs)

front_once : (n r m s : List ℕ) → n ++ r ≡ m ++ s → length n ≡ length m → n ≡ m
front_once [] r [] s e l = refl
front_once [] r (b ∷ bs) s e l = absurd (omega arith)
front_once (a ∷ xs) r [] s e l = absurd (omega arith)
front_once (a ∷ xs) r (b ∷ bs) s e l =
    let h : a ≡ b = cc in
    let t : xs ++ r ≡ bs ++ s = cc in
    let k : length xs ≡ length bs = omega arith in
    let q = front_once xs r bs s t k in
    cc

-- a name and what follows it, in two ways
pub record Same (n r m s : List ℕ) : Type 0 where
  pub name : n ≡ m
  pub rest : r ≡ s

-- the name after a front is the longest run of its bytes
pub name_len : (bytes front after n r : List ℕ) → bytes ≡ front ++ after → IsNamed bytes front n r → prefix_len is_symbol_byte after ≡ length n
name_len bytes front after n r e h =
    rw (append_cancel_left front after (n ++ r) (sym e ∙ h.are)) (run_len is_symbol_byte n r h.is_name.bytes h.stops)

pub named_once : (bytes front n r m s : List ℕ) → IsNamed bytes front n r → IsNamed bytes front m s → Same n r m s
named_once bytes front n r m s h k =
    let e : n ++ r ≡ m ++ s = append_cancel_left front (n ++ r) (m ++ s) (sym h.are ∙ k.are) in
    let l : length n ≡ length m = sym (run_len is_symbol_byte n r h.is_name.bytes h.stops) ∙ (ap (prefix_len is_symbol_byte) e ∙ run_len is_symbol_byte m s k.is_name.bytes k.stops) in
    let q : n ≡ m = front_once n r m s e l in
    record { name = q; rest = append_cancel_left m r s (subst (λ (x : List ℕ). x ++ r ≡ m ++ s) q e) }

-- the run of symbol bytes is the name, so where it is no symbol there is no name
pub no_symbol : (bytes front after run rest : List ℕ) → bytes ≡ front ++ after → run ≡ take (prefix_len is_symbol_byte after) after → has_symbol_form run ≡ false → NotNamed bytes front
no_symbol bytes front after run rest e f none n r h =
    let here : n ++ r ≡ after = append_cancel_left front (n ++ r) after (sym h.are ∙ e) in
    let l : prefix_len is_symbol_byte after ≡ length n = name_len bytes front after n r e h in
    let same : n ≡ run = sym (take-append_seam n r) ∙ ap (λ (i : ℕ). take i (n ++ r)) (sym l) ∙ ap (λ (x : List ℕ). take (prefix_len is_symbol_byte after) x) here ∙ sym f in
    let q : false ≡ true = sym none ∙ subst (λ (x : List ℕ). has_symbol_form x ≡ true) same (has_form n h.is_name) in
    absurd (cc)

pub no_front : (bytes front : List ℕ) → pointwise nat_eq (take (length front) bytes) front ≡ false → NotNamed bytes front
no_front bytes front h n r k = strip_prefix_is Decides-eqb bytes front None h (n ++ r) k.are

pub run_named : (bytes front after n r : List ℕ) → bytes ≡ front ++ after → n ≡ take (prefix_len is_symbol_byte after) after → r ≡ drop (prefix_len is_symbol_byte after) after → has_symbol_form n ≡ true → IsNamed bytes front n r
run_named bytes front after n r e f d form = record {
  are = e ∙ ap (λ (x : List ℕ). front ++ x) (sym (rw (f, d) (take-append-drop (prefix_len is_symbol_byte after) after)));
  is_name = symbol_of_form n form (subst (λ (x : List ℕ). IsTrue (list_all is_symbol_byte x)) (sym f) (run_passes is_symbol_byte after));
  stops = subst (λ (x : List ℕ). Stops is_symbol_byte x) (sym d) (run_stops is_symbol_byte after);
}
