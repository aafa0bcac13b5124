-- A walk goes on by one byte.
use Rattle.std.proofs.Common.{◌≡◌, ℕ, suc, ◌+◌, ◌≤◌, List, [], ◌∷◌, length, drop, take, cond, Bool, true, false, Some, None, refl, sym, ap, ◌∙◌, arith}
use Rattle.std.specs.List.{prefix_len, take_while}
use Rattle.std.specs.Option.{is_some}
use Rattle.std.proofs.lemmas.List.{length-drop, drop-drop}
use Rattle.std.proofs.lemmas.List.Folds.{length-prefix_len}
use Rattle.std.proofs.lemmas.List.Sums.{take_while-cons}
use Rattle.c_tree.specs.Lexical.{is_word_byte}
use Rattle.c_words.specs.Walks.{first}

-- the bytes of the word from a place on
abbrev word_at : List ℕ → ℕ → List ℕ
word_at text place = take_while is_word_byte (drop place text)

pub none_left : (bs : List ℕ) → None ≡ first bs → bs ≡ []
none_left [] e = refl
none_left (b ∷ bs) e = absurd (cc)

pub some_left : (bs : List ℕ) (b : ℕ) → Some b ≡ first bs → bs ≡ b ∷ drop 1 bs
some_left [] b e = absurd (cc)
some_left (c ∷ bs) b e = let same : c ≡ b = cc in ap (λ x. x ∷ bs) same

-- a byte of the word stands at the place
record Stands (text : List ℕ) (place : ℕ) : Type 0 where
  byte : ℕ
  rest : List ℕ
  here : drop place text ≡ byte ∷ rest
  more : drop (place + 1) text ≡ rest
  is : is_word_byte byte ≡ true

stands : (text : List ℕ) (place : ℕ) → is_some (first (word_at text place)) ≡ true → Stands text place
stands text place e = go (drop place text) refl e
  where
    behind : (xs : List ℕ) (k : ℕ) (c : ℕ) (cs : List ℕ) → drop k xs ≡ c ∷ cs → drop (k + 1) xs ≡ cs
    behind xs k c cs h = sym (drop-drop 1 k xs) ∙ ap (drop 1) h

    go : (bs : List ℕ) → drop place text ≡ bs → is_some (first (take_while is_word_byte bs)) ≡ true → Stands text place
    go [] h q = absurd (cc)
    go (c ∷ cs) h q = by (is_word_byte c) refl (ap (λ o. is_some (first o)) (sym (take_while-cons is_word_byte c cs)) ∙ q)
      where
        by : (t : Bool) → is_word_byte c ≡ t → is_some (first (cond t (c ∷ take_while is_word_byte cs) [])) ≡ true → Stands text place
        by true w q = record { byte = c; rest = cs; here = h; more = behind text place c cs h; is = w }
        by false w q = absurd (cc)

pub on_left : (text : List ℕ) (place : ℕ) → is_some (first (word_at text place)) ≡ true → word_at text (place + 1) ≡ drop 1 (word_at text place)
on_left text place e =
    let s = stands text place e in
    ap (take_while is_word_byte) s.more
    ∙ sym (ap (drop 1) (ap (take_while is_word_byte) s.here ∙ take_while-cons is_word_byte s.byte s.rest ∙ ap (λ t. cond t (s.byte ∷ take_while is_word_byte s.rest) []) s.is))

pub on_place : (text : List ℕ) (place : ℕ) → is_some (first (word_at text place)) ≡ true → place + prefix_len is_word_byte (drop place text) ≡ prefix_len is_word_byte text
    → place + 1 + prefix_len is_word_byte (drop (place + 1) text) ≡ prefix_len is_word_byte text
on_place text place e at =
    let s = stands text place e in
    let one : prefix_len is_word_byte (drop place text) ≡ 1 + prefix_len is_word_byte s.rest = ap (prefix_len is_word_byte) s.here ∙ ap (λ t. cond t (1 + prefix_len is_word_byte s.rest) 0) s.is in
    let same : prefix_len is_word_byte (drop (place + 1) text) ≡ prefix_len is_word_byte s.rest = ap (prefix_len is_word_byte) s.more in
    omega arith

pub on_within : (text : List ℕ) (place : ℕ) → is_some (first (word_at text place)) ≡ true → place + 1 ≤ length text
on_within text place e =
    let s = stands text place e in
    let long : length (drop place text) ≡ suc (length s.rest) = ap length s.here in
    omega (arith, length-drop place text)

-- a minus sign and the word behind it
pub signed_word : (text word : List ℕ) (n : ℕ) → text ≡ 45 ∷ drop 1 text → word ≡ take_while is_word_byte (drop 1 text) → n ≡ length word → take (1 + n) text ≡ 45 ∷ word
signed_word text word n front is long =
    let rest = drop 1 text in
    let e : 1 + n ≡ suc n = omega arith in
    let same : n ≡ prefix_len is_word_byte rest = long ∙ ap length is ∙ length-prefix_len is_word_byte rest in
    ap (take (1 + n)) front ∙ ap (λ k. take k (45 ∷ rest)) e ∙ ap (λ k. 45 ∷ take k rest) same ∙ ap (λ w. 45 ∷ w) (sym is)
