-- Reading digits: the number so far stays at a cap.
use Rattle.std.proofs.Common.{◌≡◌, ℕ, ◌+◌, ◌-◌, ◌*◌, ◌<◌, ◌≤◌, min, true, false, ◌&&◌, List, [], ◌∷◌, length, drop, get_or, Some, None, refl, sym, ap, ◌∙◌, arith}
use Rattle.std.proofs.lemmas.List.{drop_more, drop_all}
use Rattle.std.specs.List.{list_all}
use Rattle.scheme_data.specs.Decimal.{is_digit, digits_value}
use Rattle.scheme_tokens.specs.Words.{are_digits}
use Rattle.scheme_tokens.specs.Digits.{capped_digits}

abbrev cap : ℕ
cap = 1152921504606846977

-- in a text of digits up to i, the number so far
pub record IsSoFar (text : List ℕ) (i n : ℕ) : Type 0 where
  pub some : 0 < length text
  pub low : n ≤ 1152921504606846977
  pub digits : list_all is_digit (drop i text) ≡ list_all is_digit text
  pub value : min (digits_value n (drop i text)) 1152921504606846977 ≡ min (digits_value 0 text) 1152921504606846977

same_capped : (c n m : ℕ) (ds : List ℕ) → min n c ≡ min m c → min (digits_value n ds) c ≡ min (digits_value m ds) c
same_capped c n m [] e = e
same_capped c n m (d ∷ ds) e = same_capped c (10 * n + (d - 48)) (10 * m + (d - 48)) ds (omega arith)

pub so_far_start : (text : List ℕ) → 0 < length text → IsSoFar text 0 0
so_far_start text h = record { some = h; low = omega arith; digits = refl; value = refl }

pub so_far_more : (text : List ℕ) (i n m : ℕ) → i < length text → is_digit (get_or text i 0) ≡ true
    → m ≡ min (10 * n + (get_or text i 0 - 48)) 1152921504606846977 → IsSoFar text i n → IsSoFar text (i + 1) m
so_far_more text i n m h d e s =
    let b : ℕ = get_or text i 0 in
    let left : drop i text ≡ b ∷ drop (i + 1) text = drop_more text i 0 h in
    record {
      some = s.some;
      low = omega arith;
      digits = sym (ap (list_all is_digit) left ∙ ap (λ t. t && list_all is_digit (drop (i + 1) text)) d) ∙ s.digits;
      value = same_capped cap m (10 * n + (b - 48)) (drop (i + 1) text) (capped cap _ m e) ∙ sym (ap (λ ds. min (digits_value n ds) cap) left) ∙ s.value;
    }
  where
    capped : (c x m : ℕ) → m ≡ min x c → min m c ≡ min x c
    capped c x m e = omega arith

are_all : (text : List ℕ) → 0 < length text → are_digits text ≡ list_all is_digit text
are_all [] h = absurd (omega arith)
are_all (d ∷ ds) h = refl

pub so_far_end : (text : List ℕ) (i n : ℕ) → length text ≤ i → IsSoFar text i n → Some n ≡ capped_digits text
so_far_end text i n h s =
    let none_left : drop i text ≡ [] = drop_all i text h in
    let all : are_digits text ≡ true = are_all text s.some ∙ sym s.digits ∙ ap (list_all is_digit) none_left in
    let value : min n cap ≡ min (digits_value 0 text) cap = sym (ap (λ ds. min (digits_value n ds) cap) none_left) ∙ s.value in
    let low : n ≡ min n cap = omega (arith, s.low) in
    rw all (ap Some (low ∙ value))

pub so_far_not : (text : List ℕ) (i n : ℕ) → i < length text → is_digit (get_or text i 0) ≡ false → IsSoFar text i n → None ≡ capped_digits text
so_far_not text i n h d s =
    let left : drop i text ≡ get_or text i 0 ∷ drop (i + 1) text = drop_more text i 0 h in
    let not : are_digits text ≡ false =
    are_all text s.some ∙ sym s.digits ∙ ap (list_all is_digit) left ∙ ap (λ t. t && list_all is_digit (drop (i + 1) text)) d in
    rw not refl
