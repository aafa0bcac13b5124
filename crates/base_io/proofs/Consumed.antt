-- What a read of a text from a place gives and leaves.
use Rattle.std.proofs.Common.{◌≡◌, ℕ, ◌+◌, ◌-◌, ◌<◌, List, [], ◌++◌, length, take, drop, min, ap, sym, ◌∙◌, arith, length-drop}
use Rattle.std.proofs.lemmas.List.{take-append-drop, drop-drop, drop_all, take_all}

-- the bytes that were left are those in the buffer, and then those that are left now
pub consumed : (content bytes buf left : List ℕ) (at n : ℕ) → left ≡ drop at content → bytes ≡ content → take n buf ≡ take n (take (length bytes - at) (drop at bytes)) → left ≡ take n buf ++ drop (at + n) content
consumed content bytes buf left at n left_is bytes_is copied =
    let whole : take (length content - at) (drop at content) ≡ drop at content = take_all (length content - at) (drop at content) (omega (arith, length-drop at content)) in
    let front : take n buf ≡ take n (drop at content) = copied ∙ ap (λ (b : List ℕ). take n (take (length b - at) (drop at b))) bytes_is ∙ ap (λ (l : List ℕ). take n l) whole in
    left_is ∙ sym (take-append-drop n (drop at content)) ∙ ap (λ (l : List ℕ). l ++ drop n (drop at content)) (sym front) ∙ ap (λ (l : List ℕ). take n buf ++ l) (drop-drop n at content)

-- a read that gave none, with room in the buffer, is at the end
pub at_end : (content bytes buf old : List ℕ) (at n : ℕ) → bytes ≡ content → n ≡ min (length (take (length bytes - at) (drop at bytes))) (length old) → length buf ≡ length old → n ≡ 0 → 0 < length buf → drop (at + n) content ≡ []
at_end content bytes buf old at n bytes_is n_is same none room =
    let whole : take (length bytes - at) (drop at bytes) ≡ drop at bytes = take_all (length bytes - at) (drop at bytes) (omega (arith, length-drop at bytes)) in
    let lengths = ap (λ (l : List ℕ). length l) whole in
    drop_all (at + n) content (omega (arith, length-drop at bytes, lengths, ap (λ (l : List ℕ). length l) bytes_is))
