-- Words in full segments: where a word stands, and what stays when it changes.
use Rattle.std.proofs.Common.{◌≡◌, ℕ, zero, suc, ◌+◌, ◌-◌, ◌*◌, ◌/◌, ◌%◌, ◌<◌, List, [], ◌∷◌, ◌++◌, length, get_or, set, take, drop, Option, Some, slice_get, refl, sym, ap, subst, ◌∙◌, arith}
use Rattle.std.specs.List.{concat}
use Rattle.std.proofs.lemmas.List.{length-append, get_or_append_left, get_or-append-add, set-append_left, set-append_right, length-set, length-drop, take_all, take-append-le, take-set-le, take_more_set, drop-take, drop-set-add, replicate_more}
use Rattle.word_region.specs.Regions.{HasWord, zeros}
use Rattle.std.proofs.Math.Seq.{take-append-add}
use Rattle.std.proofs.Math.Nat.{mul-suc, mul-zero}
use Rattle.word_region.specs.Layout.{AreFull}

pub length-concat : (c : ℕ) (ss : List (List ℕ)) → AreFull c ss → length (concat ss) ≡ c * length ss
length-concat c [] h = sym (mul-zero c)
length-concat c (s ∷ ss) h =
    let e : length s ≡ c = h.0 in
    let n : length (concat ss) ≡ c * length ss = length-concat c ss h.1 in
    omega (arith, length-append s (concat ss), mul-suc c (length ss))

pub length_of_full : (c : ℕ) (ss : List (List ℕ)) (q : ℕ) → AreFull c ss → q < length ss → length (get_or ss q []) ≡ c
length_of_full c [] q h l = absurd (omega arith)
length_of_full c (s ∷ ss) zero h l = h.0
length_of_full c (s ∷ ss) (suc q) h l = length_of_full c ss q h.1 (omega arith)

pub get_or-concat : (c : ℕ) (ss : List (List ℕ)) (q r : ℕ) → AreFull c ss → q < length ss → r < c → get_or (concat ss) (c * q + r) 0 ≡ get_or (get_or ss q []) r 0
get_or-concat c [] q r h l m = absurd (omega arith)
get_or-concat c (s ∷ ss) zero r h l m =
    let e : length s ≡ c = h.0 in
    let z : c * 0 + r ≡ r = omega (arith, mul-zero c) in
    ap (λ n. get_or (s ++ concat ss) n 0) z ∙ get_or_append_left s (concat ss) 0 r (omega arith)
get_or-concat c (s ∷ ss) (suc q) r h l m =
    let e : length s ≡ c = h.0 in
    let z : c * suc q + r ≡ length s + (c * q + r) = omega (arith, mul-suc c q) in
    ap (λ n. get_or (s ++ concat ss) n 0) z ∙ get_or-append-add s (concat ss) (c * q + r) 0 ∙ get_or-concat c ss q r h.1 (omega arith) m

pub set-concat : (c : ℕ) (ss : List (List ℕ)) (q r w : ℕ) → AreFull c ss → q < length ss → r < c → concat (set ss q (set (get_or ss q []) r w)) ≡ set (concat ss) (c * q + r) w
set-concat c [] q r w h l m = absurd (omega arith)
set-concat c (s ∷ ss) zero r w h l m =
    let e : length s ≡ c = h.0 in
    let z : r ≡ c * 0 + r = omega (arith, mul-zero c) in
    sym (set-append_left s (concat ss) r w (omega arith)) ∙ ap (λ n. set (s ++ concat ss) n w) z
set-concat c (s ∷ ss) (suc q) r w h l m =
    let e : length s ≡ c = h.0 in
    let z : c * suc q + r - c ≡ c * q + r = omega (arith, mul-suc c q) in
    ap (λ t. s ++ t) (set-concat c ss q r w h.1 (omega arith) m ∙ ap (λ n. set (concat ss) n w) (sym z))
    ∙ sym (set-append_right s (concat ss) c (c * suc q + r) w e (omega (arith, mul-suc c q)))

pub AreFull-set : (c : ℕ) (ss : List (List ℕ)) (q : ℕ) (s : List ℕ) → AreFull c ss → length s ≡ c → AreFull c (set ss q s)
AreFull-set c [] q s h e = tt
AreFull-set c (t ∷ ss) zero s h e = (e, h.1)
AreFull-set c (t ∷ ss) (suc q) s h e = (h.0, AreFull-set c ss q s h.1 e)

pub AreFull-push : (c : ℕ) (ss : List (List ℕ)) (s : List ℕ) → AreFull c ss → length s ≡ c → AreFull c (ss ++ s ∷ [])
AreFull-push c [] s h e = (e, tt)
AreFull-push c (t ∷ ss) s h e = (h.0, AreFull-push c ss s h.1 e)

pub AreFull-take : (c : ℕ) (ss : List (List ℕ)) (n : ℕ) → AreFull c ss → AreFull c (take n ss)
AreFull-take c ss zero h = tt
AreFull-take c [] (suc n) h = tt
AreFull-take c (s ∷ ss) (suc n) h = (h.0, AreFull-take c ss n h.1)

pub take-concat : (c : ℕ) (ss : List (List ℕ)) (n : ℕ) → AreFull c ss → concat (take n ss) ≡ take (c * n) (concat ss)
take-concat c ss zero h = sym (ap (λ k. take k (concat ss)) (mul-zero c))
take-concat c [] (suc n) h = sym (take_all (c * suc n) [] (omega arith))
take-concat c (s ∷ ss) (suc n) h =
    let e : length s ≡ c = h.0 in
    let z : length s + c * n ≡ c * suc n = omega (arith, mul-suc c n) in
    ap (λ t. s ++ t) (take-concat c ss n h.1) ∙ sym (take-append-add s (concat ss) (c * n)) ∙ ap (λ k. take k (s ++ concat ss)) z

-- the segment of a place is there
pub segment_is_there : (ss : List (List ℕ)) (at : ℕ) → AreFull 65536 ss → at < length (concat ss) → at / 65536 < length ss
segment_is_there ss at h l =
    let e : length (concat ss) ≡ 65536 * length ss = length-concat 65536 ss h in
    omega arith

pub word_of_segment : (ss : List (List ℕ)) (at : ℕ) → AreFull 65536 ss → at < length (concat ss) → get_or (concat ss) at 0 ≡ get_or (get_or ss (at / 65536) []) (at % 65536) 0
word_of_segment ss at h l =
    let e : at ≡ 65536 * (at / 65536) + at % 65536 = omega arith in
    ap (λ n. get_or (concat ss) n 0) e ∙ get_or-concat 65536 ss (at / 65536) (at % 65536) h (segment_is_there ss at h l) (omega arith)

pub set_of_segment : (ss : List (List ℕ)) (at w : ℕ) → AreFull 65536 ss → at < length (concat ss) → concat (set ss (at / 65536) (set (get_or ss (at / 65536) []) (at % 65536) w)) ≡ set (concat ss) at w
set_of_segment ss at w h l =
    let e : 65536 * (at / 65536) + at % 65536 ≡ at = omega arith in
    set-concat 65536 ss (at / 65536) (at % 65536) w h (segment_is_there ss at h l) (omega arith) ∙ ap (λ n. set (concat ss) n w) e

pub set_is_full : (ss : List (List ℕ)) (at w : ℕ) (s : List ℕ) → AreFull 65536 ss → at < length (concat ss) → s ≡ set (get_or ss (at / 65536) []) (at % 65536) w → AreFull 65536 (set ss (at / 65536) s)
set_is_full ss at w s h l e =
    AreFull-set 65536 ss (at / 65536) s h (ap length e ∙ length-set (get_or ss (at / 65536) []) (at % 65536) w ∙ length_of_full 65536 ss (at / 65536) h (segment_is_there ss at h l))

nth_is : (ss : List (List ℕ)) (q : ℕ) → q < length ss → slice_get ss q ≡ Some (get_or ss q [])
nth_is [] q l = absurd (omega arith)
nth_is (s ∷ ss) zero l = refl
nth_is (s ∷ ss) (suc q) l = nth_is ss q (omega arith)

-- a segment that is there shows each of its words
pub segment_has : (seen : Option (List ℕ)) (ss : List (List ℕ)) (k : ℕ) → AreFull 65536 ss → seen ≡ slice_get ss k → (at : ℕ) → at < length (concat ss) → at / 65536 ≡ k → HasWord seen (at % 65536) (get_or (concat ss) at 0)
segment_has seen ss k h e at l q =
    let there : at / 65536 < length ss = segment_is_there ss at h l in
    let some : seen ≡ Some (get_or ss (at / 65536) []) = e ∙ ap (λ n. slice_get ss n) (sym q) ∙ nth_is ss (at / 65536) there in
    subst (λ o. HasWord o (at % 65536) (get_or (concat ss) at 0)) (sym some) (sym (word_of_segment ss at h l))

-- segments were added to others
pub record IsAdded (old now : List (List ℕ)) (count : ℕ) : Type 0 where
  pub full : AreFull 65536 now
  pub kept : take (length old) now ≡ old
  pub longer : length now ≡ length old + count

pub added_none : (old : List (List ℕ)) → AreFull 65536 old → IsAdded old old 0
added_none old h = record { full = h; kept = take_all (length old) old (omega arith); longer = omega arith }

pub added_more : (old now now' : List (List ℕ)) (count : ℕ) (s : List ℕ) → IsAdded old now count → length s ≡ 65536 → now' ≡ now ++ s ∷ [] → IsAdded old now' (count + 1)
added_more old now now' count s h len e =
    let longer : length now ≡ length old + count = h.longer in
    subst (λ t. IsAdded old t (count + 1)) (sym e) (record {
      full = AreFull-push 65536 now s h.full len;
      kept = take-append-le (length old) now (s ∷ []) (omega arith) ∙ h.kept;
      longer = omega (arith, length-append now (s ∷ []));
    })

-- words that are being cleared from a place on
pub record IsCleared (old now : List ℕ) (from count : ℕ) : Type 0 where
  pub len : length now ≡ length old
  pub before : take from now ≡ take from old
  pub cleared : drop from (take (from + count) now) ≡ zeros count

pub cleared_none : (old : List ℕ) (from : ℕ) → IsCleared old old from 0
unfolding zeros
cleared_none old from = record { len = refl; before = refl; cleared = drop-take from 0 old }

zeros_more : (k : ℕ) → zeros k ++ 0 ∷ [] ≡ zeros (k + 1)
unfolding zeros
zeros_more k = replicate_more k 0

pub cleared_more : (old now now' : List ℕ) (from count : ℕ) → from + count < length old → IsCleared old now from count → now' ≡ set now (from + count) 0 → IsCleared old now' from (count + 1)
cleared_more old now now' from count l h e =
    let len : length now ≡ length old = h.len in
    let rest = drop from now in
    let room : count < length rest = omega (arith, length-drop from now) in
    subst (λ t. IsCleared old t from (count + 1)) (sym e) (record {
      len = length-set now (from + count) 0 ∙ len;
      before = take-set-le from now (from + count) 0 (omega arith) ∙ h.before;
      cleared =
          drop-take from (count + 1) (set now (from + count) 0)
          ∙ ap (λ t. take (count + 1) t) (drop-set-add from now count 0)
          ∙ take_more_set rest count 0 room
          ∙ ap (λ t. t ++ 0 ∷ []) (sym (drop-take from count now) ∙ h.cleared)
          ∙ zeros_more count;
    })

-- as long as its segments together, also once more were added
pub length_of_segments : (ss : List (List ℕ)) (ws : List ℕ) → AreFull 65536 ss → concat ss ≡ ws → 65536 * length ss ≡ length ws
length_of_segments ss ws h e = sym (length-concat 65536 ss h) ∙ ap length e

pub length_of_added : (old now : List (List ℕ)) (ws : List ℕ) (count : ℕ) → AreFull 65536 old → concat old ≡ ws → IsAdded old now count → length (concat now) ≡ length ws + 65536 * count
length_of_added old now ws count h e a =
    let longer : length now ≡ length old + count = a.longer in
    let one : length (concat now) ≡ 65536 * length now = length-concat 65536 now a.full in
    let two : 65536 * length old ≡ length ws = length_of_segments old ws h e in
    omega arith

pub words_of_added : (old now : List (List ℕ)) (ws : List ℕ) → AreFull 65536 old → concat old ≡ ws → AreFull 65536 now → take (length old) now ≡ old → take (length ws) (concat now) ≡ ws
words_of_added old now ws h e f kept =
    ap (λ n. take n (concat now)) (sym (length_of_segments old ws h e)) ∙ sym (take-concat 65536 now (length old) f) ∙ ap concat kept ∙ e
