-- Blocks that lie one after another: their sizes, their words, and what stays as the last ones come and go.
use Rattle.std.proofs.Common.{◌≡◌, ℕ, zero, suc, ◌+◌, ◌-◌, ◌<◌, ◌≤◌, List, [], ◌∷◌, ◌++◌, length, get_or, set, take, drop, refl, sym, ap, subst, inl, inr, ◌∙◌, arith, add-one}
use Rattle.std.specs.List.{sum_by}
use Rattle.std.proofs.lemmas.List.{length-append, length-drop, length-take-le, take_at, take-append-le, take-take, take_all, get_or_push, get_or_append_left, get_or-set_same, get_or-set_other, get_or-take, get_or-drop, set_at, set-append_left, take-set-le, drop-set-lt, drop-set-add}
use Rattle.std.proofs.lemmas.List.Sums.{sum_by_push}
use Rattle.std.proofs.lemmas.Bool.{cases_eq, cases_lt}
use Rattle.std.proofs.lemmas.Bool.Decides.{nat_tests}
use Rattle.word_region.specs.Layout.{blocks_of, IsLaid, end_of_first}
use Rattle.word_region.specs.Regions.{taken, start_of, zeros}

pub length-blocks_of : (words starts : List ℕ) (n end : ℕ) → length (blocks_of words starts n end) ≡ n
unfolding blocks_of
length-blocks_of words starts zero end = refl
length-blocks_of words starts (suc n) end =
    let f = get_or starts n 0 in
    omega (arith, length-append (blocks_of words starts n f) (drop f (take end words) ∷ []), length-blocks_of words starts n f)

-- the length of one block
pub length-span : (words : List ℕ) (first end : ℕ) → end ≤ length words → length (drop first (take end words)) ≡ end - first
length-span words first end h = length-drop first (take end words) ∙ ap (λ n. n - first) (length-take-le end words h)

pub taken-blocks_of : (words starts : List ℕ) (n end : ℕ) → IsLaid starts n end → end ≤ length words → taken (blocks_of words starts n end) ≡ end + n
unfolding blocks_of IsLaid taken
taken-blocks_of words starts zero end h l = omega arith
taken-blocks_of words starts (suc n) end h l =
    let f = get_or starts n 0 in
    let low : f ≤ end = h.0 in
    let before : taken (blocks_of words starts n f) ≡ f + n = taken-blocks_of words starts n f h.2 (omega arith) in
    let last : length (drop f (take end words)) ≡ end - f = length-span words f end l in
    let all : taken (blocks_of words starts (suc n) end) ≡ taken (blocks_of words starts n f) + (length (drop f (take end words)) + 1) = sum_by_push (λ b. length b + 1) (blocks_of words starts n f) (drop f (take end words)) in
    all ∙ omega arith

pub sizes-blocks_of : (words starts : List ℕ) (n end : ℕ) → IsLaid starts n end → end ≤ length words → sum_by length (blocks_of words starts n end) ≡ end
unfolding blocks_of IsLaid
sizes-blocks_of words starts zero end h l = sym h
sizes-blocks_of words starts (suc n) end h l =
    let f = get_or starts n 0 in
    let low : f ≤ end = h.0 in
    let before : sum_by length (blocks_of words starts n f) ≡ f = sizes-blocks_of words starts n f h.2 (omega arith) in
    let last : length (drop f (take end words)) ≡ end - f = length-span words f end l in
    sum_by_push length (blocks_of words starts n f) (drop f (take end words)) ∙ omega arith

-- the first m blocks end at a place, which is no later than the last one's end
pub record IsBefore (starts : List ℕ) (m stop end : ℕ) : Type 0 where
  pub laid : IsLaid starts m stop
  pub low : stop ≤ end

pub before : (starts : List ℕ) (n end m : ℕ) → IsLaid starts n end → m < n → IsBefore starts m (get_or starts m 0) end
unfolding IsLaid
before starts zero end m h l = absurd (omega arith)
before starts (suc n) end m h l =
    let f = get_or starts n 0 in
    let low : f ≤ end = h.0 in
    elim (cases_eq m n) [
      | inl e ↦ record { laid = subst (λ k. IsLaid starts k (get_or starts k 0)) (sym e) h.2; low = subst (λ k. get_or starts k 0 ≤ end) (sym e) low }
      | inr d ↦ let b = before starts n f m h.2 (omega arith) in record { laid = b.laid; low = omega (arith, b.low) }
    ]

pub take-blocks_of : (words starts : List ℕ) (n end m : ℕ) → m < n → take m (blocks_of words starts n end) ≡ blocks_of words starts m (get_or starts m 0)
unfolding blocks_of
take-blocks_of words starts zero end m l = absurd (omega arith)
take-blocks_of words starts (suc n) end m l =
    let f = get_or starts n 0 in
    let xs = blocks_of words starts n f in
    let len : length xs ≡ n = length-blocks_of words starts n f in
    elim (cases_eq m n) [
      | inl e ↦ ap (λ k. take k (xs ++ drop f (take end words) ∷ [])) e ∙ take_at xs (drop f (take end words) ∷ []) n len ∙ ap (λ k. blocks_of words starts k (get_or starts k 0)) (sym e)
      | inr d ↦ take-append-le m xs (drop f (take end words) ∷ []) (omega arith) ∙ take-blocks_of words starts n f m (omega arith)
    ]

-- the same blocks in other tables
pub same_blocks : (words words' starts starts' : List ℕ) (n end : ℕ) → IsLaid starts n end → take end words' ≡ take end words → ((k : ℕ) → k < n → get_or starts' k 0 ≡ get_or starts k 0) → blocks_of words' starts' n end ≡ blocks_of words starts n end
unfolding blocks_of IsLaid
same_blocks words words' starts starts' zero end h w s = refl
same_blocks words words' starts starts' (suc n) end h w s =
    let f = get_or starts n 0 in
    let low : f ≤ end = h.0 in
    let e : get_or starts' n 0 ≡ f = s n (omega arith) in
    let w' : take f words' ≡ take f words = sym (take-take f end words' low) ∙ ap (λ t. take f t) w ∙ take-take f end words low in
    let earlier : blocks_of words' starts' n f ≡ blocks_of words starts n f = same_blocks words words' starts starts' n f h.2 w' (λ k l. s k (omega arith)) in
    ap (λ g. blocks_of words' starts' n g ++ drop g (take end words') ∷ []) e
    ∙ ap (λ t. blocks_of words' starts' n f ++ drop f t ∷ []) w
    ∙ ap (λ x. x ++ drop f (take end words) ∷ []) earlier

pub same_laid : (starts starts' : List ℕ) (n end : ℕ) → IsLaid starts n end → ((k : ℕ) → k < n → get_or starts' k 0 ≡ get_or starts k 0) → IsLaid starts' n end
unfolding IsLaid
same_laid starts starts' zero end h s = h
same_laid starts starts' (suc n) end h s =
    let e : get_or starts n 0 ≡ get_or starts' n 0 = sym (s n (omega arith)) in
    subst (λ f. (f ≤ end) × (end < f + 4294967296) × IsLaid starts' n f) e (h.0, h.1, same_laid starts starts' n (get_or starts n 0) h.2 (λ k l. s k (omega arith)))

-- where the first so many blocks end
pub end_of_inner : (starts : List ℕ) (n end k : ℕ) → k < n → end_of_first starts n end k ≡ get_or starts k 0
unfolding end_of_first
end_of_inner starts n end k l = grind (arith, nat_tests)

pub end_of_all : (starts : List ℕ) (n end k : ℕ) → n ≤ k → end_of_first starts n end k ≡ end
unfolding end_of_first
end_of_all starts n end k l = grind (arith, nat_tests)

-- the first blocks, and what is said of them
pub first_blocks : (words starts : List ℕ) (n end m : ℕ) → m ≤ n → take m (blocks_of words starts n end) ≡ blocks_of words starts m (end_of_first starts n end m)
first_blocks words starts n end m l =
    elim (cases_lt m n) [
      | inl h ↦ take-blocks_of words starts n end m h ∙ ap (λ e. blocks_of words starts m e) (sym (end_of_inner starts n end m h))
      | inr h ↦
          let e : m ≡ n = omega arith in
          let len : length (blocks_of words starts n end) ≡ n = length-blocks_of words starts n end in
          take_all m (blocks_of words starts n end) (omega arith)
          ∙ ap (λ k. blocks_of words starts k end) (sym e)
          ∙ ap (λ f. blocks_of words starts m f) (sym (end_of_all starts n end m h))
    ]

pub first_before : (starts : List ℕ) (n end m : ℕ) → IsLaid starts n end → m ≤ n → IsBefore starts m (end_of_first starts n end m) end
first_before starts n end m h l =
    elim (cases_lt m n) [
      | inl k ↦ subst (λ e. IsBefore starts m e end) (sym (end_of_inner starts n end m k)) (before starts n end m h k)
      | inr k ↦
          let e : m ≡ n = omega arith in
          subst (λ e. IsBefore starts m e end) (sym (end_of_all starts n end m k)) (record { laid = subst (λ k. IsLaid starts k end) (sym e) h; low = omega arith })
    ]

-- a block goes from its start to a place
pub record IsSpan (starts : List ℕ) (b stop end : ℕ) : Type 0 where
  pub from : get_or starts b 0 ≤ stop
  pub short : stop < get_or starts b 0 + 4294967296
  pub within : stop ≤ end

span_suc : (starts : List ℕ) (b stop end : ℕ) → IsBefore starts (suc b) stop end → IsSpan starts b stop end
unfolding IsLaid
span_suc starts b stop end h = record { from = h.laid.0; short = h.laid.1; within = h.low }

pub span : (starts : List ℕ) (n end b : ℕ) → IsLaid starts n end → b < n → IsSpan starts b (end_of_first starts n end (b + 1)) end
span starts n end b h l =
    span_suc starts b (end_of_first starts n end (b + 1)) end (subst (λ k. IsBefore starts k (end_of_first starts n end (b + 1)) end) (add-one b) (first_before starts n end (b + 1) h (omega arith)))

last_block : (words starts : List ℕ) (b end : ℕ) → get_or (blocks_of words starts (suc b) end) b [] ≡ drop (get_or starts b 0) (take end words)
unfolding blocks_of
last_block words starts b end = let f = get_or starts b 0 in get_or_push (blocks_of words starts b f) (drop f (take end words)) [] b (length-blocks_of words starts b f)

pub one_block : (words starts : List ℕ) (n end b : ℕ) → b < n → get_or (blocks_of words starts n end) b [] ≡ drop (get_or starts b 0) (take (end_of_first starts n end (b + 1)) words)
one_block words starts n end b l =
    let xs = blocks_of words starts n end in
    let stop = end_of_first starts n end (b + 1) in
    sym (get_or-take (b + 1) xs b [] (omega arith))
    ∙ ap (λ t. get_or t b []) (first_blocks words starts n end (b + 1) (omega arith) ∙ ap (λ k. blocks_of words starts k stop) (add-one b))
    ∙ last_block words starts b stop

-- the size of a block
pub one_size : (words starts : List ℕ) (n end b : ℕ) → IsLaid starts n end → end ≤ length words → b < n → get_or starts b 0 + length (get_or (blocks_of words starts n end) b []) ≡ end_of_first starts n end (b + 1)
one_size words starts n end b h w l =
    let s = span starts n end b h l in
    let first = get_or starts b 0 in
    let stop = end_of_first starts n end (b + 1) in
    let from : first ≤ stop = s.from in
    let within : stop ≤ end = s.within in
    let len : length (drop first (take stop words)) ≡ stop - first = length-span words first stop (omega arith) in
    ap (λ t. first + length t) (one_block words starts n end b l) ∙ omega arith

-- a word of a block
pub one_word : (words starts : List ℕ) (n end b i : ℕ) → b < n → get_or starts b 0 + i < end_of_first starts n end (b + 1) → get_or (get_or (blocks_of words starts n end) b []) i 0 ≡ get_or words (get_or starts b 0 + i) 0
one_word words starts n end b i l h =
    let first = get_or starts b 0 in
    let stop = end_of_first starts n end (b + 1) in
    ap (λ t. get_or t i 0) (one_block words starts n end b l)
    ∙ get_or-drop first (take stop words) i 0
    ∙ get_or-take stop words (first + i) 0 h

-- where a block starts
pub one_start : (words starts : List ℕ) (n end b : ℕ) → IsLaid starts n end → end ≤ length words → b < n → start_of (blocks_of words starts n end) b ≡ get_or starts b 0
unfolding start_of
one_start words starts n end b h w l =
    let p = before starts n end b h l in
    let low : get_or starts b 0 ≤ end = p.low in
    ap (λ t. sum_by length t) (take-blocks_of words starts n end b l) ∙ sizes-blocks_of words starts b (get_or starts b 0) p.laid (omega arith)

-- a change is the same before and after the first words are taken
set-take : (n : ℕ) (xs : List ℕ) (p w : ℕ) → take n (set xs p w) ≡ set (take n xs) p w
set-take zero xs p w = refl
set-take (suc n) [] p w = refl
set-take (suc n) (x ∷ xs) zero w = refl
set-take (suc n) (x ∷ xs) (suc p) w = ap (λ t. x ∷ t) (set-take n xs p w)

-- a block that isn't the last ends at the same place without the last
same_end : (starts : List ℕ) (n end b : ℕ) → b < n → end_of_first starts (suc n) end (b + 1) ≡ end_of_first starts n (get_or starts n 0) (b + 1)
same_end starts n end b l =
    elim (cases_lt (b + 1) n) [
      | inl h ↦ end_of_inner starts (suc n) end (b + 1) (omega arith) ∙ sym (end_of_inner starts n (get_or starts n 0) (b + 1) h)
      | inr h ↦
          let e : b + 1 ≡ n = omega arith in
          end_of_inner starts (suc n) end (b + 1) (omega arith) ∙ ap (λ k. get_or starts k 0) e ∙ sym (end_of_all starts n (get_or starts n 0) (b + 1) h)
    ]

-- a change of a word of the last block
set_last : (words starts : List ℕ) (n end b i w : ℕ) → IsLaid starts n (get_or starts n 0) → get_or starts n 0 ≤ end → b ≡ n → blocks_of (set words (get_or starts b 0 + i) w) starts (suc n) end ≡ set (blocks_of words starts (suc n) end) b (set (get_or (blocks_of words starts (suc n) end) b []) i w)
unfolding blocks_of
set_last words starts n end b i w h low e =
    let f = get_or starts n 0 in
    let at = f + i in
    let xs = blocks_of words starts n f in
    let last = drop f (take end words) in
    let len : length xs ≡ n = length-blocks_of words starts n f in
    let earlier : blocks_of (set words at w) starts n f ≡ xs = same_blocks words (set words at w) starts starts n f h (take-set-le f words at w (omega arith)) (λ k l. refl) in
    let changed : drop f (take end (set words at w)) ≡ set last i w = ap (λ t. drop f t) (set-take end words at w) ∙ drop-set-add f (take end words) i w in
    let P : ℕ → Type 0 = λ k. blocks_of (set words (get_or starts k 0 + i) w) starts n f ++ drop f (take end (set words (get_or starts k 0 + i) w)) ∷ [] ≡ set (xs ++ last ∷ []) k (set (get_or (xs ++ last ∷ []) k []) i w) in
    subst P (sym e) (
    ap (λ t. blocks_of (set words at w) starts n f ++ t ∷ []) changed
    ∙ ap (λ t. t ++ set last i w ∷ []) earlier
    ∙ sym (set_at xs last [] (set last i w) n len)
    ∙ ap (λ t. set (xs ++ last ∷ []) n (set t i w)) (sym (get_or_push xs last [] n len))
    )

-- a change of one word changes that word of its block alone
pub set_blocks : (words starts : List ℕ) (n end b i w : ℕ) → IsLaid starts n end → b < n → get_or starts b 0 + i < end_of_first starts n end (b + 1) → blocks_of (set words (get_or starts b 0 + i) w) starts n end ≡ set (blocks_of words starts n end) b (set (get_or (blocks_of words starts n end) b []) i w)
unfolding blocks_of IsLaid
set_blocks words starts zero end b i w h l p = absurd (omega arith)
set_blocks words starts (suc n) end b i w h l p =
    let f = get_or starts n 0 in
    let first = get_or starts b 0 in
    let at = first + i in
    let xs = blocks_of words starts n f in
    let low : f ≤ end = h.0 in
    let len : length xs ≡ n = length-blocks_of words starts n f in
    elim (cases_eq b n) [
      | inl e ↦ set_last words starts n end b i w h.2 low e
      | inr d ↦
          let b_before : b < n = omega arith in
          let before_n : first + i < end_of_first starts n f (b + 1) = subst (λ k. first + i < k) (same_end starts n end b b_before) p in
          let s = span starts n f b h.2 b_before in
          let under : at < f = omega (arith, s.within) in
          let earlier : blocks_of (set words at w) starts n f ≡ set xs b (set (get_or xs b []) i w) = set_blocks words starts n f b i w h.2 b_before before_n in
          let same : drop f (take end (set words at w)) ≡ drop f (take end words) = ap (λ t. drop f t) (set-take end words at w) ∙ drop-set-lt f (take end words) at w under in
          ap (λ t. blocks_of (set words at w) starts n f ++ t ∷ []) same
          ∙ ap (λ t. t ++ drop f (take end words) ∷ []) earlier
          ∙ ap (λ t. set xs b (set t i w) ++ drop f (take end words) ∷ []) (sym (get_or_append_left xs (drop f (take end words) ∷ []) [] b (omega arith)))
          ∙ sym (set-append_left xs (drop f (take end words) ∷ []) b (set (get_or (xs ++ drop f (take end words) ∷ []) b []) i w) (omega arith))
    ]

-- another start at the end
pub same_before : (starts : List ℕ) (n v : ℕ) (k : ℕ) → k < n → get_or (set starts n v) k 0 ≡ get_or starts k 0
same_before starts n v k l = get_or-set_other starts n k v 0 (λ e. absurd (omega arith))

-- one more block
pub push_block : (words words' starts : List ℕ) (n end size : ℕ) → IsLaid starts n end → n < length starts → take end words' ≡ take end words → drop end (take (end + size) words') ≡ zeros size → blocks_of words' (set starts n end) (n + 1) (end + size) ≡ blocks_of words starts n end ++ zeros size ∷ []
unfolding blocks_of
push_block words words' starts n end size h l kept cleared =
    let starts' = set starts n end in
    let first : get_or starts' n 0 ≡ end = get_or-set_same starts n end 0 l in
    ap (λ k. blocks_of words' starts' k (end + size)) (add-one n)
    ∙ ap (λ f. blocks_of words' starts' n f ++ drop f (take (end + size) words') ∷ []) first
    ∙ ap (λ t. blocks_of words' starts' n end ++ t ∷ []) cleared
    ∙ ap (λ t. t ++ zeros size ∷ []) (same_blocks words words' starts starts' n end h kept (same_before starts n end))

push_laid_suc : (starts : List ℕ) (n end size : ℕ) → IsLaid starts n end → n < length starts → size < 4294967296 → IsLaid (set starts n end) (suc n) (end + size)
unfolding IsLaid
push_laid_suc starts n end size h l s =
    subst (λ f. (f ≤ end + size) × (end + size < f + 4294967296) × IsLaid (set starts n end) n f)
    (sym (get_or-set_same starts n end 0 l))
    (omega arith, omega arith, same_laid starts (set starts n end) n end h (same_before starts n end))

pub push_laid : (starts : List ℕ) (n end size : ℕ) → IsLaid starts n end → n < length starts → size < 4294967296 → IsLaid (set starts n end) (n + 1) (end + size)
push_laid starts n end size h l s =
    subst (λ k. IsLaid (set starts n end) k (end + size)) (sym (add-one n)) (push_laid_suc starts n end size h l s)
