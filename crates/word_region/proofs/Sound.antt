-- What holds of a region whose words and starts are as its rule says.
use Rattle.std.proofs.Common.{◌≡◌, ℕ, ◌+◌, ◌-◌, ◌*◌, ◌/◌, ◌%◌, ◌^◌, ◌<◌, ◌≤◌, List, [], ◌∷◌, ◌++◌, Option, Some, None, false, true, length, get_or, set, take, drop, replicate, nat_lt, if◌then◌else◌, sym, ap, subst, ◌∙◌, arith}
use Rattle.std.specs.List.{sum_by}
use Rattle.std.proofs.lemmas.Bool.Decides.{nat_tests}
use Rattle.std.proofs.lemmas.List.{get_or-take, length-replicate, length-set, take-append-drop, take-take}
use Rattle.std.proofs.lemmas.List.Sums.{sum_by-append, sum_by_push}
use Rattle.word_region.specs.Layout.{blocks_of, IsSound, end_of_first}
use Rattle.word_region.specs.Regions.{HasWord, size_of, start_of, taken, whole_segments, zeros}
use Rattle.word_region.proofs.Laid.{length-blocks_of, taken-blocks_of, one_size, one_word, one_start, span, first_blocks, first_before, set_blocks, push_block, push_laid, same_blocks, same_laid}

pub live_count : (words starts : List ℕ) (n end : ℕ) (blocks : List (List ℕ)) → blocks_of words starts n end ≡ blocks → length blocks ≡ n
live_count words starts n end blocks e = ap length (sym e) ∙ length-blocks_of words starts n end

pub taken_is : (words starts : List ℕ) (n end spare : ℕ) (blocks : List (List ℕ)) → IsSound words starts n end spare → blocks_of words starts n end ≡ blocks → taken blocks ≡ end + n
taken_is words starts n end spare blocks s e =
    let fit : length words ≡ end + n + spare = s.words_fit in
    ap taken (sym e) ∙ taken-blocks_of words starts n end s.laid (omega arith)

pub taken_bounded : (words starts : List ℕ) (n end spare : ℕ) (blocks : List (List ℕ)) → IsSound words starts n end spare → blocks_of words starts n end ≡ blocks → taken blocks + spare < 2 ^ 60
taken_bounded words starts n end spare blocks s e =
    let t : taken blocks ≡ end + n = taken_is words starts n end spare blocks s e in
    let b : end + n + spare < 2 ^ 60 = s.bounded in
    omega arith

pub size_none : (words starts : List ℕ) (n end b : ℕ) (blocks : List (List ℕ)) → blocks_of words starts n end ≡ blocks → n ≤ b → None ≡ size_of blocks b
size_none words starts n end b blocks e l =
    let len : length blocks ≡ n = live_count words starts n end blocks e in
    let past : nat_lt b (length blocks) ≡ false = grind (arith, nat_tests) in
    ap (λ t. if t then Some (length (get_or blocks b [])) else None) (sym past)

pub size_some : (words starts : List ℕ) (n end spare b : ℕ) (blocks : List (List ℕ)) → IsSound words starts n end spare → blocks_of words starts n end ≡ blocks → b < n → Some (end_of_first starts n end (b + 1) - get_or starts b 0) ≡ size_of blocks b
size_some words starts n end spare b blocks s e l =
    let len : length blocks ≡ n = live_count words starts n end blocks e in
    let there : nat_lt b (length blocks) ≡ true = grind (arith, nat_tests) in
    let fit : length words ≡ end + n + spare = s.words_fit in
    let size : get_or starts b 0 + length (get_or (blocks_of words starts n end) b []) ≡ end_of_first starts n end (b + 1) = one_size words starts n end b s.laid (omega arith) l in
    let same : length (get_or (blocks_of words starts n end) b []) ≡ length (get_or blocks b []) = ap (λ t. length (get_or t b [])) e in
    let is : end_of_first starts n end (b + 1) - get_or starts b 0 ≡ length (get_or blocks b []) = omega arith in
    ap (λ k. Some k) is ∙ ap (λ t. if t then Some (length (get_or blocks b [])) else None) (sym there)

-- a word of a live block stands at its block's start and further on
pub record IsPlace (words starts : List ℕ) (n end : ℕ) (blocks : List (List ℕ)) (b i : ℕ) : Type 0 where
  pub live : b < n
  pub started : b < length starts
  pub within : get_or starts b 0 + i < end_of_first starts n end (b + 1)
  pub there : get_or starts b 0 + i < length words
  pub small : get_or starts b 0 + i < 2 ^ 60
  pub word : get_or (get_or blocks b []) i 0 ≡ get_or words (get_or starts b 0 + i) 0
  pub start : start_of blocks b ≡ get_or starts b 0

pub place : (words starts : List ℕ) (n end spare b i : ℕ) (blocks : List (List ℕ)) → IsSound words starts n end spare → blocks_of words starts n end ≡ blocks → b < length blocks → i < length (get_or blocks b []) → IsPlace words starts n end blocks b i
place words starts n end spare b i blocks s e l m =
    let len : length blocks ≡ n = live_count words starts n end blocks e in
    let fit : length words ≡ end + n + spare = s.words_fit in
    let starts_fit : length starts ≡ end + n + spare = s.starts_fit in
    let bounded : end + n + spare < 2 ^ 60 = s.bounded in
    let live : b < n = omega arith in
    let room : end ≤ length words = omega arith in
    let size : get_or starts b 0 + length (get_or (blocks_of words starts n end) b []) ≡ end_of_first starts n end (b + 1) = one_size words starts n end b s.laid room live in
    let same : length (get_or (blocks_of words starts n end) b []) ≡ length (get_or blocks b []) = ap (λ t. length (get_or t b [])) e in
    let p = span starts n end b s.laid live in
    let last : end_of_first starts n end (b + 1) ≤ end = p.within in
    let within : get_or starts b 0 + i < end_of_first starts n end (b + 1) = omega arith in
    record {
      live = live;
      started = omega arith;
      within = within;
      there = omega arith;
      small = omega arith;
      word = ap (λ t. get_or (get_or t b []) i 0) (sym e) ∙ one_word words starts n end b i live within;
      start = ap (λ t. start_of t b) (sym e) ∙ one_start words starts n end b s.laid room live;
    }

-- a change of a word
pub set_word : (words starts : List ℕ) (n end spare b i w : ℕ) (blocks : List (List ℕ)) → IsSound words starts n end spare → blocks_of words starts n end ≡ blocks → IsPlace words starts n end blocks b i → blocks_of (set words (get_or starts b 0 + i) w) starts n end ≡ set blocks b (set (get_or blocks b []) i w)
set_word words starts n end spare b i w blocks s e p =
    set_blocks words starts n end b i w s.laid p.live p.within ∙ ap (λ t. set t b (set (get_or t b []) i w)) e

pub set_sound : (words starts : List ℕ) (n end spare at w : ℕ) → IsSound words starts n end spare → IsSound (set words at w) starts n end spare
set_sound words starts n end spare at w s =
    record { laid = s.laid; words_fit = length-set words at w ∙ s.words_fit; starts_fit = s.starts_fit; bounded = s.bounded }

-- the segments show the words
pub shows_words : (seen : Option (List ℕ)) (words starts : List ℕ) (n end spare k : ℕ) (blocks : List (List ℕ)) → IsSound words starts n end spare → blocks_of words starts n end ≡ blocks → ((at : ℕ) → at < length words → at / 65536 ≡ k → HasWord seen (at % 65536) (get_or words at 0)) → (b i : ℕ) → b < length blocks → i < length (get_or blocks b []) → (start_of blocks b + i) / 65536 ≡ k → HasWord seen ((start_of blocks b + i) % 65536) (get_or (get_or blocks b []) i 0)
shows_words seen words starts n end spare k blocks s e shows b i l m q =
    let p = place words starts n end spare b i blocks s e l m in
    let at : get_or starts b 0 + i ≡ start_of blocks b + i = ap (λ t. t + i) (sym p.start) in
    let P : ℕ → Type 0 = λ t. t / 65536 ≡ k → HasWord seen (t % 65536) (get_or words (get_or starts b 0 + i) 0) in
    let Q : ℕ → Type 0 = λ t. HasWord seen ((start_of blocks b + i) % 65536) t in
    subst Q (sym p.word) (subst P at (shows (get_or starts b 0 + i) p.there) q)

-- one more block
pub placed_sound : (words words' starts : List ℕ) (n end spare size : ℕ) → IsSound words starts n end spare → size + 1 ≤ spare → size < 4294967296 → length words' ≡ length words → IsSound words' (set starts n end) (n + 1) (end + size) (spare - (size + 1))
placed_sound words words' starts n end spare size s l m len =
    let fit : length words ≡ end + n + spare = s.words_fit in
    let starts_fit : length starts ≡ end + n + spare = s.starts_fit in
    let bounded : end + n + spare < 2 ^ 60 = s.bounded in
    record {
      laid = push_laid starts n end size s.laid (omega arith) m;
      words_fit = omega arith;
      starts_fit = omega (arith, length-set starts n end);
      bounded = omega arith;
    }

pub placed_blocks : (words words' starts : List ℕ) (n end spare size : ℕ) (blocks : List (List ℕ)) → IsSound words starts n end spare → blocks_of words starts n end ≡ blocks → size + 1 ≤ spare → take end words' ≡ take end words → drop end (take (end + size) words') ≡ zeros size → blocks_of words' (set starts n end) (n + 1) (end + size) ≡ blocks ++ zeros size ∷ []
placed_blocks words words' starts n end spare size blocks s e l kept cleared =
    let starts_fit : length starts ≡ end + n + spare = s.starts_fit in
    push_block words words' starts n end size s.laid (omega arith) kept cleared ∙ ap (λ t. t ++ zeros size ∷ []) e

-- the last blocks given back
pub released_sound : (words starts : List ℕ) (n end spare m : ℕ) → IsSound words starts n end spare → m ≤ n → IsSound words starts m (end_of_first starts n end m) (spare + ((end + n) - (end_of_first starts n end m + m)))
released_sound words starts n end spare m s l =
    let b = first_before starts n end m s.laid l in
    let low : end_of_first starts n end m ≤ end = b.low in
    let fit : length words ≡ end + n + spare = s.words_fit in
    let starts_fit : length starts ≡ end + n + spare = s.starts_fit in
    let bounded : end + n + spare < 2 ^ 60 = s.bounded in
    record { laid = b.laid; words_fit = omega arith; starts_fit = omega arith; bounded = omega arith }

pub released_blocks : (words starts : List ℕ) (n end m : ℕ) (blocks : List (List ℕ)) → blocks_of words starts n end ≡ blocks → m ≤ n → blocks_of words starts m (end_of_first starts n end m) ≡ take m blocks
released_blocks words starts n end m blocks e l = sym (first_blocks words starts n end m l) ∙ ap (λ t. take m t) e

taken_split : (blocks : List (List ℕ)) (m : ℕ) → taken blocks ≡ taken (take m blocks) + taken (drop m blocks)
unfolding taken
taken_split blocks m = ap (λ t. sum_by (λ b. length b + 1) t) (sym (take-append-drop m blocks)) ∙ sum_by-append (λ b. length b + 1) (take m blocks) (drop m blocks)

pub released_spare : (words starts : List ℕ) (n end spare m : ℕ) (blocks : List (List ℕ)) → IsSound words starts n end spare → blocks_of words starts n end ≡ blocks → m ≤ n → spare + ((end + n) - (end_of_first starts n end m + m)) ≡ spare + taken (drop m blocks)
released_spare words starts n end spare m blocks s e l =
    let stop = end_of_first starts n end m in
    let all : taken blocks ≡ end + n = taken_is words starts n end spare blocks s e in
    let kept : taken (take m blocks) ≡ stop + m = taken_is words starts m stop (spare + ((end + n) - (stop + m))) (take m blocks) (released_sound words starts n end spare m s l) (released_blocks words starts n end m blocks e l) in
    let both : taken blocks ≡ taken (take m blocks) + taken (drop m blocks) = taken_split blocks m in
    omega arith

kept_entry : (starts starts' : List ℕ) (n : ℕ) → n ≤ length starts → take (length starts) starts' ≡ starts → (k : ℕ) → k < n → get_or starts' k 0 ≡ get_or starts k 0
kept_entry starts starts' n l kept k m = sym (get_or-take (length starts) starts' k 0 (omega arith)) ∙ ap (λ t. get_or t k 0) kept

-- more segments
pub grown_sound : (words words' starts starts' : List ℕ) (n end spare more : ℕ) → IsSound words starts n end spare → length words' ≡ length words + more → length words' ≡ length starts' → take (length starts) starts' ≡ starts → end + n + spare + more < 2 ^ 60 → IsSound words' starts' n end (spare + more)
grown_sound words words' starts starts' n end spare more s len alike kept small =
    let fit : length words ≡ end + n + spare = s.words_fit in
    let starts_fit : length starts ≡ end + n + spare = s.starts_fit in
    record { laid = same_laid starts starts' n end s.laid (kept_entry starts starts' n (omega arith) kept); words_fit = omega arith; starts_fit = omega arith; bounded = omega arith }

pub grown_blocks : (words words' starts starts' : List ℕ) (n end spare : ℕ) (blocks : List (List ℕ)) → IsSound words starts n end spare → blocks_of words starts n end ≡ blocks → take (length words) words' ≡ words → take (length starts) starts' ≡ starts → blocks_of words' starts' n end ≡ blocks
grown_blocks words words' starts starts' n end spare blocks s e kept starts_kept =
    let fit : length words ≡ end + n + spare = s.words_fit in
    let starts_fit : length starts ≡ end + n + spare = s.starts_fit in
    let same : take end words' ≡ take end words = sym (take-take end (length words) words' (omega arith)) ∙ ap (λ t. take end t) kept in
    same_blocks words words' starts starts' n end s.laid same (kept_entry starts starts' n (omega arith) starts_kept) ∙ e

-- all that the added segments allow is spare
pub grown_spare : (words starts : List ℕ) (n end spare wanted segments more : ℕ) (blocks : List (List ℕ)) → IsSound words starts n end spare → blocks_of words starts n end ≡ blocks → 65536 * segments ≡ length words → 65536 * segments + 65536 * more ≡ whole_segments (end + n + wanted) → taken blocks + (spare + 65536 * more) ≡ whole_segments (taken blocks + wanted)
grown_spare words starts n end spare wanted segments more blocks s e count whole =
    let fit : length words ≡ end + n + spare = s.words_fit in
    let t : taken blocks ≡ end + n = taken_is words starts n end spare blocks s e in
    let sum : taken blocks + (spare + 65536 * more) ≡ 65536 * segments + 65536 * more = omega arith in
    sum ∙ whole ∙ ap (λ k. whole_segments (k + wanted)) (sym t)

-- what one more block takes
pub taken_push : (blocks : List (List ℕ)) (size : ℕ) → taken (blocks ++ zeros size ∷ []) ≡ taken blocks + (size + 1)
unfolding taken zeros
taken_push blocks size = sum_by_push (λ b. length b + 1) blocks (replicate size 0) ∙ ap (λ k. taken blocks + (k + 1)) (length-replicate {A = ℕ} size 0)

pub grown_by_block : (blocks new : List (List ℕ)) (size spare : ℕ) → new ≡ blocks ++ zeros size ∷ [] → taken blocks + (spare + (size + 1)) ≡ whole_segments (taken blocks + (size + 1)) → taken new + spare ≡ whole_segments (taken new)
grown_by_block blocks new size spare e h =
    let t : taken new ≡ taken blocks + (size + 1) = ap taken e ∙ taken_push blocks size in
    let sum : taken new + spare ≡ taken blocks + (spare + (size + 1)) = omega arith in
    sum ∙ h ∙ ap whole_segments (sym t)
