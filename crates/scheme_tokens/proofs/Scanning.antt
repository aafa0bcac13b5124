-- Scanning byte by byte: what is read of the whole is what is read of the bytes that are left.
use Rattle.std.proofs.Common.{◌≡◌, ℕ, ◌+◌, ◌-◌, ◌<◌, ◌≤◌, Bool, true, false, ◌&&◌, if◌then◌else◌, nat_eq, IsTrue, List, ◌++◌, length, drop, get_or, Option, Some, None, refl, sym, ap, ◌∙◌, append_assoc, arith}
use Rattle.std.proofs.lemmas.Bool.Decides.{nat_tests}
use Rattle.std.proofs.lemmas.List.{append-nil, drop_more, at_drop_all}
use Rattle.scheme_tokens.specs.Comments.{is_closing, is_opening, is_end, last_after, inside_after, one_more, comment_len}
use Rattle.scheme_tokens.specs.Strings.{is_wrong, is_closing_quote, is_escaping, part, spelled_len, unescaped}

-- a number of bytes of those left, counted from the front
abbrev pub ahead : ℕ → Option ℕ → Option ℕ
ahead i None = None
ahead i (Some n) = Some (i + n)

ahead_more : (i : ℕ) (o : Option ℕ) → ahead i (one_more o) ≡ ahead (i + 1) o
ahead_more i None = refl
ahead_more i (Some n) = ap Some (omega arith)

pub ahead_none : (o : Option ℕ) → ahead 0 o ≡ o
ahead_none None = refl
ahead_none (Some n) = ap Some (omega arith)

-- Block comments.

pub comment_on : (rest : List ℕ) (i last inside : ℕ) → i < length rest → is_end last inside (get_or rest i 0) ≡ false
    → ahead i (comment_len last inside (drop i rest))
    ≡ ahead (i + 1) (comment_len (last_after last (get_or rest i 0)) (inside_after last inside (get_or rest i 0)) (drop (i + 1) rest))
comment_on rest i last inside h e =
    let b : ℕ = get_or rest i 0 in
    let next : Option ℕ = comment_len (last_after last b) (inside_after last inside b) (drop (i + 1) rest) in
    ap (λ bs. ahead i (comment_len last inside bs)) (drop_more rest i 0 h)
    ∙ ap (λ (t : Bool). ahead i (if t then Some 1 else one_more next)) e ∙ ahead_more i next

pub comment_end : (rest : List ℕ) (i last inside : ℕ) → i < length rest → is_end last inside (get_or rest i 0) ≡ true
    → ahead i (comment_len last inside (drop i rest)) ≡ Some (i + 1)
comment_end rest i last inside h e =
    let b : ℕ = get_or rest i 0 in
    let next : Option ℕ = comment_len (last_after last b) (inside_after last inside b) (drop (i + 1) rest) in
    ap (λ bs. ahead i (comment_len last inside bs)) (drop_more rest i 0 h) ∙ ap (λ (t : Bool). ahead i (if t then Some 1 else one_more next)) e

pub comment_none : (rest : List ℕ) (i last inside : ℕ) → length rest ≤ i → ahead i (comment_len last inside (drop i rest)) ≡ None
comment_none rest i last inside h = at_drop_all (λ (bs : List ℕ). ahead i (comment_len last inside bs)) rest i h

pub inside_low : (last inside b i : ℕ) → inside ≤ i → inside_after last inside b ≤ i + 1
inside_low last inside b i h = go (is_closing last b) (is_opening last b)
  where
    go : (c o : Bool) → (if c then inside - 1 else (if o then inside + 1 else inside)) ≤ i + 1
    go true o = omega arith
    go false true = omega arith
    go false false = omega arith

pub some_inside : (last inside b : ℕ) → is_end last inside b ≡ false → IsTrue (is_closing last b) → 0 < inside
some_inside last inside b e t = go (is_closing last b) t e
  where
    go : (c : Bool) → IsTrue c → (c && nat_eq inside 0) ≡ false → 0 < inside
    go true t e = grind (arith, nat_tests)
    go false t e = absurd (cc)

-- Strings.

pub spelled_on : (rest : List ℕ) (i : ℕ) (escaped : Bool) → i < length rest → is_wrong escaped (get_or rest i 0) ≡ false → is_closing_quote escaped (get_or rest i 0) ≡ false
    → ahead i (spelled_len escaped (drop i rest)) ≡ ahead (i + 1) (spelled_len (is_escaping escaped (get_or rest i 0)) (drop (i + 1) rest))
spelled_on rest i escaped h w q =
    let next : Option ℕ = spelled_len (is_escaping escaped (get_or rest i 0)) (drop (i + 1) rest) in
    ap (λ bs. ahead i (spelled_len escaped bs)) (drop_more rest i 0 h)
    ∙ ap (λ (t : Bool). ahead i (if t then None else (if is_closing_quote escaped (get_or rest i 0) then Some 0 else one_more next))) w
    ∙ ap (λ (t : Bool). ahead i (if t then Some 0 else one_more next)) q ∙ ahead_more i next

pub spelled_wrong : (rest : List ℕ) (i : ℕ) (escaped : Bool) → i < length rest → is_wrong escaped (get_or rest i 0) ≡ true
    → ahead i (spelled_len escaped (drop i rest)) ≡ None
spelled_wrong rest i escaped h w =
    let next : Option ℕ = spelled_len (is_escaping escaped (get_or rest i 0)) (drop (i + 1) rest) in
    ap (λ bs. ahead i (spelled_len escaped bs)) (drop_more rest i 0 h)
    ∙ ap (λ (t : Bool). ahead i (if t then None else (if is_closing_quote escaped (get_or rest i 0) then Some 0 else one_more next))) w

pub spelled_end : (rest : List ℕ) (i : ℕ) (escaped : Bool) → i < length rest → is_wrong escaped (get_or rest i 0) ≡ false → is_closing_quote escaped (get_or rest i 0) ≡ true
    → ahead i (spelled_len escaped (drop i rest)) ≡ Some i
spelled_end rest i escaped h w q =
    let next : Option ℕ = spelled_len (is_escaping escaped (get_or rest i 0)) (drop (i + 1) rest) in
    ap (λ bs. ahead i (spelled_len escaped bs)) (drop_more rest i 0 h)
    ∙ ap (λ (t : Bool). ahead i (if t then None else (if is_closing_quote escaped (get_or rest i 0) then Some 0 else one_more next))) w
    ∙ ap (λ (t : Bool). ahead i (if t then Some 0 else one_more next)) q ∙ ap Some (omega arith)

pub spelled_none : (rest : List ℕ) (i : ℕ) (escaped : Bool) → length rest ≤ i → ahead i (spelled_len escaped (drop i rest)) ≡ None
spelled_none rest i escaped h = at_drop_all (λ (bs : List ℕ). ahead i (spelled_len escaped bs)) rest i h

pub unescaped_on : (text spelling : List ℕ) (i : ℕ) (escaped : Bool) → i < length spelling
    → (text ++ part escaped (get_or spelling i 0)) ++ unescaped (is_escaping escaped (get_or spelling i 0)) (drop (i + 1) spelling)
    ≡ text ++ unescaped escaped (drop i spelling)
unescaped_on text spelling i escaped h =
    append_assoc text (part escaped (get_or spelling i 0)) _ ∙ sym (ap (λ bs. text ++ unescaped escaped bs) (drop_more spelling i 0 h))

pub unescaped_end : (text spelling : List ℕ) (i : ℕ) (escaped : Bool) → length spelling ≤ i → text ≡ text ++ unescaped escaped (drop i spelling)
unescaped_end text spelling i escaped h = sym (at_drop_all (λ (bs : List ℕ). text ++ unescaped escaped bs) spelling i h ∙ append-nil text)
