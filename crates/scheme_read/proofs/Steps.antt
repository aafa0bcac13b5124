-- One token at a time: what completes the pending before a token, is the token and what completes the pending after it.
use Rattle.std.proofs.Common.{◌≡◌, ℕ, pos, ◌+◌, ◌≤◌, Bool, true, false, List, [], ◌∷◌, ◌++◌, length, Some, inl, inr, refl, sym, ap, subst, ◌∙◌, append_assoc, arith}
use Rattle.std.proofs.lemmas.List.{append-nil}
use Rattle.scheme_data.specs.declared.datum.Place.{Place}
use Rattle.scheme_data.specs.declared.datum.Datum.{Datum}
use Rattle.scheme_data.specs.declared.datum.Datum.TheVariants as datum
use Rattle.scheme_tokens.specs.declared.token.Atom.TheVariants as atom
use Rattle.scheme_tokens.specs.declared.token.Token.{Token}
use Rattle.scheme_tokens.specs.declared.token.Word.{Word}
use Rattle.scheme_tokens.specs.declared.token.Word.TheVariants as word
use Rattle.scheme_tokens.specs.Tokens.{token}
use Rattle.scheme_read.specs.declared.reader.Frame.{Frame}
use Rattle.scheme_read.specs.declared.reader.Frame.TheVariants.{InList, AfterDot, AfterTail, InVector, AfterQuote}
use Rattle.scheme_read.specs.declared.reader.Reader.{Reader}
use Rattle.scheme_read.specs.Grammar.{Phrase, Simple, Parens, DottedParens, HashParens, Quoted, Nothing, Then, simple, quoted, joined, spell, spells, value, values, nest}
use Rattle.scheme_read.specs.Steps.{reader, feed, takes_datum, close, point, when, step}
use Rattle.scheme_read.proofs.Pending.{Shut, TailOf, Ends, After, Completes, IsSound}

-- what feed leaves pending is what After says
pub fed : (most : ℕ) (stack : List Frame) (done ds : List Datum) (d : Datum) (ts : List Token)
    → After most stack done ds d ts → Completes most (feed stack done d).stack (feed stack done d).done ds ts
fed most [] done ds d ts h = h
fed most (InList at items ∷ stack) done ds d ts h = h
fed most (AfterDot at items ∷ stack) done ds d ts h = h
fed most (AfterTail at items tail ∷ stack) done ds d ts h = absurd h
fed most (InVector at items ∷ stack) done ds d ts h = h
fed most (AfterQuote at ∷ stack) done ds d ts h = fed most stack done ds (quoted at d) ts h

pub unfed : (most : ℕ) (stack : List Frame) (done ds : List Datum) (d : Datum) (ts : List Token)
    → takes_datum stack ≡ true → IsSound stack
    → Completes most (feed stack done d).stack (feed stack done d).done ds ts → After most stack done ds d ts
unfed most [] done ds d ts b s h = h
unfed most (InList at items ∷ stack) done ds d ts b s h = h
unfed most (AfterDot at items ∷ stack) done ds d ts b s h = h
unfed most (AfterTail at items tail ∷ stack) done ds d ts b s h = absurd (cc)
unfed most (InVector at items ∷ stack) done ds d ts b s h = h
unfed most (AfterQuote at ∷ stack) done ds d ts b s h = unfed most stack done ds (quoted at d) ts s.0 s.1 h

after_takes : (most : ℕ) (stack : List Frame) (done ds : List Datum) (d : Datum) (ts : List Token)
    → After most stack done ds d ts → takes_datum stack ≡ true
after_takes most [] done ds d ts h = refl
after_takes most (InList at items ∷ stack) done ds d ts h = refl
after_takes most (AfterDot at items ∷ stack) done ds d ts h = refl
after_takes most (AfterTail at items tail ∷ stack) done ds d ts h = absurd h
after_takes most (InVector at items ∷ stack) done ds d ts h = refl
after_takes most (AfterQuote at ∷ stack) done ds d ts h = refl

-- a phrase, and then what completes the rest
pub front : (most : ℕ) (stack : List Frame) (done ds : List Datum) (p : Phrase) (rest : List Token)
    → nest p + length stack ≤ most → After most stack done ds (value p) rest → Completes most stack done ds (spell p rest)
front most [] done ds p rest n (ps, e, d, m) =
    (Then p ps, ap (spell p) e, d ∙ append_assoc done (value p ∷ []) (values ps), omega arith)
front most (InList at items ∷ stack) done ds p rest n (ps, more, e, m, h) = (
  Then p ps,
  more,
  ap (spell p) e,
  omega arith,
  subst (λ xs. Ends most (length stack + 1) at xs (After most stack done ds) more) (append_assoc items (value p ∷ []) (values ps)) h,
)
front most (AfterDot at items ∷ stack) done ds p rest n h = (p, rest, refl, omega arith, h)
front most (AfterTail at items tail ∷ stack) done ds p rest n h = absurd h
front most (InVector at items ∷ stack) done ds p rest n (ps, more, e, m, h) = (
  Then p ps,
  more,
  ap (spell p) e,
  omega arith,
  subst (λ xs. Shut (datum.Vector at xs) (After most stack done ds) more) (append_assoc items (value p ∷ []) (values ps)) h,
)
front most (AfterQuote at ∷ stack) done ds p rest n h = (p, rest, refl, omega arith, h)

-- the pending takes the token, and what follows completes what is pending then
abbrev pub Takes : ℕ → List Frame → List Datum → List Datum → Token → List Token → Type 0
Takes most stack done ds t ts = (r : Reader) × (step stack done t.at t.word ≡ Some r) × Completes most r.stack r.done ds ts

at_head : (P : Token → List Token → Type 0) (t u : Token) (ts us : List Token) → (t ∷ ts) ≡ (u ∷ us) → P u us → P t ts
at_head P t u ts us e h = let a : u ≡ t = cc in let b : us ≡ ts = cc in subst (λ us. P t us) b (subst (λ u. P u us) a h)

pub when_true : (stack : List Frame) (r : Reader) → takes_datum stack ≡ true → when (takes_datum stack) r ≡ Some r
when_true stack r e = ap (λ b. when b r) e

-- the first token of a phrase is taken
takes_phrase : (most : ℕ) (stack : List Frame) (done ds : List Datum) (p : Phrase) (rest : List Token) (t : Token) (ts : List Token)
    → nest p + length stack ≤ most → (t ∷ ts) ≡ spell p rest → After most stack done ds (value p) rest → Takes most stack done ds t ts
takes_phrase most stack done ds (Simple at a) rest t ts m e h =
    let r = feed stack done (simple at a) in
    at_head (Takes most stack done ds) t _ ts _ e (r, when_true stack r (after_takes most stack done ds _ rest h), fed most stack done ds (simple at a) rest h)
takes_phrase most stack done ds (Parens at ps end) rest t ts m e h =
    let r = reader (InList at [] ∷ stack) done in
    at_head (Takes most stack done ds) t _ ts _ e
    (r, when_true stack r (after_takes most stack done ds _ rest h), (ps, token end word.Close ∷ rest, refl, omega arith, inl (end, rest, refl, h)))
takes_phrase most stack done ds (DottedParens at p ps dot q end) rest t ts m e h =
    let r = reader (InList at [] ∷ stack) done in
    at_head (Takes most stack done ds) t _ ts _ e (
      r,
      when_true stack r (after_takes most stack done ds _ rest h),
      (
        Then p ps,
        token dot word.Dot ∷ spell q (token end word.Close ∷ rest),
        refl,
        omega arith,
        inr ((λ n. cc), dot, spell q (token end word.Close ∷ rest), refl, (q, token end word.Close ∷ rest, refl, omega arith, (end, rest, refl, h))),
      ),
    )
takes_phrase most stack done ds (HashParens at ps end) rest t ts m e h =
    let r = reader (InVector at [] ∷ stack) done in
    at_head (Takes most stack done ds) t _ ts _ e
    (r, when_true stack r (after_takes most stack done ds _ rest h), (ps, token end word.Close ∷ rest, refl, omega arith, (end, rest, refl, h)))
takes_phrase most stack done ds (Quoted at p) rest t ts m e h =
    let r = reader (AfterQuote at ∷ stack) done in
    at_head (Takes most stack done ds) t _ ts _ e (r, when_true stack r (after_takes most stack done ds _ rest h), (p, rest, refl, omega arith, h))

takes_end : (most : ℕ) (at : Place) (items : List Datum) (stack : List Frame) (done ds : List Datum) (t : Token) (ts : List Token)
    → Ends most (length stack + 1) at items (After most stack done ds) (t ∷ ts) → Takes most (InList at items ∷ stack) done ds t ts
takes_end most at items stack done ds t ts (inl (end, rest, e, h)) =
    at_head (Takes most (InList at items ∷ stack) done ds) t _ ts _ e (_, refl, fed most stack done ds (datum.List at items) rest h)
takes_end most at [] stack done ds t ts (inr (ne, dot, more, e, h)) = absurd (ne refl)
takes_end most at (i ∷ items) stack done ds t ts (inr (ne, dot, more, e, h)) =
    at_head (Takes most (InList at (i ∷ items) ∷ stack) done ds) t _ ts _ e (_, refl, h)

pub forward : (most : ℕ) (stack : List Frame) (done ds : List Datum) (t : Token) (ts : List Token)
    → Completes most stack done ds (t ∷ ts) → Takes most stack done ds t ts
forward most [] done ds t ts (Nothing, e, d, n) = absurd (cc)
forward most [] done ds t ts (Then p ps, e, d, n) =
    takes_phrase most [] done ds p (spells ps []) t ts (omega arith) e (ps, refl, d ∙ sym (append_assoc done (value p ∷ []) (values ps)), omega arith)
forward most (InList at items ∷ stack) done ds t ts (Nothing, more, e, n, h) =
    takes_end most at items stack done ds t ts
    (subst (λ more. Ends most (length stack + 1) at items (After most stack done ds) more) (sym e)
    (subst (λ xs. Ends most (length stack + 1) at xs (After most stack done ds) more) (append-nil items) h))
forward most (InList at items ∷ stack) done ds t ts (Then p ps, more, e, n, h) =
    takes_phrase most (InList at items ∷ stack) done ds p (spells ps more) t ts (omega arith) e
    (ps, more, refl, omega arith, subst (λ xs. Ends most (length stack + 1) at xs (After most stack done ds) more) (sym (append_assoc items (value p ∷ []) (values ps))) h)
forward most (AfterDot at items ∷ stack) done ds t ts (q, more, e, n, h) =
    takes_phrase most (AfterDot at items ∷ stack) done ds q more t ts (omega arith) e h
forward most (AfterTail at items tail ∷ stack) done ds t ts (end, rest, e, h) =
    at_head (Takes most (AfterTail at items tail ∷ stack) done ds) t _ ts _ e (_, refl, fed most stack done ds (joined at items tail) rest h)
forward most (InVector at items ∷ stack) done ds t ts (Nothing, more, e, n, (end, rest, f, h)) =
    at_head (Takes most (InVector at items ∷ stack) done ds) t _ ts _ (e ∙ f) (
      _,
      refl,
      fed most stack done ds (datum.Vector at items) rest
          (subst (λ xs. After most stack done ds (datum.Vector at xs) rest) (append-nil items) h),
    )
forward most (InVector at items ∷ stack) done ds t ts (Then p ps, more, e, n, h) =
    takes_phrase most (InVector at items ∷ stack) done ds p (spells ps more) t ts (omega arith) e
    (ps, more, refl, omega arith, subst (λ xs. Shut (datum.Vector at xs) (After most stack done ds) more) (sym (append_assoc items (value p ∷ []) (values ps))) h)
forward most (AfterQuote at ∷ stack) done ds t ts (p, rest, e, n, h) = takes_phrase most (AfterQuote at ∷ stack) done ds p rest t ts (omega arith) e h

pub when_is : (b : Bool) (r s : Reader) → when b r ≡ Some s → (b ≡ true) × (r ≡ s)
when_is true r s e = (refl, cc)
when_is false r s e = absurd (cc)

pub got : (most : ℕ) (r s : Reader) (ds : List Datum) (ts : List Token) → r ≡ s → Completes most s.stack s.done ds ts → Completes most r.stack r.done ds ts
got most r s ds ts e h = subst (λ (r : Reader). Completes most r.stack r.done ds ts) (sym e) h

pub some_is : (r s : Reader) → Some r ≡ Some s → r ≡ s
some_is r s e = cc

-- a list that begins here
back_list : (most : ℕ) (stack : List Frame) (done ds : List Datum) (at : Place) (ts : List Token) → length stack ≤ most
    → Completes most (InList at [] ∷ stack) done ds ts → Completes most stack done ds (token at word.Open ∷ ts)
back_list most stack done ds at ts m (ps, more, e, n, inl (end, rest, f, h)) =
    subst (λ ts. Completes most stack done ds (token at word.Open ∷ ts)) (sym (e ∙ ap (spells ps) f))
    (front most stack done ds (Parens at ps end) rest (omega arith) h)
back_list most stack done ds at ts m (Nothing, more, e, n, inr (ne, dot, more2, f, h)) = absurd (ne refl)
back_list most stack done ds at ts m (Then p ps, more, e, n, inr (ne, dot, more2, f, (q, more3, g, k, (end, rest, i, h)))) =
    subst (λ ts. Completes most stack done ds (token at word.Open ∷ ts))
    (sym (e ∙ ap (spells (Then p ps)) (f ∙ ap (λ ts. token dot word.Dot ∷ ts) (g ∙ ap (spell q) i))))
    (front most stack done ds (DottedParens at p ps dot q end) rest (omega arith) h)

back_vector : (most : ℕ) (stack : List Frame) (done ds : List Datum) (at : Place) (ts : List Token) → length stack ≤ most
    → Completes most (InVector at [] ∷ stack) done ds ts → Completes most stack done ds (token at word.OpenVector ∷ ts)
back_vector most stack done ds at ts m (ps, more, e, n, (end, rest, f, h)) =
    subst (λ ts. Completes most stack done ds (token at word.OpenVector ∷ ts)) (sym (e ∙ ap (spells ps) f))
    (front most stack done ds (HashParens at ps end) rest (omega arith) h)

back_quote : (most : ℕ) (stack : List Frame) (done ds : List Datum) (at : Place) (ts : List Token) → length stack ≤ most
    → Completes most (AfterQuote at ∷ stack) done ds ts → Completes most stack done ds (token at word.Quote ∷ ts)
back_quote most stack done ds at ts m (p, rest, e, n, h) =
    subst (λ ts. Completes most stack done ds (token at word.Quote ∷ ts)) (sym e) (front most stack done ds (Quoted at p) rest (omega arith) h)

back_close : (most : ℕ) (stack : List Frame) (done ds : List Datum) (at : Place) (ts : List Token) (r : Reader) → length stack ≤ most → IsSound stack
    → close stack done ≡ Some r → Completes most r.stack r.done ds ts → Completes most stack done ds (token at word.Close ∷ ts)
back_close most [] done ds at ts r m s e h = absurd (cc)
back_close most (InList o items ∷ stack) done ds at ts r m s e h = (
  Nothing,
  token at word.Close ∷ ts,
  refl,
  omega arith,
  inl (
    at,
    ts,
    refl,
    subst (λ xs. After most stack done ds (datum.List o xs) ts) (sym (append-nil items))
        (unfed most stack done ds (datum.List o items) ts s.0 s.1 (got most _ r ds ts (some_is _ r e) h)),
  ),
)
back_close most (AfterDot o items ∷ stack) done ds at ts r m s e h = absurd (cc)
back_close most (AfterTail o items tail ∷ stack) done ds at ts r m s e h =
    (at, ts, refl, unfed most stack done ds (joined o items tail) ts s.0 s.1 (got most _ r ds ts (some_is _ r e) h))
back_close most (InVector o items ∷ stack) done ds at ts r m s e h = (
  Nothing,
  token at word.Close ∷ ts,
  refl,
  omega arith,
  (
    at,
    ts,
    refl,
    subst (λ xs. After most stack done ds (datum.Vector o xs) ts) (sym (append-nil items))
        (unfed most stack done ds (datum.Vector o items) ts s.0 s.1 (got most _ r ds ts (some_is _ r e) h)),
  ),
)
back_close most (AfterQuote o ∷ stack) done ds at ts r m s e h = absurd (cc)

back_point : (most : ℕ) (stack : List Frame) (done ds : List Datum) (at : Place) (ts : List Token) (r : Reader) → length stack ≤ most
    → point stack done ≡ Some r → Completes most r.stack r.done ds ts → Completes most stack done ds (token at word.Dot ∷ ts)
back_point most [] done ds at ts r m e h = absurd (cc)
back_point most (InList o [] ∷ stack) done ds at ts r m e h = absurd (cc)
back_point most (InList o (i ∷ items) ∷ stack) done ds at ts r m e h = (
  Nothing,
  token at word.Dot ∷ ts,
  refl,
  omega arith,
  inr (
    (λ n. cc),
    at,
    ts,
    refl,
    subst (λ xs. TailOf most (length stack + 1) o xs (After most stack done ds) ts) (sym (append-nil (i ∷ items))) (got most _ r ds ts (some_is _ r e) h),
  ),
)
back_point most (AfterDot o items ∷ stack) done ds at ts r m e h = absurd (cc)
back_point most (AfterTail o items tail ∷ stack) done ds at ts r m e h = absurd (cc)
back_point most (InVector o items ∷ stack) done ds at ts r m e h = absurd (cc)
back_point most (AfterQuote o ∷ stack) done ds at ts r m e h = absurd (cc)

pub back : (most : ℕ) (stack : List Frame) (done ds : List Datum) (at : Place) (w : Word) (ts : List Token) → length stack ≤ most → IsSound stack
    → Takes most stack done ds (token at w) ts → Completes most stack done ds (token at w ∷ ts)
back most stack done ds at word.Open ts m s (r, e, h) =
    let k = when_is _ _ r e in back_list most stack done ds at ts m (got most _ r ds ts k.1 h)
back most stack done ds at word.OpenVector ts m s (r, e, h) =
    let k = when_is _ _ r e in back_vector most stack done ds at ts m (got most _ r ds ts k.1 h)
back most stack done ds at word.Close ts m s (r, e, h) = back_close most stack done ds at ts r m s e h
back most stack done ds at word.Quote ts m s (r, e, h) =
    let k = when_is _ _ r e in back_quote most stack done ds at ts m (got most _ r ds ts k.1 h)
back most stack done ds at word.Dot ts m s (r, e, h) = back_point most stack done ds at ts r m e h
back most stack done ds at (word.Atom a) ts m s (r, e, h) =
    let k = when_is _ _ r e in
    front most stack done ds (Simple at a) ts (omega arith) (unfed most stack done ds (simple at a) ts k.0 s (got most _ r ds ts k.1 h))
back most stack done ds at word.Bad ts m s (r, e, h) = absurd (cc)

-- whatever is pending, something completes it
after_alive : (most : ℕ) (stack : List Frame) (done : List Datum) (d : Datum) → length stack ≤ most → takes_datum stack ≡ true → IsSound stack
    → (more : List Token) × (ds : List Datum) × After most stack done ds d more
after_alive most [] done d m b s = ([], done ++ d ∷ [], (Nothing, refl, sym (append-nil (done ++ d ∷ [])), omega arith))
after_alive most (InList at items ∷ stack) done d m b s =
    let r = after_alive most stack done (datum.List at ((items ++ d ∷ []) ++ [])) (omega arith) s.0 s.1 in
    (token at word.Close ∷ r.0, r.1, (Nothing, token at word.Close ∷ r.0, refl, omega arith, inl (at, r.0, refl, r.2)))
after_alive most (AfterDot at items ∷ stack) done d m b s =
    let r = after_alive most stack done (joined at items d) (omega arith) s.0 s.1 in
    (token at word.Close ∷ r.0, r.1, (at, r.0, refl, r.2))
after_alive most (AfterTail at items tail ∷ stack) done d m b s = absurd (cc)
after_alive most (InVector at items ∷ stack) done d m b s =
    let r = after_alive most stack done (datum.Vector at ((items ++ d ∷ []) ++ [])) (omega arith) s.0 s.1 in
    (token at word.Close ∷ r.0, r.1, (Nothing, token at word.Close ∷ r.0, refl, omega arith, (at, r.0, refl, r.2)))
after_alive most (AfterQuote at ∷ stack) done d m b s = after_alive most stack done (quoted at d) (omega arith) s.0 s.1

pub alive : (most : ℕ) (stack : List Frame) (done : List Datum) → length stack ≤ most → IsSound stack
    → (more : List Token) × (ds : List Datum) × Completes most stack done ds more
alive most [] done m s = ([], done, (Nothing, refl, sym (append-nil done), omega arith))
alive most (InList at items ∷ stack) done m s =
    let r = after_alive most stack done (datum.List at (items ++ [])) (omega arith) s.0 s.1 in
    (token at word.Close ∷ r.0, r.1, (Nothing, token at word.Close ∷ r.0, refl, omega arith, inl (at, r.0, refl, r.2)))
alive most (AfterDot at items ∷ stack) done m s =
    let r = after_alive most stack done (joined at items (simple at (atom.Int (pos 0)))) (omega arith) s.0 s.1 in
    (token at (word.Atom (atom.Int (pos 0))) ∷ token at word.Close ∷ r.0, r.1, (Simple at (atom.Int (pos 0)), token at word.Close ∷ r.0, refl, omega arith, (at, r.0, refl, r.2)))
alive most (AfterTail at items tail ∷ stack) done m s =
    let r = after_alive most stack done (joined at items tail) (omega arith) s.0 s.1 in
    (token at word.Close ∷ r.0, r.1, (at, r.0, refl, r.2))
alive most (InVector at items ∷ stack) done m s =
    let r = after_alive most stack done (datum.Vector at (items ++ [])) (omega arith) s.0 s.1 in
    (token at word.Close ∷ r.0, r.1, (Nothing, token at word.Close ∷ r.0, refl, omega arith, (at, r.0, refl, r.2)))
alive most (AfterQuote at ∷ stack) done m s =
    let r = after_alive most stack done (quoted at (simple at (atom.Int (pos 0)))) (omega arith) s.0 s.1 in
    (token at (word.Atom (atom.Int (pos 0))) ∷ r.0, r.1, (Simple at (atom.Int (pos 0)), r.0, refl, omega arith, r.2))
