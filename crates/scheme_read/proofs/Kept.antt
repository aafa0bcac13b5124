-- What is pending stays sound, and changes with each token as it is to.
use Rattle.std.proofs.Common.{◌≡◌, ℕ, ◌≤◌, ◌<◌, max, true, List, [], ◌∷◌, ◌++◌, length, Some, None, inl, inr, Result, Ok, Err, OnOk, refl, sym, subst, ◌∙◌, append_assoc, arith}
use Rattle.std.proofs.lemmas.List.{append-nil}
use Rattle.scheme_data.specs.declared.datum.Place.{Place}
use Rattle.scheme_data.specs.declared.datum.Datum.{Datum}
use Rattle.scheme_data.specs.declared.datum.Datum.TheVariants as datum
use Rattle.scheme_tokens.specs.declared.token.Token.{Token}
use Rattle.scheme_tokens.specs.declared.token.Word.{Word}
use Rattle.scheme_tokens.specs.declared.token.Word.TheVariants as word
use Rattle.scheme_read.specs.declared.error.ReadErr.{ReadErr}
use Rattle.scheme_read.specs.declared.reader.Frame.{Frame}
use Rattle.scheme_read.specs.declared.reader.Frame.TheVariants.{InList, AfterDot, AfterTail, InVector, AfterQuote}
use Rattle.scheme_read.specs.declared.reader.Reader.{Reader}
use Rattle.scheme_read.specs.Grammar.{Phrase, Phrases, Simple, Parens, DottedParens, HashParens, Quoted, Nothing, Then, quoted, joined, spell, spells, values, nests, Spelled, SpelledIn, IsViable, IsViableIn}
use Rattle.scheme_read.specs.Steps.{reader, feed, takes_datum, close, point, when, step, Closed, Fed}
use Rattle.scheme_read.proofs.Pending.{Completes, IsSound, IsPending}
use Rattle.scheme_read.proofs.Steps.{forward, back, alive, got, some_is, when_is}

-- Soundness of what is pending is kept.

sound_fed : (stack : List Frame) (done : List Datum) (d : Datum) → IsSound stack → IsSound (feed stack done d).stack
sound_fed [] done d s = tt
sound_fed (InList at items ∷ stack) done d s = s
sound_fed (AfterDot at items ∷ stack) done d s = s
sound_fed (AfterTail at items tail ∷ stack) done d s = s
sound_fed (InVector at items ∷ stack) done d s = s
sound_fed (AfterQuote at ∷ stack) done d s = sound_fed stack done (quoted at d) s.1

sound_is : (r s : Reader) → r ≡ s → IsSound r.stack → IsSound s.stack
sound_is r s e h = subst (λ (r : Reader). IsSound r.stack) e h

sound_close : (stack : List Frame) (done : List Datum) (r : Reader) → IsSound stack → close stack done ≡ Some r → IsSound r.stack
sound_close [] done r s e = absurd (cc)
sound_close (InList at items ∷ stack) done r s e = sound_is _ r (some_is _ r e) (sound_fed stack done _ s.1)
sound_close (AfterDot at items ∷ stack) done r s e = absurd (cc)
sound_close (AfterTail at items tail ∷ stack) done r s e = sound_is _ r (some_is _ r e) (sound_fed stack done _ s.1)
sound_close (InVector at items ∷ stack) done r s e = sound_is _ r (some_is _ r e) (sound_fed stack done _ s.1)
sound_close (AfterQuote at ∷ stack) done r s e = absurd (cc)

sound_point : (stack : List Frame) (done : List Datum) (r : Reader) → IsSound stack → point stack done ≡ Some r → IsSound r.stack
sound_point [] done r s e = absurd (cc)
sound_point (InList at [] ∷ stack) done r s e = absurd (cc)
sound_point (InList at (i ∷ items) ∷ stack) done r s e = sound_is (reader (AfterDot at (i ∷ items) ∷ stack) done) r (some_is _ r e) s
sound_point (AfterDot at items ∷ stack) done r s e = absurd (cc)
sound_point (AfterTail at items tail ∷ stack) done r s e = absurd (cc)
sound_point (InVector at items ∷ stack) done r s e = absurd (cc)
sound_point (AfterQuote at ∷ stack) done r s e = absurd (cc)

pub sound_step : (stack : List Frame) (done : List Datum) (at : Place) (w : Word) (r : Reader) → IsSound stack → step stack done at w ≡ Some r → IsSound r.stack
sound_step stack done at word.Open r s e = let k = when_is _ _ r e in sound_is (reader (InList at [] ∷ stack) done) r k.1 (k.0, s)
sound_step stack done at word.OpenVector r s e = let k = when_is _ _ r e in sound_is (reader (InVector at [] ∷ stack) done) r k.1 (k.0, s)
sound_step stack done at word.Close r s e = sound_close stack done r s e
sound_step stack done at word.Quote r s e = let k = when_is _ _ r e in sound_is (reader (AfterQuote at ∷ stack) done) r k.1 (k.0, s)
sound_step stack done at word.Dot r s e = sound_point stack done r s e
sound_step stack done at (word.Atom a) r s e = let k = when_is _ _ r e in sound_is _ r k.1 (sound_fed stack done _ s)
sound_step stack done at word.Bad r s e = absurd (cc)

-- No token but an opening leaves more open than before.

low_feed : (stack : List Frame) (done : List Datum) (d : Datum) → length (feed stack done d).stack ≤ length stack
low_feed [] done d = omega arith
low_feed (InList at items ∷ stack) done d = omega arith
low_feed (AfterDot at items ∷ stack) done d = omega arith
low_feed (AfterTail at items tail ∷ stack) done d = omega arith
low_feed (InVector at items ∷ stack) done d = omega arith
low_feed (AfterQuote at ∷ stack) done d = let h = low_feed stack done (quoted at d) in omega arith

low_is : (r s : Reader) (n : ℕ) → r ≡ s → length r.stack ≤ n → length s.stack ≤ n
low_is r s n e h = subst (λ (r : Reader). length r.stack ≤ n) e h

low_close : (stack : List Frame) (done : List Datum) (r : Reader) → length stack ≤ 200 → close stack done ≡ Some r → length r.stack ≤ 200
low_close [] done r n e = absurd (cc)
low_close (InList at items ∷ stack) done r n e = let h = low_feed stack done (datum.List at items) in low_is _ r 200 (some_is _ r e) (omega arith)
low_close (AfterDot at items ∷ stack) done r n e = absurd (cc)
low_close (AfterTail at items tail ∷ stack) done r n e = let h = low_feed stack done (joined at items tail) in low_is _ r 200 (some_is _ r e) (omega arith)
low_close (InVector at items ∷ stack) done r n e = let h = low_feed stack done (datum.Vector at items) in low_is _ r 200 (some_is _ r e) (omega arith)
low_close (AfterQuote at ∷ stack) done r n e = absurd (cc)

low_put : (stack : List Frame) (done : List Datum) (d : Datum) (r : Reader) → length stack ≤ 200 → when (takes_datum stack) (feed stack done d) ≡ Some r → length r.stack ≤ 200
low_put stack done d r n e =
    let k = when_is _ _ r e in
    let h = low_feed stack done d in
    low_is _ r 200 k.1 (omega arith)

pub closed_low : (old : Reader) (at : Place) (result : Result (Unit {0}) ReadErr) (new : Reader) → Closed old at result new
    → OnOk result (length old.stack ≤ 200 → length new.stack ≤ 200)
closed_low old at (Ok u) new h = λ n. low_close old.stack old.done new n h
closed_low old at (Err e) new h = tt

pub put_low : (old : Reader) (at : Place) (d : Datum) (result : Result (Unit {0}) ReadErr) (new : Reader) → Fed old at d result new
    → OnOk result (length old.stack ≤ 200 → length new.stack ≤ 200)
put_low old at d (Ok u) new h = λ n. low_put old.stack old.done d new n h
put_low old at d (Err e) new h = tt

pub pending_start : IsPending [] 0 (reader [] [])
pending_start = record {
  sound = tt;
  low = omega arith;
  same = λ most m others ds.
      ((λ h. record { phrases = h.0; tokens_are = h.1; data_are = h.2; low = h.3 }), (λ h. (h.phrases, h.tokens_are, h.data_are, h.low)));
}

pub pending_step : (before : List Token) (peak : ℕ) (r s : Reader) (t : Token)
    → IsPending before peak r → step r.stack r.done t.at t.word ≡ Some s → IsPending (before ++ t ∷ []) (max peak (length s.stack)) s
pending_step before peak r s t p e = record {
  sound = sound_step r.stack r.done t.at t.word s p.sound e;
  low = omega arith;
  same = λ most m others ds.
      let regroup : (before ++ t ∷ []) ++ others ≡ before ++ t ∷ others = append_assoc before (t ∷ []) others in
      let high : peak ≤ most = omega arith in
      let low : length r.stack ≤ most = omega (arith, p.low) in
      let both = p.same most high (t ∷ others) ds in (
        (λ k. subst (λ ts. SpelledIn most ts ds) (sym regroup) (both.0 (back most r.stack r.done ds t.at t.word others low p.sound (s, e, k)))),
        (λ k.
            let f = forward most r.stack r.done ds t others (both.1 (subst (λ ts. SpelledIn most ts ds) regroup k)) in
            got most s f.0 ds others (some_is s f.0 (sym e ∙ f.1)) f.2),
      );
}

pub viable_in : (before : List Token) (peak most : ℕ) (r : Reader) → IsPending before peak r → peak ≤ most → IsViableIn most before
viable_in before peak most r p m =
    let low : length r.stack ≤ most = omega (arith, p.low) in
    let a = alive most r.stack r.done low p.sound in
    record { others = a.0; values = a.1; spelled = (p.same most m a.0 a.1).0 a.2 }

pub of_in : (most : ℕ) (ts : List Token) (ds : List Datum) → SpelledIn most ts ds → Spelled ts ds
of_in most ts ds h = record { phrases = h.phrases; tokens_are = h.tokens_are; data_are = h.data_are }

pub viable_all : (most : ℕ) (ts : List Token) → IsViableIn most ts → IsViable ts
viable_all most ts v = record { others = v.others; values = v.values; spelled = of_in most (ts ++ v.others) v.values v.spelled }

-- no nesting is too deep for what isn't limited
some_in : (least : ℕ) (ts : List Token) (ds : List Datum) → Spelled ts ds → (most : ℕ) × (least ≤ most) × SpelledIn most ts ds
some_in least ts ds h =
    (max least (nests h.phrases), omega arith, record { phrases = h.phrases; tokens_are = h.tokens_are; data_are = h.data_are; low = omega arith })

-- a token that isn't taken leaves nothing that completes the tokens
pub stuck : (before : List Token) (peak : ℕ) (r : Reader) (t : Token)
    → IsPending before peak r → step r.stack r.done t.at t.word ≡ None → IsViable (before ++ t ∷ []) → ⊥
stuck before peak r t p e v =
    let regroup : (before ++ t ∷ []) ++ v.others ≡ before ++ t ∷ v.others = append_assoc before (t ∷ []) v.others in
    let i = some_in peak (before ++ t ∷ v.others) v.values (subst (λ ts. Spelled ts v.values) regroup v.spelled) in
    let f = forward i.0 r.stack r.done v.values t v.others ((p.same i.0 i.1 (t ∷ v.others) v.values).1 i.2) in
    let bad : None ≡ Some f.0 = sym e ∙ f.1 in
    absurd (cc)

-- what begins something is bounded
bounded : (most : ℕ) (stack : List Frame) (done ds : List Datum) (ts : List Token)
    → takes_datum stack ≡ true → Completes most stack done ds ts → length stack ≤ most
bounded most [] done ds ts b h = omega arith
bounded most (InList at items ∷ stack) done ds ts b (ps, more, e, n, h) = omega arith
bounded most (AfterDot at items ∷ stack) done ds ts b (q, more, e, n, h) = omega arith
bounded most (AfterTail at items tail ∷ stack) done ds ts b h = absurd (cc)
bounded most (InVector at items ∷ stack) done ds ts b (ps, more, e, n, h) = omega arith
bounded most (AfterQuote at ∷ stack) done ds ts b (p, more, e, n, h) = omega arith

-- one opening too many, which no data of the nesting complete
pub too_deep : (before : List Token) (peak most : ℕ) (r s : Reader) (t : Token)
    → IsPending before peak r → peak ≤ most → step r.stack r.done t.at t.word ≡ Some s → takes_datum s.stack ≡ true → most < length s.stack
    → IsViableIn most (before ++ t ∷ []) → ⊥
too_deep before peak most r s t p m e b high v =
    let regroup : (before ++ t ∷ []) ++ v.others ≡ before ++ t ∷ v.others = append_assoc before (t ∷ []) v.others in
    let f = forward most r.stack r.done v.values t v.others ((p.same most m (t ∷ v.others) v.values).1 (subst (λ ts. SpelledIn most ts v.values) regroup v.spelled)) in
    let k = got most s f.0 v.values v.others (some_is s f.0 (sym e ∙ f.1)) f.2 in
    let low : length s.stack ≤ most = bounded most s.stack s.done v.values v.others b k in
    absurd (omega arith)

pub taken_viable : (before : List Token) (peak : ℕ) (r s : Reader) (t : Token)
    → IsPending before peak r → step r.stack r.done t.at t.word ≡ Some s → IsViable (before ++ t ∷ [])
taken_viable before peak r s t p e =
    let most : ℕ = max peak (length s.stack) in
    viable_all most (before ++ t ∷ []) (viable_in (before ++ t ∷ []) most most s (pending_step before peak r s t p e) (omega arith))

-- At the end of the tokens.

pub pending_done : (before : List Token) (peak most : ℕ) (done : List Datum) → IsPending before peak (reader [] done) → peak ≤ most → SpelledIn most before done
pending_done before peak most done p m =
    subst (λ ts. SpelledIn most ts done) (append-nil before) ((p.same most m [] done).0 (Nothing, refl, sym (append-nil done), omega arith))

some_phrase : (p : Phrase) (rest : List Token) → [] ≡ spell p rest → ⊥
some_phrase (Simple at a) rest e = absurd (cc)
some_phrase (Parens at ps end) rest e = absurd (cc)
some_phrase (DottedParens at p ps dot q end) rest e = absurd (cc)
some_phrase (HashParens at ps end) rest e = absurd (cc)
some_phrase (Quoted at p) rest e = absurd (cc)

some_left : (ps : Phrases) (rest : List Token) → [] ≡ spells ps rest → [] ≡ rest
some_left Nothing rest e = e
some_left (Then p ps) rest e = absurd (some_phrase p (spells ps rest) e)

no_close : (t : Token) (rest more : List Token) → [] ≡ more → more ≡ t ∷ rest → ⊥
no_close t rest more e f = let bad : [] ≡ t ∷ rest = e ∙ f in absurd (cc)

-- what is open isn't complete
still_open : (most : ℕ) (f : Frame) (stack : List Frame) (done ds : List Datum) → Completes most (f ∷ stack) done ds [] → ⊥
still_open most (InList at items) stack done ds (ps, more, e, n, inl (end, rest, g, h)) = no_close _ rest more (some_left ps more e) g
still_open most (InList at items) stack done ds (ps, more, e, n, inr (ne, dot, more2, g, h)) = no_close _ more2 more (some_left ps more e) g
still_open most (AfterDot at items) stack done ds (q, more, e, n, h) = some_phrase q more e
still_open most (AfterTail at items tail) stack done ds (end, rest, e, h) = absurd (cc)
still_open most (InVector at items) stack done ds (ps, more, e, n, (end, rest, g, h)) = no_close _ rest more (some_left ps more e) g
still_open most (AfterQuote at) stack done ds (p, more, e, n, h) = some_phrase p more e

pub pending_short : (before : List Token) (peak : ℕ) (f : Frame) (stack : List Frame) (done ds : List Datum)
    → IsPending before peak (reader (f ∷ stack) done) → Spelled before ds → ⊥
pending_short before peak f stack done ds p k =
    let i = some_in peak before ds k in
    still_open i.0 f stack done ds ((p.same i.0 i.1 [] ds).1 (subst (λ ts. SpelledIn i.0 ts ds) (sym (append-nil before)) i.2))

-- the same tokens complete what is pending to the same data

spells_none : (ps : Phrases) (done ds : List Datum) → [] ≡ spells ps [] → ds ≡ done ++ values ps → ds ≡ done
spells_none Nothing done ds e d = d ∙ append-nil done
spells_none (Then p ps) done ds e d = absurd (some_phrase p (spells ps []) e)

same_data : (most : ℕ) (ts : List Token) (stack : List Frame) (done ds es : List Datum)
    → Completes most stack done ds ts → Completes most stack done es ts → ds ≡ es
same_data most [] [] done ds es h k = spells_none h.0 done ds h.1 h.2 ∙ sym (spells_none k.0 done es k.1 k.2)
same_data most [] (f ∷ stack) done ds es h k = absurd (still_open most f stack done ds h)
same_data most (t ∷ ts) stack done ds es h k =
    let f = forward most stack done ds t ts h in
    let g = forward most stack done es t ts k in
    same_data most ts f.0.stack f.0.done ds es f.2 (got most f.0 g.0 es ts (some_is f.0 g.0 (sym f.1 ∙ g.1)) g.2)

pub spelled_one : (most : ℕ) (ts : List Token) (ds es : List Datum) → SpelledIn most ts ds → SpelledIn most ts es → ds ≡ es
spelled_one most ts ds es h k =
    same_data most ts [] [] ds es (h.phrases, h.tokens_are, h.data_are, h.low) (k.phrases, k.tokens_are, k.data_are, k.low)

pub takes_top : (f : Frame) (stack : List Frame) → takes_datum (f ∷ []) ≡ true → takes_datum (f ∷ stack) ≡ true
takes_top (InList at items) stack e = refl
takes_top (AfterDot at items) stack e = refl
takes_top (AfterTail at items tail) stack e = absurd (cc)
takes_top (InVector at items) stack e = refl
takes_top (AfterQuote at) stack e = refl
