-- In the middle of a text: the tokens before are pending, and those left go on from them.
use Rattle.std.proofs.Common.{◌≡◌, ℕ, zero, suc, ◌+◌, ◌-◌, ◌<◌, ◌≤◌, max, List, [], ◌∷◌, ◌++◌, inl, inr, Some, Err, length, drop, take, get_or, refl, sym, ap, subst, ◌∙◌, append_assoc, arith}
use Rattle.std.proofs.lemmas.List.{append-nil, drop_more, at_drop_all, length-drop, take_all}
use Rattle.scheme_data.specs.declared.datum.Place.{Place}
use Rattle.scheme_data.specs.declared.datum.LimitKind.TheVariants.{Bytes, Depth, Expansions, Filled}
use Rattle.scheme_data.specs.declared.datum.Datum.{Datum}
use Rattle.scheme_tokens.specs.declared.lex.Lexeme.{Lexeme}
use Rattle.scheme_tokens.specs.declared.token.Token.{Token}
use Rattle.scheme_tokens.specs.Lexemes.{lexeme}
use Rattle.scheme_data.specs.Places.{after, end, end_from}
use Rattle.scheme_tokens.specs.Tokens.{emit, tokens, tokens_from}
use Rattle.scheme_read.specs.declared.error.ReadErr.{ReadErr}
use Rattle.scheme_read.specs.declared.error.ReadErr.TheVariants.{Syntax, Limit, Memory}
use Rattle.scheme_read.specs.declared.reader.Frame.{Frame}
use Rattle.scheme_read.specs.declared.reader.Reader.{Reader}
use Rattle.scheme_read.specs.Answers.{IsSource, IsFault, Reads}
use Rattle.scheme_read.specs.Grammar.{SpelledIn, IsShort}
use Rattle.scheme_read.specs.Steps.{reader, step, Took, IsTooDeep}
use Rattle.scheme_read.proofs.Kept.{pending_start, pending_step, pending_done, pending_short, viable_in, stuck, too_deep, taken_viable}
use Rattle.scheme_read.proofs.Pending.{IsPending}

pub record IsMiddle (bytes : List ℕ) (left : List Token) (r : Reader) : Type 0 where
  pub front : List Token
  pub joined : front ++ left ≡ tokens bytes
  pub peak : ℕ
  pub shallow : peak ≤ 200
  pub pending : IsPending front peak r

pub middle_start : (bytes : List ℕ) (stack : List Frame) (done : List Datum) → stack ≡ [] → done ≡ [] → IsMiddle bytes (tokens bytes) (reader stack done)
middle_start bytes stack done e f = rw (e, f) (record { front = []; joined = refl; peak = 0; shallow = omega arith; pending = pending_start })

pub middle_low : (bytes : List ℕ) (left : List Token) (r : Reader) → IsMiddle bytes left r → length r.stack ≤ 200
middle_low bytes left r m = omega (arith, m.shallow, m.pending.low)

pub middle_step : (bytes : List ℕ) (left : List Token) (t : Token) (r s : Reader)
    → IsMiddle bytes (t ∷ left) r → step r.stack r.done t.at t.word ≡ Some s → length s.stack ≤ 200 → IsMiddle bytes left s
middle_step bytes left t r s m e low = record {
  front = m.front ++ t ∷ [];
  joined = append_assoc m.front (t ∷ []) left ∙ m.joined;
  peak = max m.peak (length s.stack);
  shallow = omega (arith, m.shallow, low);
  pending = pending_step m.front m.peak r s t m.pending e;
}

pub moved : (bytes : List ℕ) (left left' : List Token) (r r' : Reader) → IsMiddle bytes left r → left ≡ left' → r ≡ r' → IsMiddle bytes left' r'
moved bytes left left' r r' m e f = subst (λ l. IsMiddle bytes l r') e (subst (λ r. IsMiddle bytes left r) f m)

-- a token that the reader can't take
pub took_not : (bytes : List ℕ) (left : List Token) (t : Token) (r s : Reader) (e : ReadErr) → length bytes ≤ 1048576
    → IsMiddle bytes (t ∷ left) r → Took r t (Err e) s → Reads bytes (Err e)
took_not bytes left t r s (Syntax at) n m h = (
  n,
  inl (record {
    front = m.front;
    wrong = t;
    rest = left;
    split = sym m.joined;
    viable = viable_in m.front m.peak 200 r m.pending m.shallow;
    stuck = stuck m.front m.peak r t m.pending h.0;
    place = h.1;
  }),
)
took_not bytes left t r s (Limit Bytes at) n m h = absurd h
took_not bytes left t r s (Limit Depth at) n m h =
    let d : IsTooDeep (step r.stack r.done t.at t.word) = h.0 in (
      n,
      record {
        front = m.front;
        opening = t;
        rest = left;
        split = sym m.joined;
        viable = viable_in m.front m.peak 200 r m.pending m.shallow;
        deep = too_deep m.front m.peak 200 r d.reached t m.pending m.shallow d.next_is d.begun d.deep;
        completed = taken_viable m.front m.peak r d.reached t m.pending d.next_is;
        place = h.1;
      },
    )
took_not bytes left t r s (Limit Expansions at) n m h = absurd h
took_not bytes left t r s (Limit Filled at) n m h = absurd h
took_not bytes left t r s Memory n m h = tt

at_end : (bytes : List ℕ) (r : Reader) → (m : IsMiddle bytes [] r) → m.front ≡ tokens bytes
at_end bytes r m = sym (append-nil m.front) ∙ m.joined

pub ended_well : (bytes : List ℕ) (left : List Token) (r : Reader) → length bytes ≤ 1048576 → IsMiddle bytes left r → left ≡ [] → r.stack ≡ [] → IsSource bytes r.done
ended_well bytes left r n m e f =
    let k : IsMiddle bytes [] (reader [] r.done) = subst (λ s. IsMiddle bytes [] (reader s r.done)) f (subst (λ l. IsMiddle bytes l r) e m) in
    record {
      short = n;
      spelled = subst (λ ts. SpelledIn 200 ts r.done) (at_end bytes (reader [] r.done) k) (pending_done k.front k.peak 200 r.done k.pending k.shallow);
    }

short : (bytes : List ℕ) (stack : List Frame) (done : List Datum) → IsMiddle bytes [] (reader stack done) → (stack ≡ [] → ⊥) → IsShort 200 (tokens bytes)
short bytes [] done m n = absurd (n refl)
short bytes (f ∷ stack) done m n =
    let e = at_end bytes (reader (f ∷ stack) done) m in
    subst (IsShort 200) e (record {
      viable = viable_in m.front m.peak 200 (reader (f ∷ stack) done) m.pending m.shallow;
      unread = λ ds h. pending_short m.front m.peak f stack done ds m.pending h;
    })

pub ended_short : (bytes : List ℕ) (left : List Token) (r : Reader) (at : Place) → length bytes ≤ 1048576
    → IsMiddle bytes left r → left ≡ [] → (r.stack ≡ [] → ⊥) → at ≡ end bytes → IsFault bytes (Syntax at)
ended_short bytes left r at n m e f p = (n, inr (short bytes r.stack r.done (subst (λ l. IsMiddle bytes l r) e m) f, p))

none : (skip : ℕ) (at : Place) → tokens_from skip at [] ≡ []
none zero at = refl
none (suc skip) at = refl

pub none_left : (bytes : List ℕ) (i skip : ℕ) (at : Place) → length bytes ≤ i → tokens_from skip at (drop i bytes) ≡ []
none_left bytes i skip at h = at_drop_all (tokens_from skip at) bytes i h ∙ none skip at

pub end_left : (bytes : List ℕ) (i : ℕ) (at : Place) → length bytes ≤ i → end_from at (drop i bytes) ≡ at
end_left bytes i at h = at_drop_all (end_from at) bytes i h

-- `&bytes[i..]`
pub rest_is : (i : ℕ) (bytes : List ℕ) → take (length bytes - i) (drop i bytes) ≡ drop i bytes
rest_is i bytes = take_all (length bytes - i) (drop i bytes) (omega (arith, length-drop i bytes))

-- one byte on

pub skipped : (bytes : List ℕ) (i skip : ℕ) (at : Place) → i < length bytes → 0 < skip
    → tokens_from skip at (drop i bytes) ≡ tokens_from (skip - 1) (after at (get_or bytes i 0)) (drop (i + 1) bytes)
skipped bytes i skip at h p = ap (tokens_from skip at) (drop_more bytes i 0 h) ∙ go skip p
  where
    go : (skip : ℕ) → 0 < skip → tokens_from skip at (get_or bytes i 0 ∷ drop (i + 1) bytes) ≡ tokens_from (skip - 1) (after at (get_or bytes i 0)) (drop (i + 1) bytes)
    go zero p = absurd (omega arith)
    go (suc k) p = let e : k ≡ suc k - 1 = omega arith in ap (λ k. tokens_from k (after at (get_or bytes i 0)) (drop (i + 1) bytes)) e

pub scanned : (bytes : List ℕ) (i skip : ℕ) (at : Place) (x : Lexeme) → i < length bytes → skip ≡ 0 → x ≡ lexeme (drop i bytes)
    → tokens_from skip at (drop i bytes) ≡ emit at x (λ k. tokens_from k (after at (get_or bytes i 0)) (drop (i + 1) bytes))
scanned bytes i skip at x h z e =
    let next = λ (k : ℕ). tokens_from k (after at (get_or bytes i 0)) (drop (i + 1) bytes) in
    ap (λ k. tokens_from k at (drop i bytes)) z ∙ ap (tokens_from 0 at) (drop_more bytes i 0 h)
    ∙ ap (λ x. emit at x next) (sym (e ∙ ap lexeme (drop_more bytes i 0 h)))

pub end_on : (bytes : List ℕ) (i : ℕ) (at : Place) → i < length bytes
    → end_from at (drop i bytes) ≡ end_from (after at (get_or bytes i 0)) (drop (i + 1) bytes)
end_on bytes i at h = ap (end_from at) (drop_more bytes i 0 h)
