-- A text is read, or refused for one cause at one place, and not both.
use Rattle.std.proofs.Common.{◌≡◌, ℕ, List, [], ◌∷◌, ◌++◌, inl, inr, Result, Ok, Err, sym, ap, subst, ◌∙◌, append_assoc, arith}
use Rattle.std.proofs.lemmas.List.{append-nil}
use Rattle.scheme_data.specs.declared.datum.Place.{Place}
use Rattle.scheme_data.specs.declared.datum.LimitKind.TheVariants.{Bytes, Depth, Expansions, Filled}
use Rattle.scheme_data.specs.declared.datum.Datum.{Datum}
use Rattle.scheme_tokens.specs.declared.token.Token.{Token}
use Rattle.scheme_data.specs.Places.{end}
use Rattle.scheme_tokens.specs.Tokens.{tokens}
use Rattle.scheme_read.specs.declared.error.ReadErr.{ReadErr}
use Rattle.scheme_read.specs.declared.error.ReadErr.TheVariants.{Syntax, Limit, Memory}
use Rattle.scheme_read.specs.Answers.{IsSource, IsFault, Reads, Gives, Refuses}
use Rattle.scheme_read.specs.Grammar.{SpelledIn, IsViable, IsViableIn, IsWrongAt, IsDeepAt, IsBadAt}
use Rattle.scheme_read.proofs.Kept.{of_in, viable_all, spelled_one}

-- a viable list has viable fronts
viable_front : (most : ℕ) (a b : List Token) → IsViableIn most (a ++ b) → IsViableIn most a
viable_front most a b v = record { others = b ++ v.others; values = v.values; spelled = subst (λ ts. SpelledIn most ts v.values) (append_assoc a b v.others) v.spelled }

spelled_viable : (most : ℕ) (ts : List Token) (ds : List Datum) → SpelledIn most ts ds → IsViableIn most ts
spelled_viable most ts ds h = record { others = []; values = ds; spelled = subst (λ ts. SpelledIn most ts ds) (sym (append-nil ts)) h }

viable_one : (most : ℕ) (ts front : List Token) (t : Token) (rest : List Token) → ts ≡ front ++ t ∷ rest → IsViableIn most ts → IsViableIn most (front ++ t ∷ [])
viable_one most ts front t rest e v =
    viable_front most (front ++ t ∷ []) rest (subst (IsViableIn most) (e ∙ sym (append_assoc front (t ∷ []) rest)) v)

-- the first token with which no data of the nesting go on
record StopsAt (most : ℕ) (ts : List Token) (front : List Token) (t : Token) : Type 0 where
  rest : List Token
  split : ts ≡ front ++ t ∷ rest
  viable : IsViableIn most front
  stops : IsViableIn most (front ++ t ∷ []) → ⊥

wrong_stops : (most : ℕ) (ts : List Token) (at : Place) → (w : IsWrongAt most ts at) → StopsAt most ts w.front w.wrong
wrong_stops most ts at w = record {
  rest = w.rest;
  split = w.split;
  viable = w.viable;
  stops = λ v. w.stuck (viable_all most (w.front ++ w.wrong ∷ []) v);
}

deep_stops : (most : ℕ) (ts : List Token) (at : Place) → (d : IsDeepAt most ts at) → StopsAt most ts d.front d.opening
deep_stops most ts at d = record { rest = d.rest; split = d.split; viable = d.viable; stops = d.deep }

no_stop : (most : ℕ) (ts front : List Token) (t : Token) → IsViableIn most ts → StopsAt most ts front t → ⊥
no_stop most ts front t v s = s.stops (viable_one most ts front t s.rest s.split v)

-- of two such tokens neither stands before the other, and the same tokens stand before both
go : (most : ℕ) (f g before : List Token) (t u : Token) (r s : List Token) → f ++ t ∷ r ≡ g ++ u ∷ s → IsViableIn most (before ++ f) → IsViableIn most (before ++ g)
    → (IsViableIn most (before ++ (f ++ t ∷ [])) → ⊥) → (IsViableIn most (before ++ (g ++ u ∷ [])) → ⊥) → f ++ t ∷ [] ≡ g ++ u ∷ []
go most [] [] before t u r s e vf vg nf ng = let same : t ≡ u = cc in ap (λ t. t ∷ []) same
go most [] (y ∷ g) before t u r s e vf vg nf ng =
    let same : y ≡ t = cc in
    absurd (nf (viable_front most (before ++ t ∷ []) g
    (subst (IsViableIn most) (sym (append_assoc before (t ∷ []) g)) (subst (λ y. IsViableIn most (before ++ y ∷ g)) same vg))))
go most (x ∷ f) [] before t u r s e vf vg nf ng =
    let same : x ≡ u = cc in
    absurd (ng (viable_front most (before ++ u ∷ []) f
    (subst (IsViableIn most) (sym (append_assoc before (u ∷ []) f)) (subst (λ x. IsViableIn most (before ++ x ∷ f)) same vf))))
go most (x ∷ f) (y ∷ g) before t u r s e vf vg nf ng =
    let same : y ≡ x = cc in
    let rest : f ++ t ∷ r ≡ g ++ u ∷ s = cc in
    let shift : (ts : List Token) → (before ++ x ∷ []) ++ ts ≡ before ++ x ∷ ts = λ ts. append_assoc before (x ∷ []) ts in
    let tails : f ++ t ∷ [] ≡ g ++ u ∷ [] =
    go most f g (before ++ x ∷ []) t u r s rest
    (subst (IsViableIn most) (sym (shift f)) vf)
    (subst (IsViableIn most) (sym (shift g)) (subst (λ y. IsViableIn most (before ++ y ∷ g)) same vg))
    (λ v. nf (subst (IsViableIn most) (shift (f ++ t ∷ [])) v))
    (λ v. ng (subst (λ y. IsViableIn most (before ++ y ∷ (g ++ u ∷ []))) (sym same) (subst (IsViableIn most) (shift (g ++ u ∷ [])) v))) in
    ap (λ ts. x ∷ ts) tails ∙ ap (λ y. y ∷ (g ++ u ∷ [])) (sym same)

same_front : (most : ℕ) (ts f g : List Token) (t u : Token) → StopsAt most ts f t → StopsAt most ts g u → f ++ t ∷ [] ≡ g ++ u ∷ []
same_front most ts f g t u a b = go most f g [] t u a.rest b.rest (sym a.split ∙ b.split) a.viable b.viable a.stops b.stops

last_same : (f g : List Token) (t u : Token) → f ++ t ∷ [] ≡ g ++ u ∷ [] → t ≡ u
last_same [] [] t u e = cc
last_same [] (y ∷ []) t u e = absurd (cc)
last_same [] (y ∷ z ∷ g) t u e = absurd (cc)
last_same (x ∷ []) [] t u e = absurd (cc)
last_same (x ∷ z ∷ f) [] t u e = absurd (cc)
last_same (x ∷ f) (y ∷ g) t u e = let rest : f ++ t ∷ [] ≡ g ++ u ∷ [] = cc in last_same f g t u rest

-- a text is at fault at one place, and for one cause

one_bad : (most : ℕ) (ts : List Token) (e at by : Place) → IsBadAt most ts e at → IsBadAt most ts e by → at ≡ by
one_bad most ts e at by (inl w) (inl x) =
    let same = last_same w.front x.front w.wrong x.wrong (same_front most ts w.front x.front w.wrong x.wrong (wrong_stops most ts at w) (wrong_stops most ts by x)) in
    w.place ∙ ap (λ (t : Token). t.at) same ∙ sym x.place
one_bad most ts e at by (inl w) (inr (s, q)) = absurd (no_stop most ts w.front w.wrong s.viable (wrong_stops most ts at w))
one_bad most ts e at by (inr (s, q)) (inl w) = absurd (no_stop most ts w.front w.wrong s.viable (wrong_stops most ts by w))
one_bad most ts e at by (inr (s, p)) (inr (r, q)) = p ∙ sym q

one_deep : (most : ℕ) (ts : List Token) (at by : Place) → IsDeepAt most ts at → IsDeepAt most ts by → at ≡ by
one_deep most ts at by w x =
    let same = last_same w.front x.front w.opening x.opening (same_front most ts w.front x.front w.opening x.opening (deep_stops most ts at w) (deep_stops most ts by x)) in
    w.place ∙ ap (λ (t : Token). t.at) same ∙ sym x.place

bad_or_deep : (most : ℕ) (ts : List Token) (e at by : Place) → IsBadAt most ts e at → IsDeepAt most ts by → ⊥
bad_or_deep most ts e at by (inl w) d =
    let same = same_front most ts w.front d.front w.wrong d.opening (wrong_stops most ts at w) (deep_stops most ts by d) in
    w.stuck (subst IsViable (sym same) d.completed)
bad_or_deep most ts e at by (inr (s, q)) d = no_stop most ts d.front d.opening s.viable (deep_stops most ts by d)

read_or_bad : (most : ℕ) (ts : List Token) (ds : List Datum) (e at : Place) → SpelledIn most ts ds → IsBadAt most ts e at → ⊥
read_or_bad most ts ds e at h (inl w) = no_stop most ts w.front w.wrong (spelled_viable most ts ds h) (wrong_stops most ts at w)
read_or_bad most ts ds e at h (inr (s, q)) = s.unread ds (of_in most ts ds h)

read_or_deep : (most : ℕ) (ts : List Token) (ds : List Datum) (at : Place) → SpelledIn most ts ds → IsDeepAt most ts at → ⊥
read_or_deep most ts ds at h d = no_stop most ts d.front d.opening (spelled_viable most ts ds h) (deep_stops most ts at d)

-- a source has no fault
sound_source : (bytes : List ℕ) (ds : List Datum) (e : ReadErr) → IsSource bytes ds → IsFault bytes e → ⊥
sound_source bytes ds (Syntax at) h k = read_or_bad 200 (tokens bytes) ds (end bytes) at h.spelled k.1
sound_source bytes ds (Limit Bytes at) h k = absurd (omega (arith, h.short, k.0))
sound_source bytes ds (Limit Depth at) h k = read_or_deep 200 (tokens bytes) ds at h.spelled k.1
sound_source bytes ds (Limit Expansions at) h k = k
sound_source bytes ds (Limit Filled at) h k = k
sound_source bytes ds Memory h k = k

one_fault : (bytes : List ℕ) (e f : ReadErr) → IsFault bytes e → IsFault bytes f → e ≡ f
one_fault bytes (Syntax at) (Syntax by) h k = ap Syntax (one_bad 200 (tokens bytes) (end bytes) at by h.1 k.1)
one_fault bytes (Syntax at) (Limit Bytes by) h k = absurd (omega (arith, h.0, k.0))
one_fault bytes (Syntax at) (Limit Depth by) h k = absurd (bad_or_deep 200 (tokens bytes) (end bytes) at by h.1 k.1)
one_fault bytes (Syntax at) (Limit Expansions by) h k = absurd k
one_fault bytes (Syntax at) (Limit Filled by) h k = absurd k
one_fault bytes (Syntax at) Memory h k = absurd k
one_fault bytes (Limit Bytes at) (Syntax by) h k = absurd (omega (arith, h.0, k.0))
one_fault bytes (Limit Bytes at) (Limit Bytes by) h k = ap (Limit Bytes) (h.1 ∙ sym k.1)
one_fault bytes (Limit Bytes at) (Limit Depth by) h k = absurd (omega (arith, h.0, k.0))
one_fault bytes (Limit Bytes at) (Limit Expansions by) h k = absurd k
one_fault bytes (Limit Bytes at) (Limit Filled by) h k = absurd k
one_fault bytes (Limit Bytes at) Memory h k = absurd k
one_fault bytes (Limit Depth at) (Syntax by) h k = absurd (bad_or_deep 200 (tokens bytes) (end bytes) by at k.1 h.1)
one_fault bytes (Limit Depth at) (Limit Bytes by) h k = absurd (omega (arith, h.0, k.0))
one_fault bytes (Limit Depth at) (Limit Depth by) h k = ap (Limit Depth) (one_deep 200 (tokens bytes) at by h.1 k.1)
one_fault bytes (Limit Depth at) (Limit Expansions by) h k = absurd k
one_fault bytes (Limit Depth at) (Limit Filled by) h k = absurd k
one_fault bytes (Limit Depth at) Memory h k = absurd k
one_fault bytes (Limit Expansions at) f h k = absurd h
one_fault bytes (Limit Filled at) f h k = absurd h
one_fault bytes Memory f h k = absurd h

-- the answer is the only one

pub reads_gives : (bytes : List ℕ) (a : Result (List Datum) ReadErr) (ds : List Datum) → Reads bytes a → IsSource bytes ds → Gives ds a
reads_gives bytes (Ok es) ds h k = spelled_one 200 (tokens bytes) es ds h.spelled k.spelled
reads_gives bytes (Err (Syntax at)) ds h k = sound_source bytes ds (Syntax at) k h
reads_gives bytes (Err (Limit kind at)) ds h k = sound_source bytes ds (Limit kind at) k h
reads_gives bytes (Err Memory) ds h k = tt

pub reads_refuses : (bytes : List ℕ) (a : Result (List Datum) ReadErr) (e : ReadErr) → Reads bytes a → IsFault bytes e → Refuses e a
reads_refuses bytes (Ok es) e h k = sound_source bytes es e h k
reads_refuses bytes (Err (Syntax at)) e h k = one_fault bytes (Syntax at) e h k
reads_refuses bytes (Err (Limit kind at)) e h k = one_fault bytes (Limit kind at) e h k
reads_refuses bytes (Err Memory) e h k = tt
