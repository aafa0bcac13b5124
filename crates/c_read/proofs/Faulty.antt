-- The walk stops at the first token with which no text could go on.
use Rattle.std.proofs.Common.{◌≡◌, ℕ, zero, suc, ◌-◌, List, [], ◌∷◌, ◌++◌, codes, drop, length, get_or, ◌+◌, ◌<◌, ◌≤◌, inl, inr, nat_eq, Bool, true, false, if◌then◌else◌, Option, Some, None, refl, sym, ap, subst, ◌∙◌, append_assoc, arith}
use Rattle.std.specs.Option.{option_map}
use Rattle.std.specs.Prelude.{MatchBool}
use Rattle.std.proofs.lemmas.Bool.{ne_eqb}
use Rattle.std.proofs.lemmas.List.{append-nil, drop_all, map-append, drop_more}
use Rattle.scheme_data.specs.declared.datum.Place.{Place}
use Rattle.scheme_data.specs.Places.{after, start, end_from, end}
use Rattle.c_tree.specs.declared.tree.CTy.TheVariants as ty
use Rattle.c_tree.specs.declared.tree.CAtom.TheVariants as atom
use Rattle.c_tree.specs.declared.tree.CArg.TheVariants as arg
use Rattle.c_tree.specs.declared.tree.CExpr.TheVariants as expr
use Rattle.c_tree.specs.declared.op.Op.TheVariants as op
use Rattle.c_tree.specs.Names.{is_function_name, is_module_function, is_maker_name, is_initializer_name, is_entry_name, is_global_name, is_local_name, is_label_name, is_end_label_name, is_target_name, unmangled}
use Rattle.c_tree.specs.Code.{done, declared}
use Rattle.c_tree.specs.Lexical.{Token, Word, Mark, Str, Bad, Lexeme, Gap, Lexed, lexeme, emit, tokens_from, Placed, placed, emit_at, placed_from, placed_tokens}
use Rattle.c_tree.specs.Spelling.{items_tokens}
use Rattle.c_tree.specs.Faults.{IsViable, tokens_of, IsWrongAt, IsShort, IsBadAt}
use Rattle.c_read.specs.declared.kinds.Kind.{Kind}
use Rattle.c_read.specs.declared.kinds.Kind.TheVariants as kind
use Rattle.c_read.specs.declared.dues.Due.{Due}
use Rattle.c_read.specs.declared.dues.Due.TheVariants as due
use Rattle.c_read.specs.declared.fault.Reach.{Reach}
use Rattle.c_read.specs.Kinds.{token_kind}
use Rattle.c_read.specs.Dues.{next, in_front_of, advance, on_dues, run}
use Rattle.c_read.specs.Reaches.{passed, over_lexeme, over_byte, over_front}
use Rattle.c_read.specs.Reading.{HasNoTree}
use Rattle.c_read.proofs.TokenKinds.{TokenOf, means}
use Rattle.c_read.proofs.Means.{Means, Parsed}
use Rattle.c_read.proofs.Rows.{next_back}
use Rattle.c_read.proofs.Runs.{items_run}

-- Something is spelled whatever is due ------------------------------------------------------

example : Kind → Token
example kind.Type = Word (codes "int")
example kind.Void = Word (codes "void")
example kind.Extern = Word (codes "extern")
example kind.Return = Word (codes "return")
example kind.If = Word (codes "if")
example kind.Else = Word (codes "else")
example kind.For = Word (codes "for")
example kind.Goto = Word (codes "goto")
example kind.Catch = Word (codes "BGL_CATCH")
example kind.Protect = Word (codes "BGL_PROTECT")
example kind.Local = Word (codes "x0")
example kind.Global = Word (codes "v_a__a")
example kind.Value = Word (codes "BGL_NIL")
example kind.Function = Word (codes "main")
example kind.Entry = Word (codes "e_a__a")
example kind.Operation = Word (codes "bgl_args")
example kind.Label = Word (codes "L0")
example kind.EndLabel = Word (codes "E0")
example kind.And = Mark 38
example kind.OpenParen = Mark 40
example kind.CloseParen = Mark 41
example kind.Comma = Mark 44
example kind.Colon = Mark 58
example kind.Semicolon = Mark 59
example kind.Equals = Mark 61
example kind.OpenBrace = Mark 123
example kind.CloseBrace = Mark 125
example kind.Quoted = Str []
example kind.Other = Bad

example_of : (k : Kind) → TokenOf k (example k)
unfolding example is_local_name is_global_name is_function_name is_module_function is_maker_name is_initializer_name is_entry_name is_label_name is_end_label_name unmangled
example_of kind.Type = record { ty = ty.Int; is = refl }
example_of kind.Void = refl
example_of kind.Extern = refl
example_of kind.Return = refl
example_of kind.If = refl
example_of kind.Else = refl
example_of kind.For = refl
example_of kind.Goto = refl
example_of kind.Catch = refl
example_of kind.Protect = refl
example_of kind.Local = record { name = codes "x0"; is = refl; named = refl }
example_of kind.Global = record { name = codes "v_a__a"; is = refl; named = refl }
example_of kind.Value = record { atom = atom.Nil; is = refl; named = tt }
example_of kind.Function = record { name = codes "main"; is = refl; named = refl }
example_of kind.Entry = record { name = codes "e_a__a"; is = refl; named = refl }
example_of kind.Operation = record { op = op.Args; is = refl }
example_of kind.Label = record { name = codes "L0"; is = refl; named = refl }
example_of kind.EndLabel = record { name = codes "E0"; is = refl; named = refl }
example_of kind.And = refl
example_of kind.OpenParen = refl
example_of kind.CloseParen = refl
example_of kind.Comma = refl
example_of kind.Colon = refl
example_of kind.Semicolon = refl
example_of kind.Equals = refl
example_of kind.OpenBrace = refl
example_of kind.CloseBrace = refl
example_of kind.Quoted = record { text = []; is = refl }
example_of kind.Other = tt

abbrev sample : Due → List Token → List Token
sample (due.Token k) rest = example k ∷ rest
sample due.Target rest = Word (codes "L0") ∷ rest
sample due.Expression rest = Word (codes "BGL_NIL") ∷ rest
sample due.Argument rest = Word (codes "BGL_NIL") ∷ rest
sample due.Arguments rest = Mark 41 ∷ rest
sample due.MoreArguments rest = Mark 41 ∷ rest
sample due.Block rest = Mark 125 ∷ rest
sample due.Body rest = Mark 125 ∷ rest
sample due.Items rest = rest
sample due.Named rest = Word (codes "main") ∷ Mark 40 ∷ Word (codes "void") ∷ Mark 41 ∷ Mark 59 ∷ rest
sample due.Params rest = Word (codes "void") ∷ Mark 41 ∷ Mark 59 ∷ rest
sample due.NoParams rest = Mark 59 ∷ rest
sample due.FirstParam rest = Mark 41 ∷ Mark 59 ∷ rest
sample due.MoreTypes rest = Mark 41 ∷ rest
sample due.MoreParams rest = Mark 41 ∷ rest

sample_means : (d : Due) (rest : List Token) → Means d (sample d rest) rest
unfolding is_target_name is_label_name is_function_name is_module_function is_entry_name is_maker_name is_initializer_name
sample_means (due.Token k) rest = record { token = example k; is = refl; of = example_of k }
sample_means due.Target rest = record { name = codes "L0"; is = refl; named = refl }
sample_means due.Expression rest = record { expr = expr.Atom atom.Nil; is = refl; named = tt }
sample_means due.Argument rest = record { arg = arg.Atom atom.Nil; is = refl; named = tt }
sample_means due.Arguments rest = record { args = []; is = refl; named = tt }
sample_means due.MoreArguments rest = record { args = []; is = refl; named = tt }
sample_means due.Block rest = record { code = done; is = refl; named = tt }
sample_means due.Body rest = record { locals = []; code = done; is = refl; vars = tt; named = tt }
sample_means due.Items rest = record { items = []; is = refl; named = tt }
sample_means due.Named rest = record { item = λ t. declared t (codes "main") []; is = λ t. refl; named = λ t. refl }
sample_means due.Params rest = record { item = λ t name. declared t name []; is = λ t name. refl; named = λ t name h. h }
sample_means due.NoParams rest = record { item = λ t name. declared t name []; is = λ t name. refl; named = λ t name h. h }
sample_means due.FirstParam rest = record { item = λ t name u. declared t name (u ∷ []); is = λ t name u. refl; named = λ t name u h. h }
sample_means due.MoreTypes rest = record { types = []; is = refl }
sample_means due.MoreParams rest = record { vars = []; is = refl; named = tt }

record Alive (dues : List Due) : Type 0 where
  others : List Token
  parsed : Parsed dues others

alive : (dues : List Due) → Alive dues
alive [] = record { others = []; parsed = refl }
alive (d ∷ dues) = let a = alive dues in record { others = sample d a.others; parsed = record { rest = a.others; first = sample_means d a.others; others = a.parsed } }

-- Tokens that were gone over ----------------------------------------------------------------

parsed_back : (ts : List Token) (ds dues : List Due) (others : List Token) → run ds ts ≡ Some dues → Parsed dues others → Parsed ds (ts ++ others)
parsed_back [] ds dues others e p = let same : dues ≡ ds = cc in subst (λ d. Parsed d others) same p
parsed_back (t ∷ ts) [] dues others e p = absurd (cc)
parsed_back (t ∷ ts) (d ∷ ds) dues others e p = go (next d (token_kind t)) refl e (λ more h. parsed_back ts (more ++ ds) dues others h p)
  where
    go : (o : Option (List Due)) → next d (token_kind t) ≡ o → on_dues (in_front_of ds o) (λ m. run m ts) ≡ Some dues
        → ((more : List Due) → run (more ++ ds) ts ≡ Some dues → Parsed (more ++ ds) (ts ++ others)) → Parsed (d ∷ ds) (t ∷ (ts ++ others))
    go None n e back = absurd (cc)
    go (Some more) n e back = next_back d (token_kind t) more n t (ts ++ others) ds (means t) (back more e)

viable : (ts : List Token) (dues : List Due) → run (due.Items ∷ []) ts ≡ Some dues → IsViable ts
viable ts dues e =
    let a = alive dues in
    let p = parsed_back ts (due.Items ∷ []) dues a.others e a.parsed in
    record { others = a.others; items = p.first.items; spelled = record { spelled = p.first.is ∙ ap (items_tokens p.first.items) p.others; named = p.first.named } }

run_append : (ts us : List Token) (ds : List Due) → run ds (ts ++ us) ≡ on_dues (run ds ts) (λ m. run m us)
run_append [] us ds = refl
run_append (t ∷ ts) us ds = go (advance ds (token_kind t)) (λ m. run_append ts us m)
  where
    go : (o : Option (List Due)) → ((m : List Due) → run m (ts ++ us) ≡ on_dues (run m ts) (λ m. run m us))
        → on_dues o (λ m. run m (ts ++ us)) ≡ on_dues (on_dues o (λ m. run m ts)) (λ m. run m us)
    go None ih = refl
    go (Some m) ih = ih m

ran_on : (ts us : List Token) (ds dues : List Due) → run ds ts ≡ Some dues → run ds (ts ++ us) ≡ run dues us
ran_on ts us ds dues e = run_append ts us ds ∙ ap (λ o. on_dues o (λ m. run m us)) e

stuck : (ts : List Token) (t : Token) (dues : List Due) → run (due.Items ∷ []) ts ≡ Some dues → advance dues (token_kind t) ≡ None → IsViable (ts ++ t ∷ []) → ⊥
stuck ts t dues e n v =
    let whole : run (due.Items ∷ []) ((ts ++ t ∷ []) ++ v.others) ≡ Some (due.Items ∷ []) = ap (run (due.Items ∷ [])) v.spelled.spelled ∙ items_run v.items v.spelled.named in
    let none : run (due.Items ∷ []) ((ts ++ t ∷ []) ++ v.others) ≡ None =
    ap (run (due.Items ∷ [])) (append_assoc ts (t ∷ []) v.others) ∙ ran_on ts (t ∷ v.others) (due.Items ∷ []) dues e ∙ ap (λ o. on_dues o (λ m. run m v.others)) n in
    absurd (cc)

-- Tokens with their places ------------------------------------------------------------------

emit_same : (s : Lexeme) (at : Place) (next : ℕ → List Token) (next_at : ℕ → List Placed) → ((k : ℕ) → next k ≡ tokens_of (next_at k)) → emit s next ≡ tokens_of (emit_at at s next_at)
emit_same (Gap k) at next next_at e = e k
emit_same (Lexed t k) at next next_at e = ap (λ ts. t ∷ ts) (e k)

placed_same : (bytes : List ℕ) (skip : ℕ) (at : Place) → tokens_from skip bytes ≡ tokens_of (placed_from skip at bytes)
placed_same [] skip at = refl
placed_same (b ∷ bs) (suc skip) at = placed_same bs skip (after at b)
placed_same (b ∷ bs) zero at = emit_same (lexeme b bs) at (λ k. tokens_from k bs) (λ k. placed_from k (after at b) bs) (λ k. placed_same bs k (after at b))

-- The walk ----------------------------------------------------------------------------------

same_reach : (r r' : Reach) → Some r ≡ Some r' → r ≡ r'
same_reach r r' e = cc

some_none : {P : Type 0} (r : Reach) → Some r ≡ None → P
some_none r e = absurd (cc)

skipping : (skip : ℕ) (here there : Option Reach) → (if nat_eq (suc skip) 0 then here else there) ≡ there
skipping skip here there = ap (λ c. if c then here else there) (ne_eqb (suc skip) 0 (λ e. omega (arith, e)))

-- these bytes are left
pub record Reached (bytes left : List ℕ) (r : Reach) : Type 0 where
  pub front : List Placed
  pub split : placed_tokens bytes ≡ front ++ placed_from r.skip r.at left
  pub ran : run (due.Items ∷ []) (tokens_of front) ≡ Some r.dues
  pub last : end bytes ≡ end_from r.at left

pub reached_start : (bytes : List ℕ) (r : Reach) → r ≡ record { at = start; skip = 0; dues = due.Items ∷ [] } → Reached bytes bytes r
reached_start bytes r e = subst (Reached bytes bytes) (sym e) (record { front = []; split = refl; ran = refl; last = refl })

module _ (bytes : List ℕ) (b : ℕ) (bs : List ℕ) where
  over_gap : (at : Place) (dues : List Due) (more : ℕ) → Reached bytes (b ∷ bs) (record { at = at; skip = 0; dues = dues }) → lexeme b bs ≡ Gap more
      → Reached bytes bs (record { at = after at b; skip = more; dues = dues })
  over_gap at dues more h e = record {
    front = h.front;
    split = h.split ∙ ap (λ s. h.front ++ emit_at at s (λ k. placed_from k (after at b) bs)) e;
    ran = h.ran;
    last = h.last;
  }

  over_token : (at : Place) (dues dues' : List Due) (t : Token) (more : ℕ) → Reached bytes (b ∷ bs) (record { at = at; skip = 0; dues = dues }) → lexeme b bs ≡ Lexed t more
      → advance dues (token_kind t) ≡ Some dues' → Reached bytes bs (record { at = after at b; skip = more; dues = dues' })
  over_token at dues dues' t more h e a = record {
    front = h.front ++ placed at t ∷ [];
    split = h.split ∙ ap (λ s. h.front ++ emit_at at s (λ k. placed_from k (after at b) bs)) e ∙ sym (append_assoc h.front (placed at t ∷ []) (placed_from more (after at b) bs));
    ran = ap (run (due.Items ∷ [])) (map-append (λ p. p.token) h.front (placed at t ∷ [])) ∙ ran_on (tokens_of h.front) (t ∷ []) (due.Items ∷ []) dues h.ran ∙ ap (λ o. on_dues o (λ m. run m [])) a;
    last = h.last;
  }

  over_skip : (at : Place) (skip : ℕ) (dues : List Due) → Reached bytes (b ∷ bs) (record { at = at; skip = suc skip; dues = dues })
      → Reached bytes bs (record { at = after at b; skip = skip; dues = dues })
  over_skip at skip dues h = record { front = h.front; split = h.split; ran = h.ran; last = h.last }

  wrong_token : (at : Place) (dues : List Due) (t : Token) (more : ℕ) → Reached bytes (b ∷ bs) (record { at = at; skip = 0; dues = dues }) → lexeme b bs ≡ Lexed t more
      → advance dues (token_kind t) ≡ None → IsWrongAt (placed_tokens bytes) at
  wrong_token at dues t more h e n = record {
    front = h.front;
    wrong = placed at t;
    rest = placed_from more (after at b) bs;
    split = h.split ∙ ap (λ s. h.front ++ emit_at at s (λ k. placed_from k (after at b) bs)) e;
    viable = viable (tokens_of h.front) dues h.ran;
    stuck = stuck (tokens_of h.front) t dues h.ran n;
    place = refl;
  }

  on_lexeme : (at : Place) (dues : List Due) (r' : Reach) → Reached bytes (b ∷ bs) (record { at = at; skip = 0; dues = dues })
      → (s : Lexeme) → lexeme b bs ≡ s → over_lexeme (record { at = at; skip = 0; dues = dues }) b s ≡ Some r' → Reached bytes bs r'
  on_lexeme at dues r' h (Gap more) e o = let same : record { at = after at b; skip = more; dues = dues } ≡ r' = cc in subst (Reached bytes bs) same (over_gap at dues more h e)
  on_lexeme at dues r' h (Lexed t more) e o = go (advance dues (token_kind t)) refl o
    where
      go : (a : Option (List Due)) → advance dues (token_kind t) ≡ a → option_map (passed (record { at = at; skip = 0; dues = dues }) b more) a ≡ Some r' → Reached bytes bs r'
      go None a o = absurd (cc)
      go (Some dues') a o = let same : record { at = after at b; skip = more; dues = dues' } ≡ r' = cc in subst (Reached bytes bs) same (over_token at dues dues' t more h e a)

  wrong_lexeme : (at : Place) (dues : List Due) → Reached bytes (b ∷ bs) (record { at = at; skip = 0; dues = dues })
      → (s : Lexeme) → lexeme b bs ≡ s → over_lexeme (record { at = at; skip = 0; dues = dues }) b s ≡ None → IsWrongAt (placed_tokens bytes) at
  wrong_lexeme at dues h (Gap more) e o = absurd (cc)
  wrong_lexeme at dues h (Lexed t more) e o = go (advance dues (token_kind t)) refl o
    where
      go : (a : Option (List Due)) → advance dues (token_kind t) ≡ a → option_map (passed (record { at = at; skip = 0; dues = dues }) b more) a ≡ None → IsWrongAt (placed_tokens bytes) at
      go None a o = wrong_token at dues t more h e a
      go (Some dues') a o = absurd (cc)

  on_skip : (at : Place) (skip : ℕ) (dues : List Due) (r' : Reach) → Reached bytes (b ∷ bs) (record { at = at; skip = skip; dues = dues })
      → over_byte (record { at = at; skip = skip; dues = dues }) b bs ≡ Some r' → Reached bytes bs r'
  on_skip at zero dues r' h o = on_lexeme at dues r' h (lexeme b bs) refl o
  on_skip at (suc skip) dues r' h o =
      let e : skip ≡ suc skip - 1 = omega arith in
      let r : Reach = record { at = at; skip = suc skip; dues = dues } in
      subst (Reached bytes bs) (ap (λ k. passed r b k dues) e ∙ same_reach (passed r b (suc skip - 1) dues) r' (sym (skipping skip (over_lexeme r b (lexeme b bs)) (Some (passed r b (suc skip - 1) dues))) ∙ o)) (over_skip at skip dues h)

  wrong_skip : (at : Place) (skip : ℕ) (dues : List Due) → Reached bytes (b ∷ bs) (record { at = at; skip = skip; dues = dues })
      → over_byte (record { at = at; skip = skip; dues = dues }) b bs ≡ None → IsWrongAt (placed_tokens bytes) at
  wrong_skip at zero dues h o = wrong_lexeme at dues h (lexeme b bs) refl o
  wrong_skip at (suc skip) dues h o =
      let r : Reach = record { at = at; skip = suc skip; dues = dues } in
      let never : Some (passed r b (suc skip - 1) dues) ≡ None = sym (skipping skip (over_lexeme r b (lexeme b bs)) (Some (passed r b (suc skip - 1) dues))) ∙ o in
      some_none (passed r b (suc skip - 1) dues) never

-- The same where the walk has a place in the bytes

pub reached_on : (bytes : List ℕ) (i : ℕ) (r r' : Reach) → i < length bytes → Reached bytes (drop i bytes) r
    → over_byte r (get_or bytes i 0) (drop (i + 1) bytes) ≡ Some r' → Reached bytes (drop (i + 1) bytes) r'
reached_on bytes i r r' l h o =
    on_skip bytes (get_or bytes i 0) (drop (i + 1) bytes) r.at r.skip r.dues r' (subst (λ left. Reached bytes left r) (drop_more bytes i 0 l) h) o

pub reached_wrong : (bytes : List ℕ) (i : ℕ) (r : Reach) → i < length bytes → Reached bytes (drop i bytes) r
    → over_byte r (get_or bytes i 0) (drop (i + 1) bytes) ≡ None → IsWrongAt (placed_tokens bytes) r.at
reached_wrong bytes i r l h o =
    wrong_skip bytes (get_or bytes i 0) (drop (i + 1) bytes) r.at r.skip r.dues (subst (λ left. Reached bytes left r) (drop_more bytes i 0 l) h) o

pub reached_end : (bytes : List ℕ) (r : Reach) → Reached bytes [] r → HasNoTree bytes → IsShort (tokens_of (placed_tokens bytes)) × (r.at ≡ end bytes)
reached_end bytes r h none = (
  record {
    viable = subst (λ ts. IsViable (tokens_of ts)) (sym (h.split ∙ append-nil h.front)) (viable (tokens_of h.front) r.dues h.ran);
    unread = λ items s. none items (record { spelled = placed_same bytes 0 start ∙ s.spelled; named = s.named });
  },
  sym h.last,
)

-- What a step answers

pub stepped_on : (bytes : List ℕ) (i : ℕ) (r r' : Reach) (text : List ℕ) (went : Bool) → i < length bytes → text ≡ drop i bytes → Reached bytes (drop i bytes) r
    → went ≡ true → MatchBool went (over_front r text ≡ Some r') (over_front r text ≡ None) → Reached bytes (drop (i + 1) bytes) r'
stepped_on bytes i r r' text true l e h w o = reached_on bytes i r r' l h (ap (over_front r) (sym (drop_more bytes i 0 l) ∙ sym e) ∙ o)
stepped_on bytes i r r' text false l e h w o = absurd (cc)

pub stepped_wrong : (bytes : List ℕ) (i : ℕ) (r r' : Reach) (text : List ℕ) (went : Bool) → i < length bytes → text ≡ drop i bytes → Reached bytes (drop i bytes) r
    → went ≡ false → MatchBool went (over_front r text ≡ Some r') (over_front r text ≡ None)
    → MatchBool went (Unit {0}) (r'.at ≡ r.at) → IsBadAt bytes r'.at
stepped_wrong bytes i r r' text false l e h w o p =
    inl (subst (IsWrongAt (placed_tokens bytes)) (sym p) (reached_wrong bytes i r l h (ap (over_front r) (sym (drop_more bytes i 0 l) ∙ sym e) ∙ o)))
stepped_wrong bytes i r r' text true l e h w o p = absurd (cc)

pub ended_short : (bytes : List ℕ) (i : ℕ) (r : Reach) → Reached bytes (drop i bytes) r → length bytes ≤ i → HasNoTree bytes → IsBadAt bytes r.at
ended_short bytes i r h l none = inr (reached_end bytes r (subst (λ left. Reached bytes left r) (drop_all i bytes l) h) none)
