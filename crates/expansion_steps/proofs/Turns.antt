-- One replacement, case by case.
use Rattle.std.proofs.Common.{◌≡◌, ℕ, ◌≤◌, max, List, [], ◌∷◌, ◌++◌, length, codes, Bool, true, false, IsTrue, ◌↔◌, Option, None, Some, Result, Err, refl, sym, ap, subst, ◌∙◌, arith, rules}
use Rattle.std.specs.Prelude.{MatchOption}
use Rattle.scheme_data.specs.declared.datum.Place.{Place}
use Rattle.scheme_data.specs.declared.datum.Datum.{Datum}
use Rattle.scheme_data.specs.declared.datum.Datum as datum
use Rattle.scheme_data.specs.declared.datum.Datum.TheViews as views
use Rattle.scheme_data.specs.Forms.{truth, Form, Forms, atom, symbol, listed, dotted, vector, end, next, form, form_place}
use Rattle.syntax_rules.specs.Trees.{Macro}
use Rattle.core_forms.specs.Scope.{Marked, Meaning, macro, special, plain, macro_alone, meaning_first, head_meaning, parts_of}
use Rattle.core_forms.specs.Mid.{call, raw, node, none, mid_nesting, parts_nesting}
use Rattle.core_forms.specs.Names.{binders_of, names_of, seconds}
use Rattle.core_forms.specs.Table.{core, Row, means, wrong, as_it_is, derived, Turn, becomes, refuses, raws, let_turn, core_turn}
use Rattle.core_forms.specs.Bodies.{Used, gives, fails, used, settled_row, settled_by}
use Rattle.core_forms.specs.Rewriting.{listed_turn, dotted_turn, raw_turn}
use Rattle.core_forms.specs.Code.{data_of, spelling, items_in, Refusing}
use Rattle.core_forms.specs.Working.{open_of, parts_then, kind_head, kind_binders, node_mid, IsRaws, IsNode, IsWrong, MeansAs, MakesAs, TurnsAs, row_turn, parts_turn}
use Rattle.core_forms.specs.declared.counting.Counts.{Counts}
use Rattle.core_forms.specs.declared.work.Kind.TheVariants as kind
use Rattle.core_forms.specs.declared.work.Node.{Node}
use Rattle.core_forms.specs.declared.work.Open.{Open}
use Rattle.core_forms.specs.declared.work.Made.{Made}
use Rattle.core_forms.specs.declared.work.Turned.{Turned}
use Rattle.core_forms.specs.declared.words.Keyword.{Keyword}
use Rattle.core_forms.specs.declared.words.Keyword.TheVariants as key
use Rattle.core_forms.specs.declared.error.ExpandErr.{ExpandErr}
use Rattle.core_forms.specs.declared.error.ExpandErr.TheVariants as fault
use Rattle.core_forms.proofs.Views.{form-List}
use Rattle.expansion_steps.specs.Steps.{UsedAs}
use Rattle.expansion_steps.specs.Turns.{plain_turn}

-- Calls ---------------------------------------------------------------------------------

pub not-empty : {A : Type 0} (b : Bool) (xs : List A) → b ≡ false → IsTrue b ↔ (xs ≡ []) → xs ≡ [] → ⊥
not-empty b xs e h g = let t : b ≡ true = h.1 g in absurd (cc)

raws-nest : (ds : Forms) → parts_nesting (raws 1 ds none) ≤ 1
raws-nest end = omega arith
raws-nest (next d ds) = let h = raws-nest ds in grind arith

one-deep : (x : ℕ) → x ≤ 1 → 1 ≡ max 1 x
one-deep x h = grind arith

call-nests : (d : Form) (ds : Forms) (at : Place) → 1 ≡ mid_nesting (node at call (raws 1 (next d ds) none))
call-nests d ds at = one-deep (parts_nesting (raws 1 ds none)) (raws-nest ds) ∙ grind arith

record IsCall (at : Place) (ds : Forms) (n : Node) : Type 0 where
  is : node at call (raws 1 ds none) ≡ node_mid n
  nesting : n.nesting ≡ 1

is-call : (at : Place) (ds : List Datum) (n : Node) → IsRaws at kind.Call ds n → IsCall at (data_of ds) n
is-call at ds n h = record {
  is =
      ap (node at call) (sym h.outer) ∙ (ap (λ at. node at call (parts_then [] n.outer none)) (sym h.place) ∙ (ap (λ k. node n.at (kind_head k) (parts_then [] n.outer (parts_then (kind_binders k) [] none))) (sym h.kind)
      ∙ ap (λ ps. node n.at (kind_head n.kind) (parts_then [] n.outer (parts_then (kind_binders n.kind) ps none))) (sym h.inner)));
  nesting = h.nesting;
}

pub call-node : (n : Counts) (at : Place) (ds forms : List Datum) (made : Node) → (ds ≡ [] → ⊥) → forms ≡ ds → IsRaws at kind.Call forms made → IsNode (plain_turn n (listed at (data_of ds))) made n
call-node n at [] forms made h e r = absurd (h refl)
call-node n at (d ∷ ds) forms made h e r =
    let p = is-call at (d ∷ ds) made (subst (λ ds. IsRaws at kind.Call ds made) e r) in
    record { is = ap (becomes n) p.is; nests = p.nesting ∙ (call-nests (form d) (data_of ds) at ∙ ap mid_nesting p.is) }

-- Heads ---------------------------------------------------------------------------------

pub plain-is : (ks : List Macro) (s : List Marked) (n : Counts) (d : Form) → head_meaning ks s d ≡ plain → raw_turn ks s n d ≡ plain_turn n d
plain-is ks s n (atom at a) h = refl
plain-is ks s n (vector at ds) h = refl
plain-is ks s n (symbol at x m) h = refl
plain-is ks s n (listed at end) h = refl
plain-is ks s n (listed at (next d ds)) h = rw h refl
plain-is ks s n (dotted at ds d) h = rw h refl

abbrev pub use_turn : Used → Turn
use_turn (gives n d) = becomes n (raw d)
use_turn (fails f) = refuses f

listed-use : (n : Counts) (d : Form) (at : Place) (ds : Forms) (u : Used) → listed_turn n d at ds (settled_by u) ≡ use_turn u
listed-use n d at ds (gives m e) = refl
listed-use n d at ds (fails f) = refl

dotted-use : (at : Place) (u : Used) → dotted_turn at (settled_by u) ≡ use_turn u
dotted-use at (gives m e) = refl
dotted-use at (fails f) = refl

macro-is : (ks : List Macro) (s : List Marked) (n : Counts) (d : Form) (k : Macro) → head_meaning ks s d ≡ macro k → raw_turn ks s n d ≡ use_turn (used k n d)
macro-is ks s n (atom at a) k h = absurd (cc)
macro-is ks s n (vector at ds) k h = absurd (cc)
macro-is ks s n (symbol at x m) k h = absurd (cc)
macro-is ks s n (listed at end) k h = absurd (cc)
macro-is ks s n (listed at (next d ds)) k h = rw h (listed-use n (listed at (next d ds)) at (next d ds) (used k n (listed at (next d ds))))
macro-is ks s n (dotted at ds d) k h = rw h (dotted-use at (used k n (dotted at ds d)))

not-special : (m : Meaning) (k : Keyword) → macro_alone m ≡ special k → ⊥
not-special (macro j) k h = absurd (cc)
not-special (special j) k h = absurd (cc)
not-special plain k h = absurd (cc)

listed-row : (n : Counts) (d : Form) (at : Place) (ds : Forms) (k : Keyword) (r : Row) → listed_turn n d at ds (settled_row at k r) ≡ row_turn n at k (parts_of d) r
listed-row n d at ds k (means m e) = refl
listed-row n d at ds k wrong = refl
listed-row n d at ds k as_it_is = refl

pub special-is : (ks : List Macro) (s : List Marked) (n : Counts) (d : Form) (k : Keyword) → head_meaning ks s d ≡ special k → raw_turn ks s n d ≡ parts_turn n (form_place d) k (parts_of d)
special-is ks s n (atom at a) k h = absurd (cc)
special-is ks s n (vector at ds) k h = absurd (cc)
special-is ks s n (symbol at x m) k h = absurd (cc)
special-is ks s n (listed at end) k h = absurd (cc)
special-is ks s n (listed at (next d ds)) k h = rw h (listed-row n (listed at (next d ds)) at (next d ds) k (derived n at k ds))
special-is ks s n (dotted at ds d) k h = absurd (not-special (meaning_first ks s ds) k h)

-- Rows ----------------------------------------------------------------------------------

-- words for sure depend neither on macros nor on names around
core-means : (ks : List Macro) (s : List Marked) (at : Place) (k : Keyword) (ds : Forms) → head_meaning ks s (core at (spelling k) ds) ≡ special k
core-means ks s at key.Quote ds = refl
core-means ks s at key.Lambda ds = refl
core-means ks s at key.If ds = refl
core-means ks s at key.Set ds = refl
core-means ks s at key.Begin ds = refl
core-means ks s at key.Let ds = refl
core-means ks s at key.Letrec ds = refl
core-means ks s at key.BindExit ds = refl
core-means ks s at key.UnwindProtect ds = refl
core-means ks s at key.LetStar ds = refl
core-means ks s at key.Cond ds = refl
core-means ks s at key.Case ds = refl
core-means ks s at key.Clauses ds = refl
core-means ks s at key.And ds = refl
core-means ks s at key.Or ds = refl
core-means ks s at key.When ds = refl
core-means ks s at key.Unless ds = refl
core-means ks s at key.Do ds = refl
core-means ks s at key.Define ds = refl
core-means ks s at key.DefineInline ds = refl
core-means ks s at key.DefineSyntax ds = refl

pub row-is : (ks : List Macro) (s : List Marked) (n : Counts) (at : Place) (k : Keyword) (ds : Forms) → raw_turn ks s n (core at (spelling k) ds) ≡ parts_turn n at k ds
row-is ks s n at k ds = special-is ks s n (core at (spelling k) ds) k (core-means ks s at k ds)

refused-row : (n m : Counts) (at : Place) (k : Keyword) (ds : Forms) (r : Row) (e : ExpandErr) → IsWrong r at n m e → row_turn n at k ds r ≡ refuses e
refused-row n m at k ds r e w = ap (row_turn n at k ds) w.is ∙ ap refuses (sym w.there)

pub wrong-row : (n m : Counts) (at : Place) (k : Keyword) (ds : Forms) (r : Row) (e : ExpandErr) → Refusing (IsWrong r at n m) e → Refusing (λ e. row_turn n at k ds r ≡ refuses e) e
wrong-row n m at k ds r (fault.BadRules p) w = refused-row n m at k ds r (fault.BadRules p) w
wrong-row n m at k ds r (fault.NoRule p) w = refused-row n m at k ds r (fault.NoRule p) w
wrong-row n m at k ds r (fault.Form p) w = refused-row n m at k ds r (fault.Form p) w
wrong-row n m at k ds r (fault.Limit l) w = refused-row n m at k ds r (fault.Limit l) w
wrong-row n m at k ds r fault.Memory w = tt

-- One name ------------------------------------------------------------------------------

pub one-name : (n : Counts) (at : Place) (old names : List Datum) (x : Datum) (es bs : Forms) (res : Result Made ExpandErr) → names ≡ old ++ x ∷ [] → old ≡ []
    → MakesAs (let_turn n at (binders_of true (data_of names)) es bs) res n → MakesAs (let_turn n at (binders_of true (next (form x) end)) es bs) res n
one-name n at old names x es bs res h e m = subst (λ (ds : List Datum). MakesAs (let_turn n at (binders_of true (data_of ds)) es bs) res n) (h ∙ ap (λ old. old ++ x ∷ []) e) m

module _ (n : Counts) (at : Place) (bs : Forms) where
  abbrev first_turn : Form → Turn
  first_turn d = let_turn n at (names_of true (next d end)) (seconds (next d end)) bs

  not-two : (p : Place) (ds : List Datum) → (length ds ≡ 2 → ⊥) → first_turn (listed p (data_of ds)) ≡ refuses (fault.Form at)
  not-two p [] h = refl
  not-two p (a ∷ []) h = refl
  not-two p (a ∷ b ∷ []) h = absurd (h refl)
  not-two p (a ∷ b ∷ c ∷ ds) h = refl

  pub wrong-length : (d : Form) (ds : List Datum) → items_in d ≡ Some (data_of ds) → (length ds ≡ 2 → ⊥) → first_turn d ≡ refuses (fault.Form at)
  wrong-length (atom p a) ds e h = absurd (cc)
  wrong-length (symbol p x m) ds e h = absurd (cc)
  wrong-length (listed p es) ds e h = let same : es ≡ data_of ds = cc in ap (λ es. first_turn (listed p es)) same ∙ not-two p ds h
  wrong-length (dotted p es t) ds e h = absurd (cc)
  wrong-length (vector p es) ds e h = absurd (cc)

  pub no-list : (d : Form) → items_in d ≡ None → first_turn d ≡ refuses (fault.Form at)
  no-list (atom p a) e = refl
  no-list (symbol p x m) e = refl
  no-list (listed p es) e = absurd (cc)
  no-list (dotted p es t) e = refl
  no-list (vector p es) e = refl

  long-end : (ns : List Datum) (v : Datum) → 1 ≤ length (ns ++ v ∷ [])
  long-end [] v = omega arith
  long-end (n ∷ ns) v = omega arith

  of-two : (p : Place) (names : List Datum) (v : Datum) → length (names ++ v ∷ []) ≡ 2 → first_turn (listed p (data_of (names ++ v ∷ []))) ≡ let_turn n at (binders_of true (data_of names)) (next (form v) end) bs
  of-two p [] v h = absurd (omega arith)
  of-two p (x ∷ []) v h = refl
  of-two p (x ∷ y ∷ ns) v h = absurd (omega (arith, long-end ns v))

  first-let : (d : Form) (ds names : List Datum) (v : Datum) → items_in d ≡ Some (data_of ds) → length ds ≡ 2 → ds ≡ names ++ v ∷ [] → first_turn d ≡ let_turn n at (binders_of true (data_of names)) (next (form v) end) bs
  first-let (atom p a) ds names v e h s = absurd (cc)
  first-let (symbol p x m) ds names v e h s = absurd (cc)
  first-let (listed p es) ds names v e h s =
      let same : es ≡ data_of ds = cc in
      ap (λ es. first_turn (listed p es)) same ∙ (ap (λ (ds : List Datum). first_turn (listed p (data_of ds))) s ∙ of-two p names v (ap (λ (ds : List Datum). length ds) (sym s) ∙ h))
  first-let (dotted p es t) ds names v e h s = absurd (cc)
  first-let (vector p es) ds names v e h s = absurd (cc)

  pub first-made : (d : Form) (ds names : List Datum) (v : Datum) (res : Result Made ExpandErr) → items_in d ≡ Some (data_of ds) → length ds ≡ 2 → ds ≡ names ++ v ∷ []
      → MakesAs (let_turn n at (binders_of true (data_of names)) (next (form v) end) bs) res n → MakesAs (first_turn d) res n
  first-made d ds names v res e h s m = subst (λ t. MakesAs t res n) (sym (first-let d ds names v e h s)) m

-- Behind a head -------------------------------------------------------------------------

pub none-behind : (d : Form) → items_in d ≡ None → end ≡ parts_of d
none-behind (atom p a) e = refl
none-behind (symbol p x m) e = refl
none-behind (listed p es) e = absurd (cc)
none-behind (dotted p es t) e = refl
none-behind (vector p es) e = refl

abbrev pub behind : Forms → Forms
behind end = end
behind (next d ds) = ds

listed-behind : (p : Place) (ds : Forms) → behind ds ≡ parts_of (listed p ds)
listed-behind p end = refl
listed-behind p (next d ds) = refl

some-behind : (d : Form) (ds : Forms) → items_in d ≡ Some ds → behind ds ≡ parts_of d
some-behind (atom p a) ds e = absurd (cc)
some-behind (symbol p x m) ds e = absurd (cc)
some-behind (listed p es) ds e = let same : ds ≡ es = cc in ap behind same ∙ listed-behind p es
some-behind (dotted p es t) ds e = absurd (cc)
some-behind (vector p es) ds e = absurd (cc)

popped : (o : Option Datum) (old new : List Datum) → MatchOption o ((old ≡ []) × (new ≡ [])) (λ top. old ≡ top ∷ new) → data_of new ≡ behind (data_of old)
popped None old new h = rw (h.0, h.1) refl
popped (Some d) old new h = rw h refl

pub behind-it : (d : Form) (items old new : List Datum) (o : Option Datum) → items_in d ≡ Some (data_of items) → old ≡ items → MatchOption o ((old ≡ []) × (new ≡ [])) (λ top. old ≡ top ∷ new) → data_of new ≡ parts_of d
behind-it d items old new o e s h = popped o old new h ∙ (ap (λ (ds : List Datum). behind (data_of ds)) s ∙ some-behind d (data_of items) e)

-- What is answered ----------------------------------------------------------------------

use-answers : (u : Used) (n m : Counts) (e : ExpandErr) → UsedAs u n (Err e) m → Refusing (λ e. use_turn u ≡ refuses e) e
use-answers u n m (fault.BadRules p) h = ap use_turn h.0
use-answers u n m (fault.NoRule p) h = ap use_turn h.0
use-answers u n m (fault.Form p) h = ap use_turn h.0
use-answers u n m (fault.Limit l) h = ap use_turn h.0
use-answers u n m fault.Memory h = tt

pub use-fails : (ks : List Macro) (s : List Marked) (n m : Counts) (d : Form) (k : Macro) (e : ExpandErr) → macro k ≡ head_meaning ks s d → UsedAs (used k n d) n (Err e) m → Refusing (λ e. raw_turn ks s n d ≡ refuses e) e
use-fails ks s n m d k e h u = subst (λ t. Refusing (λ e. t ≡ refuses e) e) (sym (macro-is ks s n d k (sym h))) (use-answers (used k n d) n m e u)

pub use-gives : (ks : List Macro) (s : List Marked) (n m : Counts) (d e : Form) (k : Macro) → macro k ≡ head_meaning ks s d → used k n d ≡ gives m e → raw_turn ks s n d ≡ becomes m (raw e)
use-gives ks s n m d e k h u = macro-is ks s n d k (sym h) ∙ ap use_turn u

pub special-turns : (ks : List Macro) (s : List Marked) (n m : Counts) (d : Form) (k : Keyword) (at : Place) (ds : List Datum) (res : Result Turned ExpandErr) → special k ≡ head_meaning ks s d → at ≡ form_place d
    → data_of ds ≡ parts_of d → TurnsAs (parts_turn n at k (data_of ds)) res m → TurnsAs (raw_turn ks s n d) res m
special-turns ks s n m d k at ds res h p e t =
    subst (λ t. TurnsAs t res m) (ap (λ at. parts_turn n at k (data_of ds)) p ∙ (ap (parts_turn n (form_place d) k) e ∙ sym (special-is ks s n d k (sym h)))) t

pub plain-turns : (ks : List Macro) (s : List Marked) (n : Counts) (d : Form) (made : Result Made ExpandErr) (res : Result Turned ExpandErr) → plain ≡ head_meaning ks s d
    → MakesAs (plain_turn n d) made n → ((t : Turn) → (n : Counts) → MakesAs t made n → TurnsAs t res n) → TurnsAs (raw_turn ks s n d) res n
plain-turns ks s n d made res h m core = subst (λ t. TurnsAs t res n) (sym (plain-is ks s n d (sym h))) (core (plain_turn n d) n m)

pub row-turns : (ks : List Macro) (s : List Marked) (n m : Counts) (at : Place) (k : Keyword) (ds : Forms) (res : Result Turned ExpandErr) → TurnsAs (parts_turn n at k ds) res m
    → TurnsAs (raw_turn ks s n (core at (spelling k) ds)) res m
row-turns ks s n m at k ds res t = subst (λ t. TurnsAs t res m) (sym (row-is ks s n at k ds)) t

pub star-again : (ks : List Macro) (s : List Marked) (n : Counts) (at : Place) (ds : Forms) (e : Form) → derived n at key.LetStar ds ≡ means n e → raw_turn ks s n (core at (codes "let*") ds) ≡ becomes n (raw e)
star-again ks s n at ds e h = row-is ks s n at key.LetStar ds ∙ ap (row_turn n at key.LetStar ds) h

pub star-fails : (ks : List Macro) (s : List Marked) (n : Counts) (at : Place) (ds : Forms) (e : ExpandErr) → MeansAs (derived n at key.LetStar ds) at n (Err e) n
    → Refusing (λ e. raw_turn ks s n (core at (codes "let*") ds) ≡ refuses e) e
star-fails ks s n at ds e h = subst (λ t. Refusing (λ e. t ≡ refuses e) e) (sym (row-is ks s n at key.LetStar ds)) (wrong-row n n at key.LetStar ds (derived n at key.LetStar ds) e h)

pub called : (n : Counts) (at : Place) (items : List Datum) (d : Datum) (res : Result Made ExpandErr) → d ≡ views.List at items → MakesAs (plain_turn n (listed at (data_of items))) res n → MakesAs (plain_turn n (form d)) res n
called n at items d res e m = subst (λ f. MakesAs (plain_turn n f) res n) (sym (ap (λ (d : Datum). form d) e ∙ form-List at items)) m

pub cored : (ks : List Macro) (s : List Marked) (n : Counts) (o q : Open) (made : Result Made ExpandErr) (res : Result Turned ExpandErr) → o ≡ q → MakesAs (raw_turn ks s n (open_of q)) made n
    → ((t : Turn) → (n : Counts) → MakesAs t made n → TurnsAs t res n) → TurnsAs (raw_turn ks s n (open_of o)) res n
cored ks s n o q made res e m core = subst (λ (o : Open). TurnsAs (raw_turn ks s n (open_of o)) res n) (sym e) (core (raw_turn ks s n (open_of q)) n m)

form-Bool : (at : Place) (b : Bool) → form (datum.Bool at b) ≡ atom at (truth b)
form-Bool at b = search (rules, datum.the_lemmas)

pub both-made : (n : Counts) (at : Place) (a b : Form) (res : Result Made ExpandErr) → MakesAs (core_turn n at key.If (next a (next b (next (form (datum.Bool at false)) end)))) res n
    → MakesAs (core_turn n at key.If (next a (next b (next (atom at (truth false)) end)))) res n
both-made n at a b res m = subst (λ f. MakesAs (core_turn n at key.If (next a (next b (next f end)))) res n) (form-Bool at false) m
