-- Core forms and their parts, from forms.
use Rattle.std.proofs.Common.{◌≡◌, ℕ, ◌<◌, ◌≤◌, max, true, false, List, [], ◌∷◌, ◌++◌, length, reverse, Option, Some, Result, refl, sym, ap, subst, ◌∙◌, arith}
use Rattle.std.proofs.lemmas.List.{reverse-append}
use Rattle.scheme_data.specs.declared.datum.Place.{Place}
use Rattle.scheme_data.specs.declared.datum.Datum.{Datum}
use Rattle.scheme_data.specs.declared.datum.Datum as datum
use Rattle.scheme_data.specs.Forms.{Forms, symbol, listed, next, form}
use Rattle.scheme_data.specs.TypedNames.{has_type}
use Rattle.core_forms.specs.Mid.{branch, sequence, assigned, binding, recursive, protected, quoted, own_nesting, mid_nesting, parts_nesting, Parts, none, part, node, raw, body, lambda_form}
use Rattle.core_forms.specs.Names.{binder_of, binders_of, seconds}
use Rattle.core_forms.specs.Table.{raws, lambdas, Turn, becomes, refuses, function_turn, exit_turn, let_turn, letrec_turn, core_turn}
use Rattle.core_forms.specs.Code.{data_of}
use Rattle.core_forms.specs.Working.{lists_of, parts_then, kind_head, kind_binders, node_mid, IsRaws, IsNode, MakesAs}
use Rattle.core_forms.specs.Shapes.{IsScoped, AreParts, binding_nesting}
use Rattle.core_forms.specs.declared.core_form.Binder.{Binder}
use Rattle.core_forms.specs.declared.counting.Counts.{Counts}
use Rattle.core_forms.specs.declared.error.ExpandErr.{ExpandErr}
use Rattle.core_forms.specs.declared.error.ExpandErr.TheVariants as fault
use Rattle.core_forms.specs.declared.words.Keyword.TheVariants as key
use Rattle.core_forms.specs.declared.work.Kind.{Kind}
use Rattle.core_forms.specs.declared.work.Kind.TheVariants as kind
use Rattle.core_forms.specs.declared.work.Lists.{Lists}
use Rattle.core_forms.specs.declared.work.Lists.TheVariants as lists
use Rattle.core_forms.specs.declared.work.Made.{Made}
use Rattle.core_forms.specs.declared.work.Node.{Node}
use Rattle.core_forms.specs.declared.work.Open.TheVariants as open_form
use Rattle.core_forms.specs.declared.work.Part.{Part}
use Rattle.core_forms.specs.declared.work.Work.TheVariants as work
use Rattle.core_forms.proofs.Views.{form-Sym}

-- Parts ---------------------------------------------------------------------------------

pub raws-last : (w : ℕ) (ds : List Datum) (d : Datum) (ps : Parts) → raws w (data_of (ds ++ d ∷ [])) ps ≡ raws w (data_of ds) (part w [] (raw (form d)) ps)
raws-last w [] d ps = refl
raws-last w (e ∷ ds) d ps = ap (part w [] (raw (form e))) (raws-last w ds d ps)

pub raws-more : (w : Lists) (old new : List Datum) (d : Datum) (p : Part) (ps qs : List Part) (later : Parts) → old ≡ d ∷ new → qs ≡ p ∷ ps → p ≡ record { lists = w; work = work.Raw (open_form.Datum d) }
    → raws (lists_of w) (data_of (reverse new)) (parts_then [] qs later) ≡ raws (lists_of w) (data_of (reverse old)) (parts_then [] ps later)
raws-more w old new d p ps qs later e f g =
    ap (λ qs. raws (lists_of w) (data_of (reverse new)) (parts_then [] qs later)) (f ∙ ap (λ p. p ∷ ps) g)
    ∙ (sym (raws-last (lists_of w) (reverse new) d (parts_then [] ps later)) ∙ ap (λ ds. raws (lists_of w) (data_of ds) (parts_then [] ps later)) (sym (reverse-append (d ∷ []) new) ∙ ap reverse (sym e)))

pub lambdas-last : (at : Place) (xs : List Binder) (ds : List Datum) (d : Datum) (ps : Parts) → lambdas at xs (data_of (ds ++ d ∷ [])) ps ≡ lambdas at xs (data_of ds) (part 3 xs (lambda_form at (form d)) ps)
lambdas-last at xs [] d ps = refl
lambdas-last at xs (e ∷ ds) d ps = ap (part 3 xs (lambda_form at (form e))) (lambdas-last at xs ds d ps)

pub lambdas-more : (at : Place) (xs : List Binder) (old new : List Datum) (d : Datum) (p : Part) (ps qs : List Part) (later : Parts) → old ≡ new ++ d ∷ [] → qs ≡ p ∷ ps → p ≡ record { lists = lists.Three; work = work.LambdaForm at d }
    → lambdas at xs (data_of new) (parts_then xs qs later) ≡ lambdas at xs (data_of old) (parts_then xs ps later)
lambdas-more at xs old new d p ps qs later e f g =
    ap (λ qs. lambdas at xs (data_of new) (parts_then xs qs later)) (f ∙ ap (λ p. p ∷ ps) g)
    ∙ (sym (lambdas-last at xs new d (parts_then xs ps later)) ∙ ap (λ ds. lambdas at xs (data_of ds) (parts_then xs ps later)) (sym e))

-- How deep they nest --------------------------------------------------------------------

raws-nest : (ds : List Datum) (d : Datum) → parts_nesting (raws 1 (data_of (d ∷ ds)) none) ≡ 1
raws-nest [] d = refl
raws-nest (e ∷ ds) d = ap (max 1) (raws-nest ds e)

let-nest : (xs : List Binder) (at : Place) (bs : Forms) (ds : List Datum) → max 2 (parts_nesting (raws 3 (data_of ds) (part 1 xs (body at bs) none))) ≡ binding_nesting ds
let-nest xs at bs [] = refl
let-nest xs at bs (d ∷ []) = refl
let-nest xs at bs (d ∷ e ∷ ds) =
    let h = let-nest xs at bs (e ∷ ds) in
    let three : (n : ℕ) → max 2 (max 3 n) ≡ 3 → max 2 (max 3 (max 3 n)) ≡ 3 = λ n g. omega arith in
    three (parts_nesting (raws 3 (data_of ds) (part 1 xs (body at bs) none))) h

letrec-nest : (xs : List Binder) (at : Place) (bs : Forms) (ds : List Datum) → max 2 (parts_nesting (lambdas at xs (data_of ds) (part 1 xs (body at bs) none))) ≡ binding_nesting ds
letrec-nest xs at bs [] = refl
letrec-nest xs at bs (d ∷ []) = refl
letrec-nest xs at bs (d ∷ e ∷ ds) =
    let h = letrec-nest xs at bs (e ∷ ds) in
    let three : (n : ℕ) → max 2 (max 3 n) ≡ 3 → max 2 (max 3 (max 3 n)) ≡ 3 = λ n g. omega arith in
    three (parts_nesting (lambdas at xs (data_of ds) (part 1 xs (body at bs) none))) h

-- Nodes ---------------------------------------------------------------------------------

pub is-raws : (at : Place) (k : Kind) (ds : List Datum) (n : Counts) (o : Node) → IsRaws at k ds o → own_nesting (kind_head k) ≡ 0 → (ds ≡ [] → ⊥) → IsNode (becomes n (node at (kind_head k) (raws 1 (data_of ds) none))) o n
is-raws at k [] n o h f g = absurd (g refl)
is-raws at k (d ∷ ds) n o h f g =
    let is : node_mid o ≡ node at (kind_head k) (raws 1 (data_of (d ∷ ds)) none) =
    ap (λ at. node at (kind_head o.kind) (parts_then [] o.outer (parts_then (kind_binders o.kind) o.inner none))) h.place
    ∙ (ap (λ k. node at (kind_head k) (parts_then [] o.outer (parts_then (kind_binders k) o.inner none))) h.kind
    ∙ (ap (λ ps. node at (kind_head k) (parts_then [] o.outer (parts_then (kind_binders k) ps none))) h.inner ∙ ap (node at (kind_head k)) h.outer)) in
    record {
      is = ap (becomes n) (sym is);
      nests = h.nesting ∙ sym (ap mid_nesting is ∙ (ap (λ w. max w (parts_nesting (raws 1 (data_of (d ∷ ds)) none))) f ∙ ap (max 0) (raws-nest ds d)));
    }

pub is-let : (at : Place) (xs : List Binder) (es es2 ds : List Datum) (n : Counts) (w : ℕ) (os ps : List Part) → w ≡ binding_nesting es → es2 ≡ es → ((qs : Parts) → parts_then [] os qs ≡ raws 3 (data_of es2) qs)
    → ps ≡ record { lists = lists.One; work = work.Body at ds } ∷ []
    → IsNode (becomes n (node at (binding xs) (raws 3 (data_of es) (part 1 xs (body at (data_of ds)) none)))) (record { at = at; kind = kind.Let xs; nesting = w; outer = os; inner = ps }) n
is-let at xs es es2 ds n w os ps h e f g =
    let is : node at (binding xs) (parts_then [] os (parts_then xs ps none)) ≡ node at (binding xs) (raws 3 (data_of es) (part 1 xs (body at (data_of ds)) none)) =
    ap (λ ps. node at (binding xs) (parts_then [] os (parts_then xs ps none))) g
    ∙ (ap (node at (binding xs)) (f (part 1 xs (body at (data_of ds)) none)) ∙ ap (λ es. node at (binding xs) (raws 3 (data_of es) (part 1 xs (body at (data_of ds)) none))) e) in
    record { is = ap (becomes n) (sym is); nests = h ∙ sym (ap mid_nesting is ∙ let-nest xs at (data_of ds) es) }

pub is-letrec : (at : Place) (xs : List Binder) (es ds : List Datum) (n : Counts) (w : ℕ) (os old ps : List Part) → w ≡ binding_nesting es → os ≡ [] → parts_then xs ps none ≡ lambdas at xs (data_of es) (parts_then xs old none)
    → old ≡ record { lists = lists.One; work = work.Body at ds } ∷ []
    → IsNode (becomes n (node at (recursive xs) (lambdas at xs (data_of es) (part 1 xs (body at (data_of ds)) none)))) (record { at = at; kind = kind.Letrec xs; nesting = w; outer = os; inner = ps }) n
is-letrec at xs es ds n w os old ps h e f g =
    let is : node at (recursive xs) (parts_then [] os (parts_then xs ps none)) ≡ node at (recursive xs) (lambdas at xs (data_of es) (part 1 xs (body at (data_of ds)) none)) =
    ap (λ os. node at (recursive xs) (parts_then [] os (parts_then xs ps none))) e
    ∙ (ap (node at (recursive xs)) f ∙ ap (λ old. node at (recursive xs) (lambdas at xs (data_of es) (parts_then xs old none))) g) in
    record { is = ap (becomes n) (sym is); nests = h ∙ sym (ap mid_nesting is ∙ letrec-nest xs at (data_of ds) es) }

-- what a turn is equal to makes the same
pub made-as : (t u : Turn) (r : Result Made ExpandErr) (n : Counts) → t ≡ u → MakesAs u r n → MakesAs t r n
made-as t u r n e h = subst (λ t. MakesAs t r n) (sym e) h

-- Shapes --------------------------------------------------------------------------------

module _ (n : Counts) (at : Place) where
  pub quote-wrong : (ds : List Datum) (k : ℕ) → k ≡ length ds → (k ≡ 1 → ⊥) → core_turn n at key.Quote (data_of ds) ≡ refuses (fault.Form at)
  quote-wrong [] k is h = refl
  quote-wrong (d ∷ []) k is h = absurd (h is)
  quote-wrong (d ∷ e ∷ ds) k is h = refl

  pub quote-is : (ds left : List Datum) (d : Datum) (k : ℕ) → ds ≡ d ∷ left → k ≡ length ds → k ≡ 1 → core_turn n at key.Quote (data_of ds) ≡ becomes n (node at (quoted (form d)) none)
  quote-is ds left d k e is one = ap (λ ds. core_turn n at key.Quote (data_of ds)) e ∙ go left (sym (ap length e) ∙ (sym is ∙ one)) where
    go : (left : List Datum) → length (d ∷ left) ≡ 1 → core_turn n at key.Quote (data_of (d ∷ left)) ≡ becomes n (node at (quoted (form d)) none)
    go [] h = refl
    go (e ∷ left) h = absurd (omega (arith, h))

  pub if-few : (ds : List Datum) → length ds < 2 → core_turn n at key.If (data_of ds) ≡ refuses (fault.Form at)
  if-few [] h = refl
  if-few (a ∷ []) h = refl
  if-few (a ∷ b ∷ ds) h = absurd (omega (arith, h))

  pub if-many : (ds : List Datum) → 3 < length ds → core_turn n at key.If (data_of ds) ≡ refuses (fault.Form at)
  if-many [] h = refl
  if-many (a ∷ []) h = refl
  if-many (a ∷ b ∷ []) h = absurd (omega (arith, h))
  if-many (a ∷ b ∷ c ∷ []) h = absurd (omega (arith, h))
  if-many (a ∷ b ∷ c ∷ d ∷ ds) h = refl

  pub if-is : (ds : List Datum) → 2 ≤ length ds → length ds ≤ 3 → core_turn n at key.If (data_of ds) ≡ becomes n (node at branch (raws 1 (data_of ds) none))
  if-is [] g h = absurd (omega (arith, g))
  if-is (a ∷ []) g h = absurd (omega (arith, g))
  if-is (a ∷ b ∷ []) g h = refl
  if-is (a ∷ b ∷ c ∷ []) g h = refl
  if-is (a ∷ b ∷ c ∷ d ∷ ds) g h = absurd (omega (arith, h))

  pub begin-is : (ds : List Datum) → (ds ≡ [] → ⊥) → core_turn n at key.Begin (data_of ds) ≡ becomes n (node at sequence (raws 1 (data_of ds) none))
  begin-is [] h = absurd (h refl)
  begin-is (a ∷ ds) h = refl

  pub protect-few : (ds : List Datum) → length ds < 2 → core_turn n at key.UnwindProtect (data_of ds) ≡ refuses (fault.Form at)
  protect-few [] h = refl
  protect-few (a ∷ []) h = refl
  protect-few (a ∷ b ∷ ds) h = absurd (omega (arith, h))

  pub protect-some : (ds : List Datum) → 2 ≤ length ds → core_turn n at key.UnwindProtect (data_of ds) ≡ becomes n (node at protected (raws 1 (data_of ds) none))
  protect-some [] h = absurd (omega (arith, h))
  protect-some (a ∷ []) h = absurd (omega (arith, h))
  protect-some (a ∷ b ∷ ds) h = refl

  set-symbol : (ds left : List Datum) (d : Datum) (p : Place) (x : List ℕ) (m : ℕ) → ds ≡ d ∷ left → d ≡ datum.Sym p x m → core_turn n at key.Set (data_of ds) ≡ core_turn n at key.Set (next (symbol p x m) (data_of left))
  set-symbol ds left d p x m e f = ap (λ ds. core_turn n at key.Set (data_of ds)) e ∙ ap (λ d. core_turn n at key.Set (next d (data_of left))) (ap form f ∙ form-Sym p x m)

  pub set-other : (ds left : List Datum) (d : Datum) (p : Place) (x : List ℕ) (m : ℕ) → ds ≡ d ∷ left → d ≡ datum.Sym p x m → (length left ≡ 1 → ⊥) → core_turn n at key.Set (data_of ds) ≡ refuses (fault.Form at)
  set-other ds [] d p x m e f h = set-symbol ds [] d p x m e f
  set-other ds (b ∷ []) d p x m e f h = absurd (h refl)
  set-other ds (b ∷ c ∷ left) d p x m e f h = set-symbol ds (b ∷ c ∷ left) d p x m e f

  pub set-name : (ds left : List Datum) (d : Datum) (p : Place) (x y : List ℕ) (m k : ℕ) → ds ≡ d ∷ left → d ≡ datum.Sym p x m → length left ≡ 1 → has_type y ≡ false → y ≡ x → k ≡ m
      → core_turn n at key.Set (data_of ds) ≡ becomes n (node at (assigned y k) (raws 1 (data_of left) none))
  set-name ds [] d p x y m k e f h g i j = absurd (omega (arith, h))
  set-name ds (b ∷ []) d p x y m k e f h g i j =
      set-symbol ds (b ∷ []) d p x m e f ∙ (ap (λ x. core_turn n at key.Set (next (symbol p x m) (data_of (b ∷ [])))) (sym i)
      ∙ (ap (λ m. core_turn n at key.Set (next (symbol p y m) (data_of (b ∷ [])))) (sym j) ∙ rw g refl))
  set-name ds (b ∷ c ∷ left) d p x y m k e f h g i j = absurd (omega (arith, h))

-- Names and a body ----------------------------------------------------------------------

module _ (n : Counts) (at : Place) where
  pub lambda-is : (ds : Forms) (list bs : List Datum) (o : Option (List Binder)) → IsScoped ds list bs → o ≡ binders_of true (data_of list) → core_turn n at key.Lambda ds ≡ function_turn n at o (data_of bs)
  lambda-is ds list [] o h e = absurd (h.some refl)
  lambda-is ds list (b ∷ bs) o h e = ap (core_turn n at key.Lambda) h.is ∙ ap (λ o. function_turn n at o (data_of (b ∷ bs))) (sym e)

  pub let-is : (ds : Forms) (list bs : List Datum) (xs : List Binder) (es : List Datum) → IsScoped ds list bs → AreParts true (data_of list) xs es
      → core_turn n at key.Let ds ≡ becomes n (node at (binding xs) (raws 3 (data_of es) (part 1 xs (body at (data_of bs)) none)))
  let-is ds list [] xs es h g = absurd (h.some refl)
  let-is ds list (b ∷ bs) xs es h g =
      ap (core_turn n at key.Let) h.is ∙ (ap (λ o. let_turn n at o (seconds (data_of list)) (data_of (b ∷ bs))) g.names ∙ ap (λ es. let_turn n at (Some xs) es (data_of (b ∷ bs))) g.values_are)

  pub letrec-is : (ds : Forms) (list bs : List Datum) (xs : List Binder) (es : List Datum) → IsScoped ds list bs → AreParts false (data_of list) xs es
      → core_turn n at key.Letrec ds ≡ becomes n (node at (recursive xs) (lambdas at xs (data_of es) (part 1 xs (body at (data_of bs)) none)))
  letrec-is ds list [] xs es h g = absurd (h.some refl)
  letrec-is ds list (b ∷ bs) xs es h g =
      ap (core_turn n at key.Letrec) h.is ∙ (ap (λ o. letrec_turn n at o (seconds (data_of list)) (data_of (b ∷ bs))) g.names ∙ ap (λ es. letrec_turn n at (Some xs) es (data_of (b ∷ bs))) g.values_are)

  pub exit-more : (ds : Forms) (list left bs : List Datum) (d : Datum) → IsScoped ds list bs → list ≡ left ++ d ∷ [] → (left ≡ [] → ⊥) → core_turn n at key.BindExit ds ≡ refuses (fault.Form at)
  exit-more ds list left [] d h e f = absurd (h.some refl)
  exit-more ds list [] (b ∷ bs) d h e f = absurd (f refl)
  exit-more ds list (x ∷ []) (b ∷ bs) d h e f = ap (core_turn n at key.BindExit) h.is ∙ ap (λ list. core_turn n at key.BindExit (next (listed h.place (data_of list)) (data_of (b ∷ bs)))) e
  exit-more ds list (x ∷ y ∷ left) (b ∷ bs) d h e f = ap (core_turn n at key.BindExit) h.is ∙ ap (λ list. core_turn n at key.BindExit (next (listed h.place (data_of list)) (data_of (b ∷ bs)))) e

  pub exit-is : (ds : Forms) (list left bs : List Datum) (d : Datum) (o : Option Binder) → IsScoped ds list bs → list ≡ left ++ d ∷ [] → left ≡ [] → o ≡ binder_of false (form d) → core_turn n at key.BindExit ds ≡ exit_turn n at o (data_of bs)
  exit-is ds list left [] d o h e f g = absurd (h.some refl)
  exit-is ds list left (b ∷ bs) d o h e f g =
      ap (core_turn n at key.BindExit) h.is ∙ (ap (λ list. core_turn n at key.BindExit (next (listed h.place (data_of list)) (data_of (b ∷ bs)))) (e ∙ ap (λ left. left ++ d ∷ []) f)
      ∙ ap (λ o. exit_turn n at o (data_of (b ∷ bs))) (sym g))

pub no-values : (es : List Datum) → es ≡ [] → 2 ≡ binding_nesting es
no-values es e = sym (ap binding_nesting e)

pub some-values : (es : List Datum) → (es ≡ [] → ⊥) → 3 ≡ binding_nesting es
some-values [] h = absurd (h refl)
some-values (e ∷ es) h = refl
