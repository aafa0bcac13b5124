-- Neighbouring definitions of functions.
use Rattle.std.proofs.Common.{◌≡◌, ℕ, ◌≤◌, Bool, true, false, not, if◌then◌else◌, List, [], ◌∷◌, ◌++◌, map, length, Result, Ok, Err, refl, sym, ap, ◌∙◌, subst, arith}
use Rattle.std.proofs.lemmas.List.{map-append}
use Rattle.scheme_data.specs.declared.datum.Place.{Place}
use Rattle.scheme_data.specs.declared.datum.Datum.{Datum}
use Rattle.scheme_data.specs.Forms.{Form, Forms, form, end, next}
use Rattle.syntax_rules.specs.Trees.{Macro}
use Rattle.syntax_rules.specs.declared.rules.Rules.{Rules}
use Rattle.core_forms.specs.Scope.{Marked, marked, all_marked, entered, is_bound}
use Rattle.core_forms.specs.Mid as mid
use Rattle.core_forms.specs.Mid.{recursive, Mid, raw, body, group, variable, refused, node, Parts, part, none, mid_nesting, parts_nesting}
use Rattle.core_forms.specs.Table.{Turn, becomes}
use Rattle.core_forms.specs.Bodies.{Look, expression, breach, look, binders_in, functions, letrec_at, group_turn}
use Rattle.core_forms.specs.Rewriting.{moved, step, Reaches, here, onto, StopsAt, Halts}
use Rattle.core_forms.specs.Code.{data_of, OkOrMemory}
use Rattle.core_forms.specs.Working.{function_of, work_mid, parts_then}
use Rattle.core_forms.specs.declared.core_form.Binder.{Binder}
use Rattle.core_forms.specs.declared.counting.Counts.{Counts}
use Rattle.core_forms.specs.declared.error.ExpandErr.{ExpandErr}
use Rattle.core_forms.specs.declared.error.ExpandErr.TheVariants as fault
use Rattle.core_forms.specs.declared.words.Keyword.TheVariants as key
use Rattle.core_forms.specs.declared.work.Open.TheVariants as open_form
use Rattle.core_forms.specs.declared.work.Function.{Function}
use Rattle.core_forms.specs.declared.work.Part.{Part}
use Rattle.core_forms.specs.declared.work.Lists.TheVariants as lists
use Rattle.core_forms.specs.declared.work.Work.{Work}
use Rattle.core_forms.specs.declared.work.Work.TheVariants as work
use Rattle.expansion_steps.specs.declared.looking.First.{First}
use Rattle.expansion_steps.specs.declared.looking.First.TheVariants as first
use Rattle.expansion_steps.specs.declared.looking.Looked.{Looked}
use Rattle.expansion_steps.specs.declared.looking.Looked.TheVariants as looked
use Rattle.expander.specs.declared.grouping.Group.{Group}
use Rattle.expander.specs.declared.grouping.Neighbour.{Neighbour}
use Rattle.expander.specs.declared.grouping.Neighbour.TheVariants as neighbour
use Rattle.expander.specs.declared.walking.Letrec.{Letrec}
use Rattle.expansion_steps.specs.Heads.{macros_of}
use Rattle.expansion_steps.specs.Steps.{Looks, Finds, Shows, of_a_use, LooksAs}
use Rattle.expander.specs.Walks.{Fits, IsGroup, letrec_mid}
use Rattle.expander.specs.Groups.{functions_of, binders_of, group_mid, Stays, IsFirst, neighbour_mid, Closed, NeighbourAs, GroupedAs}
use Rattle.expander.proofs.MidSteps.{onward}
use Rattle.expander.proofs.TurnWalks.{fits, too_deep}

-- Parts ---------------------------------------------------------------------------------

functions_last : (xs : List Binder) (gs : List mid.Function) (g : mid.Function) (ps : Parts) → functions xs (gs ++ g ∷ []) ps ≡ functions xs gs (part 3 xs (raw g.value) ps)
functions_last xs [] g ps = refl
functions_last xs (h ∷ gs) g ps = ap (part 3 xs (raw h.value)) (functions_last xs gs g ps)

binders_last : (gs : List mid.Function) (g : mid.Function) → binders_in (gs ++ g ∷ []) ≡ binders_in gs ++ g.binder ∷ []
binders_last [] g = refl
binders_last (h ∷ gs) g = ap (λ (xs : List Binder). h.binder ∷ xs) (binders_last gs g)

one_by_one : (xs : List Binder) (x : Binder) (ys : List Binder) → (xs ++ x ∷ []) ++ ys ≡ xs ++ x ∷ ys
one_by_one [] x ys = refl
one_by_one (y ∷ xs) x ys = ap (λ (zs : List Binder). y ∷ zs) (one_by_one xs x ys)

pub all_in_order : (xs : List Binder) → xs ++ [] ≡ xs
all_in_order [] = refl
all_in_order (x ∷ xs) = ap (λ (zs : List Binder). x ∷ zs) (all_in_order xs)

pub one_more_in_order : (old new left before : List Binder) (x : Binder) → before ≡ x ∷ left → new ≡ old ++ x ∷ [] → new ++ left ≡ old ++ before
one_more_in_order old new left before x e g = ap (λ (zs : List Binder). zs ++ left) g ∙ one_by_one old x left ∙ ap (λ (zs : List Binder). old ++ zs) (sym e)

pub functions_more : (fs left : List Function) (f : Function) (new old : List Part) (xs : List Binder) → fs ≡ left ++ f ∷ [] → new ≡ record { lists = lists.Three; work = work.Raw (open_form.Row f.at key.Lambda f.forms) } ∷ old
    → functions xs (map function_of left) (parts_then xs new none) ≡ functions xs (map function_of fs) (parts_then xs old none)
functions_more fs left f new old xs h g = ap (λ (ps : List Part). functions xs (map function_of left) (parts_then xs ps none)) g
    ∙ sym (functions_last xs (map function_of left) (function_of f) (parts_then xs old none))
    ∙ ap (λ (gs : List mid.Function). functions xs gs (parts_then xs old none)) (sym (map-append function_of left (f ∷ [])))
    ∙ ap (λ (fs : List Function). functions xs (map function_of fs) (parts_then xs old none)) (sym h)

pub binders_more : (fs left : List Function) (f : Function) (new old : List Binder) → fs ≡ left ++ f ∷ [] → new ≡ f.binder ∷ old
    → binders_in (map function_of left) ++ new ≡ binders_in (map function_of fs) ++ old
binders_more fs left f new old h g = ap (λ (ys : List Binder). binders_in (map function_of left) ++ ys) g
    ∙ sym (one_by_one (binders_in (map function_of left)) f.binder old)
    ∙ ap (λ (ys : List Binder). ys ++ old) (sym (binders_last (map function_of left) (function_of f)))
    ∙ ap (λ (gs : List mid.Function). binders_in gs ++ old) (sym (map-append function_of left (f ∷ [])))
    ∙ ap (λ (fs : List Function). binders_in (map function_of fs) ++ old) (sym h)

pub fits_more : (w : Work) (new old : List Part) → new ≡ record { lists = lists.Three; work = w } ∷ old → Fits 3 old → Fits 3 new
fits_more w new old e h = subst (λ (ps : List Part). Fits 3 ps) (sym e) (omega arith, h)

-- Groups that grow ----------------------------------------------------------------------

entered_last : (xs : List Binder) (x : Binder) (s : List Marked) → entered (xs ++ x ∷ []) s ≡ marked x ∷ entered xs s
entered_last [] x s = refl
entered_last (y ∷ xs) x s = entered_last xs x (marked y ∷ s)

longer : (fs : List mid.Function) (f : mid.Function) → 1 ≤ length (fs ++ f ∷ [])
longer [] f = omega arith
longer (h ∷ fs) f = omega arith

pub stays_same : (g h : Group) (old new : List Marked) → g.names ≡ all_marked (binders_of g) → h.at ≡ g.at → h.names ≡ g.names → h.functions ≡ g.functions → new ≡ old → Stays g h old new
stays_same g h old new n a m f e = record {
  place = a;
  named = m ∙ n ∙ ap (λ (fs : List Function). all_marked (binders_in (map function_of fs))) (sym f);
  some = λ l. subst (λ (fs : List Function). 1 ≤ length (map function_of fs)) (sym f) l;
  inner = λ s i. e ∙ i ∙ ap (λ (fs : List Function). entered (binders_in (map function_of fs)) s) (sym f);
}

pub stays_self : (g : Group) (old : List Marked) → g.names ≡ all_marked (binders_of g) → Stays g g old old
stays_self g old n = stays_same g g old old n refl refl refl refl

pub stays_on : (g h k : Group) (a b d : List Marked) → Stays g h a b → Stays h k b d → Stays g k a d
stays_on g h k a b d p q = record {
  place = q.place ∙ p.place;
  named = q.named;
  some = λ l. q.some (p.some l);
  inner = λ s i. q.inner s (p.inner s i);
}

pub functions_joined : (gs hs : List Function) (f : Function) → hs ≡ gs ++ f ∷ [] → map function_of hs ≡ map function_of gs ++ function_of f ∷ []
functions_joined gs hs f e = ap (map function_of) e ∙ map-append function_of gs (f ∷ [])

pub stays_more : (g h : Group) (f : Function) (old new : List Marked) → g.names ≡ all_marked (binders_of g) → h.at ≡ g.at → h.names ≡ g.names ++ (f.binder.name, f.binder.mark) ∷ [] → h.functions ≡ g.functions ++ f ∷ []
    → new ≡ (f.binder.name, f.binder.mark) ∷ old → Stays g h old new
stays_more g h f old new n a m e i =
    let same : functions_of h ≡ functions_of g ++ function_of f ∷ [] = functions_joined g.functions h.functions f e in
    let are : binders_of h ≡ binders_of g ++ f.binder ∷ [] = ap binders_in same ∙ binders_last (functions_of g) (function_of f) in
    record {
      place = a;
      named = m ∙ ap (λ (l : List Marked). l ++ marked f.binder ∷ []) n ∙ sym (map-append marked (binders_of g) (f.binder ∷ [])) ∙ ap all_marked (sym are);
      some = λ l. subst (λ (fs : List mid.Function). 1 ≤ length fs) (sym same) (longer (functions_of g) (function_of f));
      inner = λ s o. i ∙ ap (λ (l : List Marked). marked f.binder ∷ l) o ∙ sym (entered_last (binders_of g) f.binder s) ∙ ap (λ (xs : List Binder). entered xs s) (sym are);
    }

-- What stands behind --------------------------------------------------------------------

breach_ends : (ks : List Macro) (s : List Marked) (f : ExpandErr) (last : Forms) → of_a_use ks s f ≡ true → (n : Counts) (at : Place) (fs : List mid.Function) → group_turn n at fs last (breach f) ≡ becomes n (letrec_at at fs (body at last))
breach_ends ks s (fault.BadRules p) last e n at fs = refl
breach_ends ks s (fault.NoRule p) last e n at fs = refl
breach_ends ks s (fault.Form p) last e n at fs = absurd (cc)
breach_ends ks s (fault.Limit p) last e n at fs = refl
breach_ends ks s fault.Memory last e n at fs = refl

module _ (ks : List Macro) (s : List Marked) where
  group_reach : (room : ℕ) (at : Place) (fs : List mid.Function) {n k : Counts} {ds es : Forms} → Looks ks (entered (binders_in fs) s) n ds k es → Reaches Mid (step ks room s) n (group at fs ds) k (group at fs es)
  group_reach room at fs Looks.here = here
  group_reach room at fs {n} (Looks.onto {m = m} {d = d} {ds = ds} {es = es} g r) = onto (ap (λ l. moved room (group_turn n at fs (next d ds) l)) g ∙ fits room m (group at fs es) (omega arith)) (group_reach room at fs r)

  module _ (n : Counts) (g : Group) (ds : Forms) (inner : List Marked) (there : inner ≡ entered (binders_of g) s) where
    looks_there : (k : Counts) (es : Forms) → Looks ks inner n ds k es → Looks ks (entered (binders_of g) s) n ds k es
    looks_there k es q = subst (λ (t : List Marked). Looks ks t n ds k es) there q

    pub group_instead : (k : Counts) (es : Forms) → Looks ks inner n ds k es → (room : ℕ) → Reaches Mid (step ks room s) n (group_mid g ds) k (group_mid g es)
    group_instead k es q room = group_reach room g.at (functions_of g) (looks_there k es q)

    -- what is found first
    found_step : (k : Counts) (d : Form) (es : Forms) (l : Look) (t : Turn) → look ks inner k d es ≡ l → group_turn k g.at (functions_of g) (next d es) l ≡ t → (room : ℕ) → step ks room s k (group_mid g (next d es)) ≡ moved room t
    found_step k d es l t i e room = ap (λ (u : List Marked). moved room (group_turn k g.at (functions_of g) (next d es) (look ks u k d es))) (sym there) ∙ ap (λ (l : Look). moved room (group_turn k g.at (functions_of g) (next d es) l)) i ∙ ap (moved room) e

    found : (h : Group) (b : Neighbour) (k : Counts) (d : Form) (es : Forms) (l : Look) → Finds ks inner n ds k d es l → group_turn k g.at (functions_of g) (next d es) l ≡ becomes k (neighbour_mid h b) → NeighbourAs ks s n (group_mid g ds) h b k
    found h (neighbour.More fs) k d es l x e = λ room. onward (group_instead k (next d es) x.path room) (onto (found_step k d es l _ x.is e room ∙ fits room k (group_mid h (data_of fs)) (omega arith)) here)
    found h (neighbour.Body w) k d es l x e = record { last = group_mid g (next d es); path = group_instead k (next d es) x.path; is = found_step k d es l _ x.is e }

    abbrev Turning : Group → First → Neighbour → Type 0
    Turning h f b = (n : Counts) (last : Forms) (l : Look) → IsFirst f last l → group_turn n g.at (functions_of g) last l ≡ becomes n (neighbour_mid h b)

    pub group_found : (h : Group) (f : First) (b : Neighbour) (k : Counts) → Turning h f b → LooksAs ks inner n ds (Ok (looked.First f)) k → NeighbourAs ks s n (group_mid g ds) h b k
    group_found h (first.Stuck d es e) b k t x = found h b k (form d) (data_of es) (breach e) x.finds (t k (next (form d) (data_of es)) (breach e) (record { are = refl; ends = breach_ends ks inner e (next (form d) (data_of es)) x.of_use }))
    group_found h (first.Variable p y o es) b k t x = found h b k x.first x.others _ x.finds (t k (next x.first x.others) _ refl)
    group_found h (first.Function p f es) b k t x = found h b k x.first x.others _ x.finds (t k (next x.first x.others) _ refl)
    group_found h (first.Expression d es) b k t x = found h b k (form d) (data_of es) (expression (form d) (data_of es)) x (t k (next (form d) (data_of es)) (expression (form d) (data_of es)) (record { are = refl; ends = λ n at fs. refl }))

    pub group_refused : (p : Place) (k : Counts) → Shows ks inner n ds k (breach (fault.Form p)) → Closed ks s n (group_mid g ds) g (refused p) k
    group_refused p k x = record { last = group_mid g (next x.first x.others); path = group_instead k (next x.first x.others) x.finds.path; is = found_step k x.first x.others _ _ x.finds.is refl }

  -- Loops -------------------------------------------------------------------------------

  module _ (n : Counts) (a : Mid) (k : Counts) (g : Group) (all : List Datum) (path : (room : ℕ) → Reaches Mid (step ks room s) n a k (group_mid g (data_of all))) where
    pub group_without_end : all ≡ [] → (room : ℕ) → StopsAt Mid (step ks room s) n a (fault.Form g.at)
    group_without_end e room = record { counts = k; form = group_mid g end; reaches = subst (λ (all : List Datum). Reaches Mid (step ks room s) n a k (group_mid g (data_of all))) e (path room); stop = refl }

    module _ (d : Datum) (ds : List Datum) (cut : all ≡ d ∷ ds) (h : Group) (after : Counts) where
      reached : (room : ℕ) → Reaches Mid (step ks room s) n a k (group_mid g (next (form d) (data_of ds)))
      reached room = subst (λ (all : List Datum). Reaches Mid (step ks room s) n a k (group_mid g (data_of all))) cut (path room)

      pub group_on : (b : Neighbour) (es : List Datum) → b ≡ neighbour.More es → NeighbourAs ks s k (group_mid g (next (form d) (data_of ds))) h b after → (room : ℕ) → Reaches Mid (step ks room s) n a after (group_mid h (data_of es))
      group_on b es e x room =
          let y : NeighbourAs ks s k (group_mid g (next (form d) (data_of ds))) h (neighbour.More es) after = subst (λ (b : Neighbour). NeighbourAs ks s k (group_mid g (next (form d) (data_of ds))) h b after) e x in
          onward (reached room) (y room)

      pub group_closed : (b : Neighbour) (w : Work) → b ≡ neighbour.Body w → NeighbourAs ks s k (group_mid g (next (form d) (data_of ds))) h b after → Closed ks s n a h (work_mid w) after
      group_closed b w e x =
          let y : Closed ks s k (group_mid g (next (form d) (data_of ds))) h (work_mid w) after = subst (λ (b : Neighbour). NeighbourAs ks s k (group_mid g (next (form d) (data_of ds))) h b after) e x in
          record { last = y.last; path = λ room. onward (reached room) (y.path room); is = y.is }

-- Letrecs -------------------------------------------------------------------------------

flat : (w : Work) → mid_nesting (work_mid w) ≡ 0
flat (work.Raw o) = refl
flat (work.LambdaForm at d) = refl
flat (work.Body at ds) = refl
flat (work.LetStar at xs bs) = refl
flat (work.Choice at a b k ds) = refl
flat (work.Variable at x o ds) = refl
flat (work.Refused at) = refl

low : (xs : List Binder) (fs : List mid.Function) (m : Mid) → mid_nesting m ≡ 0 → parts_nesting (functions xs fs (part 1 xs m none)) ≤ 3
low xs [] m e = omega (arith, e)
low xs (f ∷ fs) m e = let h : parts_nesting (functions xs fs (part 1 xs m none)) ≤ 3 = low xs fs m e in omega (arith, h)

letrec_nesting : (at : Place) (fs : List mid.Function) (m : Mid) → mid_nesting m ≡ 0 → 1 ≤ length fs → mid_nesting (letrec_at at fs m) ≡ 3
letrec_nesting at [] m e h = absurd (omega arith)
letrec_nesting at (f ∷ fs) m e h = let l : parts_nesting (functions (binders_in (f ∷ fs)) fs (part 1 (binders_in (f ∷ fs)) m none)) ≤ 3 = low (binders_in (f ∷ fs)) fs m e in omega (arith, l)

pub letrec_closed : (ks : List Macro) (room : ℕ) (s : List Marked) (n : Counts) (m : Mid) (at : Place) (g : Group) (w : Work) (l : Letrec) (after : Counts) → Closed ks s n m g (work_mid w) after → g.at ≡ at → 1 ≤ length (functions_of g)
    → l.binders ≡ binders_of g → ((xs : List Binder) → parts_then xs l.inner none ≡ functions xs (functions_of g) (part 1 xs (work_mid w) none)) → IsGroup ks room s n m at l after
letrec_closed ks room s n m at g w l after x p some b ps =
    let nests : mid_nesting (letrec_at g.at (functions_of g) (work_mid w)) ≡ 3 = letrec_nesting g.at (functions_of g) (work_mid w) (flat w) some in
    let is : letrec_mid at l ≡ letrec_at g.at (functions_of g) (work_mid w) = ap (λ (xs : List Binder). node at (recursive xs) (parts_then xs l.inner none)) b ∙ ap (node at (recursive (binders_of g))) (ps (binders_of g)) ∙ ap (λ (at : Place). letrec_at at (functions_of g) (work_mid w)) (sym p) in
    record {
      reaches = λ h. subst (λ (o : Mid). Reaches Mid (step ks room s) n m after o) (sym is) (onward (x.path room) (onto (x.is room ∙ fits room after (letrec_at g.at (functions_of g) (work_mid w)) (omega (arith, nests, h))) here));
      deep = λ h. record { counts = after; form = x.last; reaches = x.path room; stop = x.is room ∙ too_deep room after (letrec_at g.at (functions_of g) (work_mid w)) (omega (arith, nests, h)) };
    }

-- The code ------------------------------------------------------------------------------

pub in_order_first : (binders names all : List Binder) → binders ++ names ≡ all → names ≡ [] → binders ≡ all
in_order_first binders names all e z = sym (all_in_order binders) ∙ ap (λ (ys : List Binder). binders ++ ys) (sym z) ∙ e

pub names_more : (b : Bool) (old new : List Marked) (x y : List ℕ) (m : ℕ) → b ≡ true → x ≡ y → new ≡ (if b then old ++ (x, m) ∷ [] else old) → new ≡ old ++ (y, m) ∷ []
names_more true old new x y m i e h = h ∙ ap (λ (x : List ℕ). old ++ (x, m) ∷ []) e
names_more false old new x y m i e h = absurd (cc)

pub scope_more : (old new : List Marked) (x y : List ℕ) (m : ℕ) → x ≡ y → new ≡ (x, m) ∷ old → new ≡ (y, m) ∷ old
scope_more old new x y m e h = h ∙ ap (λ (x : List ℕ). (x, m) ∷ old) e

module _ (ks : List Macro) (n : Counts) (g : Group) (ds : Forms) (inner : List Marked) (k : Counts) where
  pub behind_refused : (e : ExpandErr) (p : Place) → e ≡ fault.Form p → LooksAs ks inner n ds (Err e) k → (s : List Marked) → inner ≡ entered (binders_of g) s → Closed ks s n (group_mid g ds) g (refused p) k
  behind_refused e p i x s there = group_refused ks s n g ds inner there p k (subst (λ (e : ExpandErr). LooksAs ks inner n ds (Err e) k) i x)

  pub behind_instead : (t : Looked) (es : List Datum) → t ≡ looked.Instead es → LooksAs ks inner n ds (Ok t) k → (s : List Marked) → inner ≡ entered (binders_of g) s → (room : ℕ) → Reaches Mid (step ks room s) n (group_mid g ds) k (group_mid g (data_of es))
  behind_instead t es i x s there = group_instead ks s n g ds inner there k (data_of es) (subst (λ (t : Looked). LooksAs ks inner n ds (Ok t) k) i x)

  pub behind_found : (t : Looked) (f : First) (h : Group) (b : Result Neighbour ExpandErr) (after : Counts) → t ≡ looked.First f → LooksAs ks inner n ds (Ok t) k → after ≡ k
      → OkOrMemory b (λ b. (n : Counts) (last : Forms) (l : Look) → IsFirst f last l → group_turn n g.at (functions_of g) last l ≡ becomes n (neighbour_mid h b))
      → OkOrMemory b (λ b. (s : List Marked) → inner ≡ entered (binders_of g) s → NeighbourAs ks s n (group_mid g ds) h b after)
  behind_found t f h (Ok b) after i x e turns = λ s there. subst (λ (k : Counts). NeighbourAs ks s n (group_mid g ds) h b k) (sym e) (group_found ks s n g ds inner there h f b k turns (subst (λ (t : Looked). LooksAs ks inner n ds (Ok t) k) i x))
  behind_found t f h (Err e) after i x a turns = turns

pub neighbour_by : (ms os : List Rules) (s : List Marked) (n : Counts) (m : Mid) (h : Group) (b : Neighbour) (k : Counts) → ms ≡ os → NeighbourAs (macros_of ms) s n m h b k → NeighbourAs (macros_of os) s n m h b k
neighbour_by ms os s n m h b k e x = subst (λ (ms : List Rules). NeighbourAs (macros_of ms) s n m h b k) e x

pub grouped_by : (ms os : List Rules) (s : List Marked) (n k : Counts) (m : Mid) (h : Group) (r : Result Work ExpandErr) (after : Counts) → ms ≡ os → n ≡ k → GroupedAs (macros_of ms) s n m h r after → GroupedAs (macros_of os) s k m h r after
grouped_by ms os s n k m h r after e i x = subst (λ (ms : List Rules). GroupedAs (macros_of ms) s k m h r after) e (subst (λ (n : Counts). GroupedAs (macros_of ms) s n m h r after) i x)

first_joined : (x : List ℕ) (m : ℕ) (g : Group) (joined : Bool) → g.functions ≡ [] → is_bound x m (all_marked (binders_of g)) ≡ not joined → joined ≡ true
first_joined x m g true z e = refl
first_joined x m g false z e =
    let h : false ≡ true = sym (ap (λ (fs : List Function). is_bound x m (all_marked (binders_in (map function_of fs)))) z) ∙ e in
    absurd (cc)

module _ (s t : List Marked) (at : Place) (f : Function) (g h : Group) (joined : Bool) (a : g.at ≡ at) (z : g.functions ≡ []) (clash : is_bound f.binder.name f.binder.mark (all_marked (binders_of g)) ≡ not joined)
    (same : functions_of h ≡ (if joined then functions_of g ++ function_of f ∷ [] else functions_of g)) (stays : Stays g h s t) where
  one_function : functions_of h ≡ function_of f ∷ []
  one_function = same ∙ ap (λ (b : Bool). if b then functions_of g ++ function_of f ∷ [] else functions_of g) (first_joined f.binder.name f.binder.mark g joined z clash) ∙ ap (λ (fs : List Function). map function_of fs ++ function_of f ∷ []) z

  first_mid : (ds : Forms) → group_mid h ds ≡ group at (function_of f ∷ []) ds
  first_mid ds = ap (λ (at : Place). group at (functions_of h) ds) (stays.place ∙ a) ∙ ap (λ (fs : List mid.Function). group at fs ds) one_function

  pub first_inner : t ≡ entered (binders_of h) s
  first_inner = stays.inner s (ap (λ (fs : List Function). entered (binders_in (map function_of fs)) s) (sym z))

  module _ (ks : List Macro) (n : Counts) (ds : Forms) (after : Counts) where
    pub group_halts : (k : Group) (e : ExpandErr) → GroupedAs ks s n (group_mid h ds) k (Err e) after → (room : ℕ) → Halts Mid (step ks room s) n (group at (function_of f ∷ []) ds) e
    group_halts k e x room = subst (λ (m : Mid). Halts Mid (step ks room s) n m e) (first_mid ds) (x room)

    pub group_known : (u : List Marked) (k : Group) (w : Work) (l : Letrec) → Stays h k t u → GroupedAs ks s n (group_mid h ds) k (Ok w) after → l.binders ≡ binders_of k
        → ((xs : List Binder) → parts_then xs l.inner none ≡ functions xs (functions_of k) (part 1 xs (work_mid w) none)) → (room : ℕ) → IsGroup ks room s n (group at (function_of f ∷ []) ds) at l after
    group_known u k w l q x b ps room = letrec_closed ks room s n (group at (function_of f ∷ []) ds) at k w l after (subst (λ (m : Mid). Closed ks s n m k (work_mid w) after) (first_mid ds) x) (q.place ∙ stays.place ∙ a)
        (q.some (subst (λ (fs : List mid.Function). 1 ≤ length fs) (sym one_function) (omega arith))) b ps
