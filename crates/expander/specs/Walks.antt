-- What the inner functions of the walk answer.
use Rattle.std.specs.Prelude.{◌≡◌, ℕ, ◌-◌, ◌≤◌, ◌<◌, List, [], ◌∷◌, ◌++◌, length, Option, Some, None, Result, Ok, Err}
use Rattle.scheme_data.specs.declared.datum.Place.{Place}
use Rattle.scheme_data.specs.declared.datum.Datum.{Datum}
use Rattle.scheme_data.specs.Forms.{Form, Forms, form, end, next}
use Rattle.scheme_data.specs.declared.datum.LimitKind.TheVariants as limit
use Rattle.syntax_rules.specs.Trees.{Macro}
use Rattle.core_forms.specs.Scope.{Marked, entered}
use Rattle.core_forms.specs.Mid.{tree, raw, sequence, recursive, node, Mid, Parts, none, part, rest, mid_nesting, finished}
use Rattle.core_forms.specs.Table.{Turn, becomes, refuses}
use Rattle.core_forms.specs.Bodies.{Look, of_variable, of_function, expression, breach, look, variable_at}
use Rattle.core_forms.specs.Rewriting.{Progress, still, moves, stops, moved, turn, step, steps, Reaches, StopsAt, Halts, Walked}
use Rattle.core_forms.specs.Code.{data_of, Refusing}
use Rattle.core_forms.specs.Working.{open_of, function_of, lists_of, work_mid, parts_then, node_mid, Makes}
use Rattle.core_forms.specs.declared.core_form.Binder.{Binder}
use Rattle.core_forms.specs.declared.core_form.CoreExpr.{CoreExpr}
use Rattle.core_forms.specs.declared.counting.Counts.{Counts}
use Rattle.core_forms.specs.declared.error.ExpandErr.{ExpandErr}
use Rattle.core_forms.specs.declared.error.ExpandErr.TheVariants as fault
use Rattle.core_forms.specs.declared.work.Part.{Part}
use Rattle.core_forms.specs.declared.work.Node.{Node}
use Rattle.core_forms.specs.declared.work.Made.{Made}
use Rattle.core_forms.specs.declared.work.Made.TheVariants as made_form
use Rattle.expansion_steps.specs.declared.looking.First.{First}
use Rattle.expansion_steps.specs.declared.looking.First.TheVariants as first
use Rattle.expander.specs.declared.walking.Following.{Following}
use Rattle.expander.specs.declared.walking.Formed.{Formed}
use Rattle.expander.specs.declared.walking.Formed.TheVariants as formed
use Rattle.expander.specs.declared.walking.Entry.{Entry}
use Rattle.expander.specs.declared.walking.Entry.TheVariants as entry
use Rattle.expander.specs.declared.walking.Letrec.{Letrec}
use Rattle.expander.specs.declared.walking.Inside.{Inside}
use Rattle.expansion_steps.specs.Steps.{Looks}

abbrev pub first_look : First → Look
first_look (first.Stuck d es e) = breach e
first_look (first.Variable at x o es) = of_variable at x (open_of o) (data_of es)
first_look (first.Function at f es) = of_function at (function_of f) (data_of es)
first_look (first.Expression d es) = expression (form d) (data_of es)

module _ (ks : List Macro) (s : List Marked) where
  -- Core forms --------------------------------------------------------------------------

  -- the last of some replacements makes this core form, wherever the form stands
  pub record IsMade (n : Counts) (a : Mid) (m : Made) (after : Counts) : Type 0 where
    pub counts : Counts
    pub last : Mid
    pub path : (room : ℕ) → Reaches Mid (step ks room s) n a counts last
    pub turned : (room : ℕ) → step ks room s counts last ≡ moved room (turn ks s counts last)
    pub makes : Makes (turn ks s counts last) m after

  pub record MakesNone (n : Counts) (a : Mid) (e : ExpandErr) : Type 0 where
    pub counts : Counts
    pub last : Mid
    pub path : (room : ℕ) → Reaches Mid (step ks room s) n a counts last
    pub turned : (room : ℕ) → step ks room s counts last ≡ moved room (turn ks s counts last)
    pub is : turn ks s counts last ≡ refuses e

  abbrev pub MadeFrom : Counts → Mid → Result Made ExpandErr → Counts → Type 0
  MadeFrom n a (Ok m) after = IsMade n a m after
  MadeFrom n a (Err e) after = Refusing (MakesNone n a) e

  -- Bodies ------------------------------------------------------------------------------

  abbrev pub look_at : Counts → Place → Forms → Look
  look_at n at end = breach (fault.Form at)
  look_at n at (next d ds) = look ks s n d ds

  -- in the end this stands first
  pub record Starts (n : Counts) (at : Place) (ds : Forms) (after : Counts) (l : Look) : Type 0 where
    pub last : Forms
    pub path : Looks ks s n ds after last
    pub is : look_at after at last ≡ l

  abbrev pub StartsAs : Counts → Place → Forms → Result First ExpandErr → Counts → Type 0
  StartsAs n at ds (Ok f) after = Starts n at ds after (first_look f)
  StartsAs n at ds (Err e) after = Refusing (λ e. Starts n at ds after (breach e)) e

-- Walks -----------------------------------------------------------------------------------

abbrev pub Stopped : ExpandErr → Result CoreExpr ExpandErr → Type 0
Stopped f (Ok c) = ⊥
Stopped f (Err fault.Memory) = Unit {0}
Stopped f (Err e) = e ≡ f

-- what the walk answers behind one replacement
abbrev pub LaterWalked : List Macro → ℕ → List Marked → Progress Mid → Result CoreExpr ExpandErr → Counts → Type 0
LaterWalked ks room s still r after = ⊥
LaterWalked ks room s (moves k b) r after = Walked ks room s k b r after
LaterWalked ks room s (stops f) r after = Stopped f r

abbrev pub TurnWalked : List Macro → ℕ → List Marked → Turn → Result CoreExpr ExpandErr → Counts → Type 0
TurnWalked ks room s t r after = LaterWalked ks room s (moved room t) r after

abbrev pub MadeWalked : List Macro → ℕ → List Marked → Counts → Made → Result CoreExpr ExpandErr → Counts → Type 0
MadeWalked ks room s n m r after = (t : Turn) → Makes t m n → TurnWalked ks room s t r after

-- a node tells how deep lists nest in it
abbrev pub Nests : Made → Type 0
Nests (made_form.Node n) = n.nesting ≡ mid_nesting (node_mid n)
Nests _ = Unit {0}

-- Parts -----------------------------------------------------------------------------------

-- a part that is walked
pub record Done : Type 0 where
  pub lists : ℕ
  pub binders : List Binder
  pub mid : Mid

abbrev pub done_then : List Done → Parts → Parts
done_then [] ps = ps
done_then (d ∷ ds) ps = part d.lists d.binders d.mid (done_then ds ps)

-- these core forms stand there
abbrev pub Shown : List Done → List CoreExpr → Type 0
Shown [] [] = Unit {0}
Shown [] (c ∷ cs) = ⊥
Shown (d ∷ ds) [] = ⊥
Shown (d ∷ ds) (c ∷ cs) = (finished d.mid ≡ Some (tree c)) × Shown ds cs

-- some parts are walked, and these are left
pub record SoFar (ks : List Macro) (room : ℕ) (s : List Marked) (n : Counts) (whole : Parts) (m : Counts) (left : Parts) (cs : List CoreExpr) : Type 0 where
  pub done : List Done
  pub shown : Shown done cs
  pub reaches : Reaches Parts (steps ks room s) n whole m (done_then done left)

-- so many lists may stand in each other around these parts
abbrev pub Fits : ℕ → List Part → Type 0
Fits room [] = Unit {0}
Fits room (p ∷ ps) = (lists_of p.lists ≤ room) × Fits room ps

abbrev pub Further : List Macro → ℕ → List Marked → Counts → Parts → Parts → List CoreExpr → Result Unit ExpandErr → Counts → Type 0
Further ks room s n whole left cs (Ok u) after = SoFar ks room s n whole after left cs
Further ks room s n whole left cs (Err f) after = Halts Parts (steps ks room s) n whole f

-- these parts are walked behind others, within such names
abbrev pub PartsWalked : List Macro → ℕ → List Marked → Counts → List Part → List CoreExpr → Result Unit ExpandErr → List CoreExpr → Counts → Type 0
PartsWalked ks room inner m ps before r cs after = (s : List Marked) (xs : List Binder) (n : Counts) (whole left : Parts) → inner ≡ entered xs s
    → SoFar ks room s n whole m (parts_then xs ps left) before → Further ks room s n whole left cs r after

pub record IsVariable (n : Node) (at : Place) (x : Binder) (e : Form) (ds : Forms) : Type 0 where
  pub mid : node_mid n ≡ variable_at at x e ds
  pub nests : n.nesting ≡ mid_nesting (node_mid n)

-- Sequences -------------------------------------------------------------------------------

abbrev pub forms_left : Place → List Datum → Parts
forms_left at [] = none
forms_left at (d ∷ ds) = rest at (next (form d) (data_of ds))

-- one part of a sequence is walked
pub record IsNext (ks : List Macro) (room : ℕ) (s : List Marked) (p : Progress Parts) (at : Place) (left : List Datum) (c : CoreExpr) (after : Counts) : Type 0 where
  pub counts : Counts
  pub mid : Mid
  pub moves-to : p ≡ moves counts (part 0 [] mid (forms_left at left))
  pub walked : Walked ks room s counts mid (Ok c) after

abbrev pub NextAs : List Macro → ℕ → List Marked → Progress Parts → Place → List Datum → Result CoreExpr ExpandErr → Counts → Type 0
NextAs ks room s p at left (Ok c) after = IsNext ks room s p at left c after
NextAs ks room s p at left (Err f) after = (n : Counts) (ps : Parts) → steps ks room s n ps ≡ p → Halts Parts (steps ks room s) n ps f

-- one part more of a whole is walked, and these forms are left
abbrev pub OneMore : List Macro → ℕ → List Marked → Counts → Parts → Place → List Datum → List CoreExpr → Result CoreExpr ExpandErr → Counts → Type 0
OneMore ks room s n whole at left cs (Ok c) after = (new : List CoreExpr) → new ≡ cs ++ c ∷ [] → SoFar ks room s n whole after (forms_left at left) new
OneMore ks room s n whole at left cs (Err f) after = Halts Parts (steps ks room s) n whole f

-- the forms that are left of a sequence are walked behind others
abbrev pub RestWalked : List Macro → ℕ → List Marked → Counts → Place → Forms → List CoreExpr → Result Unit ExpandErr → List CoreExpr → Counts → Type 0
RestWalked ks room s m at ds before r cs after = (n : Counts) (whole : Parts) → SoFar ks room s n whole m (rest at ds) before → Further ks room s n whole none cs r after

-- Groups ----------------------------------------------------------------------------------

abbrev pub letrec_mid : Place → Letrec → Mid
letrec_mid at g = node at (recursive g.binders) (parts_then g.binders g.inner none)

-- the functions are known, and this stands there, if so many lists may stand in each other
pub record IsGroup (ks : List Macro) (room : ℕ) (s : List Marked) (n : Counts) (m : Mid) (at : Place) (g : Letrec) (after : Counts) : Type 0 where
  pub reaches : 3 ≤ room → Reaches Mid (step ks room s) n m after (letrec_mid at g)
  pub deep : room < 3 → StopsAt Mid (step ks room s) n m (fault.Limit limit.Depth)

abbrev pub GroupAs : List Macro → ℕ → List Marked → Counts → Mid → Place → Result Letrec ExpandErr → Counts → Type 0
GroupAs ks room s n m at (Ok g) after = IsGroup ks room s n m at g after
GroupAs ks room s n m at (Err f) after = Halts Mid (step ks room s) n m f

-- Entries ---------------------------------------------------------------------------------

abbrev pub sequence_mid : Place → Datum → List Datum → Mid
sequence_mid at d ds = node at sequence (part 0 [] (raw (form d)) (rest at (data_of ds)))

abbrev pub as_entry : Result Formed ExpandErr → Result Entry ExpandErr
as_entry (Ok f) = Ok (entry.Form f)
as_entry (Err e) = Err e

abbrev pub as_following : Result Formed ExpandErr → List Datum → Result Following ExpandErr
as_following (Ok f) left = Ok (record { formed = f; left = left })
as_following (Err e) left = Err e

-- so many lists may stand in each other around what is known
abbrev pub Ready : ℕ → Formed → Type 0
Ready room (formed.Done c) = Unit {0}
Ready room (formed.Node o) = Fits room o.outer × Fits room o.inner

abbrev pub EntryReady : ℕ → Entry → Type 0
EntryReady room (entry.Form f) = Ready room f
EntryReady room (entry.Sequence at d ds) = Unit {0}

-- what a walk answers from where the core form is known
abbrev pub FormWalked : List Macro → ℕ → List Marked → Counts → Formed → Result CoreExpr ExpandErr → Counts → Type 0
FormWalked ks room s k (formed.Done c) r after = (r ≡ Ok c) × (after ≡ k)
FormWalked ks room s k (formed.Node o) r after = Walked ks room s k (node_mid o) r after

abbrev pub EntryWalked : List Macro → ℕ → List Marked → Counts → Entry → Result CoreExpr ExpandErr → Counts → Type 0
EntryWalked ks room s k (entry.Form f) r after = FormWalked ks room s k f r after
EntryWalked ks room s k (entry.Sequence at d ds) r after = Walked ks room s k (sequence_mid at d ds) r after

-- what a walk answers from there on is what is answered of the whole
abbrev pub FormLeads : List Macro → ℕ → List Marked → (Result CoreExpr ExpandErr → Counts → Type 0) → Result Formed ExpandErr → Counts → Type 0
FormLeads ks room s P (Ok f) k = (r : Result CoreExpr ExpandErr) (after : Counts) → FormWalked ks room s k f r after → P r after
FormLeads ks room s P (Err f) k = P (Err f) k

abbrev pub EntryLeads : List Macro → ℕ → List Marked → (Result CoreExpr ExpandErr → Counts → Type 0) → Result Entry ExpandErr → Counts → Type 0
EntryLeads ks room s P (Ok e) k = (r : Result CoreExpr ExpandErr) (after : Counts) → EntryWalked ks room s k e r after → P r after
EntryLeads ks room s P (Err f) k = P (Err f) k

-- the same of what stands behind one replacement, wherever that is
abbrev pub NodeLeads : ℕ → Mid → Result Formed ExpandErr → Type 0
NodeLeads room m r = (ks : List Macro) (s : List Marked) (n : Counts) → FormLeads ks room s (TurnWalked ks room s (becomes n m)) r n

abbrev pub MadeLeads : ℕ → Made → Result Formed ExpandErr → Type 0
MadeLeads room m r = (ks : List Macro) (s : List Marked) (n : Counts) → FormLeads ks room s (MadeWalked ks room s n m) r n

-- the same of the next part of a sequence
abbrev pub FollowingLeads : List Macro → ℕ → List Marked → Progress Parts → Place → Result Following ExpandErr → Counts → Type 0
FollowingLeads ks room s p at (Ok x) k = FormLeads ks room s (NextAs ks room s p at x.left) (Ok x.formed) k
FollowingLeads ks room s p at (Err f) k = NextAs ks room s p at [] (Err f) k

abbrev pub NextLeads : List Macro → ℕ → List Marked → Counts → Place → Forms → Result Following ExpandErr → Counts → Type 0
NextLeads ks room s m at ds (Ok x) k = (n : Counts) (whole : Parts) (cs : List CoreExpr) → SoFar ks room s n whole m (rest at ds) cs → FormLeads ks room s (OneMore ks room s n whole at x.left cs) (Ok x.formed) k
NextLeads ks room s m at ds (Err f) k = (n : Counts) (whole : Parts) (cs : List CoreExpr) → SoFar ks room s n whole m (rest at ds) cs → Halts Parts (steps ks room s) n whole f

-- the first of some parts
pub record IsFirst (ks : List Macro) (room : ℕ) (s : List Marked) (m : Counts) (old : List Part) (r : Result Entry ExpandErr) (new : List Part) (k : Counts) : Type 0 where
  pub part : Part
  pub cut : old ≡ part ∷ new
  pub leads : EntryLeads ks (room - lists_of part.lists) s (Walked ks (room - lists_of part.lists) s m (work_mid part.work)) r k

pub record IsInside (ks : List Macro) (room : ℕ) (s : List Marked) (m : Counts) (old : List Part) (i : Inside) (new : List Part) (k : Counts) : Type 0 where
  pub first : IsFirst ks room s m old (Ok i.entry) new k
  pub lists : i.room ≡ room - lists_of first.part.lists

pub record NoneLeft (old : List Part) (m k : Counts) : Type 0 where
  pub none : old ≡ []
  pub same : k ≡ m

abbrev pub PartLeads : List Macro → ℕ → List Marked → Counts → List Part → Result (Option Inside) ExpandErr → List Part → Counts → Type 0
PartLeads ks room s m old (Ok (Some i)) new k = IsInside ks room s m old i new k
PartLeads ks room s m old (Ok None) new k = NoneLeft old m k
PartLeads ks room s m old (Err f) new k = IsFirst ks room s m old (Err f) new k

-- fewer are left, and so many lists may stand in each other around them
pub record IsLess (room : ℕ) (old new : List Part) (i : Inside) : Type 0 where
  pub within : i.room < room
  pub ready : EntryReady i.room i.entry
  pub fits : Fits room new
  pub fewer : length new < length old

abbrev pub PartLeft : ℕ → List Part → List Part → Option Inside → Type 0
PartLeft room old new (Some i) = IsLess room old new i
PartLeft room old new None = Unit {0}
