-- From a form to its core form, without a look into parts.
use Rattle.std.proofs.Common.{◌≡◌, ℕ, ◌≤◌, ◌<◌, ◌-◌, nat_lt, Bool, true, false, ◌&&◌, if◌then◌else◌, List, [], ◌∷◌, ◌++◌, length, Option, Some, Result, Ok, Err, IfOk, OnOk, refl, sym, ap, ◌∙◌, subst, arith}
use Rattle.scheme_data.specs.declared.datum.Place.{Place}
use Rattle.scheme_data.specs.declared.datum.Datum.{Datum}
use Rattle.scheme_data.specs.declared.datum.LimitKind.TheVariants as limit
use Rattle.scheme_data.specs.Forms.{Form, Forms, form}
use Rattle.syntax_rules.specs.Trees.{Macro}
use Rattle.core_forms.specs.Scope.{Marked, entered}
use Rattle.core_forms.specs.declared.core_form.Binder.{Binder}
use Rattle.core_forms.specs.declared.core_form.CoreExpr.{CoreExpr}
use Rattle.core_forms.specs.declared.core_form.CoreExpr as core
use Rattle.core_forms.specs.declared.counting.Counts.{Counts}
use Rattle.core_forms.specs.declared.error.ExpandErr.{ExpandErr}
use Rattle.core_forms.specs.declared.error.ExpandErr.TheVariants as fault
use Rattle.core_forms.specs.declared.work.Part.{Part}
use Rattle.core_forms.specs.declared.work.Node.{Node}
use Rattle.core_forms.specs.declared.work.Kind.TheVariants as kind
use Rattle.core_forms.specs.declared.work.Made.{Made}
use Rattle.core_forms.specs.declared.work.Made.TheVariants as made_form
use Rattle.core_forms.specs.Mid.{Mid, Parts, rest, mid_nesting}
use Rattle.core_forms.specs.Table.{becomes}
use Rattle.core_forms.specs.Bodies.{Look, variable_at}
use Rattle.core_forms.specs.Rewriting.{Progress, moved, rest_progress, step, steps, Halts, Walked}
use Rattle.core_forms.specs.Code.{nests_in, IsMemory}
use Rattle.core_forms.specs.Working.{lists_of, work_mid, parts_then, node_mid, kind_head, kind_binders}
use Rattle.expander.specs.declared.walking.Letrec.{Letrec}
use Rattle.expander.specs.declared.walking.Following.{Following}
use Rattle.expander.specs.declared.walking.Formed.{Formed}
use Rattle.expander.specs.declared.walking.Formed.TheVariants as formed
use Rattle.expander.specs.declared.walking.Entry.{Entry}
use Rattle.expander.specs.declared.walking.Inside.{Inside}
use Rattle.expander.specs.declared.expander.Expander.{Expander}
use Rattle.expansion_steps.specs.Heads.{macros_of}
use Rattle.expander.specs.Around.{SameAround}
use Rattle.expander.specs.Walks.{PartLeads, PartLeft, IsFirst, IsInside, IsLess, SoFar, OneMore, RestWalked, Starts, NextLeads, IsMade, TurnWalked, MadeWalked, Fits, NextAs, IsVariable, IsGroup, letrec_mid, as_entry, as_following, Ready, EntryReady, FormWalked, EntryWalked, FormLeads, EntryLeads, NodeLeads, MadeLeads, FollowingLeads}
use Rattle.expander.proofs.Arounds.{same_on, around_by}
use Rattle.expander.proofs.PartWalks.{walked_more, fits_top, some_lists, parts_more, parts_stop}
use Rattle.expander.proofs.FirstWalks.{macros_by}
use Rattle.expander.proofs.TurnWalks.{turn_fits, turn_deep, memory_turn, made_walked}
use Rattle.expander.proofs.BodyWalks.{next_more, next_halts}
use Rattle.expander.proofs.MadeWalks.{both_fit, leaf_walked, constant_walked, quoted_walked, made_is_node}
use Rattle.expander.proofs.NodeWalks.{fits_more}

-- What follows from what is known --------------------------------------------------------

module _ (ks : List Macro) (room : ℕ) (s : List Marked) (P Q : Result CoreExpr ExpandErr → Counts → Type 0) (t : (r : Result CoreExpr ExpandErr) (after : Counts) → P r after → Q r after) where
  pub led : (x : Result Formed ExpandErr) (k : Counts) → FormLeads ks room s P x k → FormLeads ks room s Q x k
  led (Ok f) k h = λ r after w. t r after (h r after w)
  led (Err f) k h = t (Err f) k h

  pub entry_led : (x : Result Formed ExpandErr) (y : Result Entry ExpandErr) (k : Counts) → y ≡ as_entry x → FormLeads ks room s P x k → EntryLeads ks room s Q y k
  entry_led (Ok f) y k e h = subst (λ (y : Result Entry ExpandErr). EntryLeads ks room s Q y k) (sym e) (λ r after w. t r after (h r after w))
  entry_led (Err f) y k e h = subst (λ (y : Result Entry ExpandErr). EntryLeads ks room s Q y k) (sym e) (t (Err f) k h)

  pub entry_on : (x : Result Entry ExpandErr) (k : Counts) → EntryLeads ks room s P x k → EntryLeads ks room s Q x k
  entry_on (Ok f) k h = λ r after w. t r after (h r after w)
  entry_on (Err f) k h = t (Err f) k h

pub entry_ready : (room : ℕ) (x : Result Formed ExpandErr) (y : Result Entry ExpandErr) → y ≡ as_entry x → IfOk x (Ready room) → IfOk y (EntryReady room)
entry_ready room (Ok f) y e h = subst (λ (y : Result Entry ExpandErr). IfOk y (EntryReady room)) (sym e) h
entry_ready room (Err f) y e h = subst (λ (y : Result Entry ExpandErr). IfOk y (EntryReady room)) (sym e) tt

pub entry_around : (A : Type 0) (x : Result Formed ExpandErr) (y : Result Entry ExpandErr) → y ≡ as_entry x → OnOk x A → OnOk y A
entry_around A (Ok f) y e h = subst (λ (y : Result Entry ExpandErr). OnOk y A) (sym e) h
entry_around A (Err f) y e h = subst (λ (y : Result Entry ExpandErr). OnOk y A) (sym e) tt

module _ (ks : List Macro) (room : ℕ) (s : List Marked) (p : Progress Parts) (at : Place) (left : List Datum) (P : Result CoreExpr ExpandErr → Counts → Type 0)
    (t : (r : Result CoreExpr ExpandErr) (after : Counts) → P r after → NextAs ks room s p at left r after) where
  pub following_led : (x : Result Formed ExpandErr) (y : Result Following ExpandErr) (k : Counts) → y ≡ as_following x left → FormLeads ks room s P x k → FollowingLeads ks room s p at y k
  following_led (Ok f) y k e h = subst (λ (y : Result Following ExpandErr). FollowingLeads ks room s p at y k) (sym e) (λ r after w. t r after (h r after w))
  following_led (Err f) y k e h = subst (λ (y : Result Following ExpandErr). FollowingLeads ks room s p at y k) (sym e) (t (Err f) k h)

pub following_eq : (x : Result Formed ExpandErr) (y : Result Following ExpandErr) (left : List Datum) → y ≡ as_following x left → left ≡ [] → y ≡ as_following x []
following_eq x y left e g = e ∙ ap (as_following x) g

-- the next part of a sequence, from where it is known what stands first
pub next_leads : (ks : List Macro) (room : ℕ) (s : List Marked) (m : Counts) (at : Place) (ds : Forms) (j : Counts) (l : Look) → Starts ks s m at ds j l → (y : Result Following ExpandErr) (k : Counts)
    → FollowingLeads ks room s (rest_progress room j at l) at y k → NextLeads ks room s m at ds y k
next_leads ks room s m at ds j l x (Ok y) k h = λ n whole cs q r after w. next_more ks s room n whole at m ds cs q j l x y.left r after (h r after w)
next_leads ks room s m at ds j l x (Err f) k h = λ n whole cs q. next_halts ks s room n whole at m ds cs q j l x [] f k h

pub following_ready : (room : ℕ) (left : List Datum) (x : Result Formed ExpandErr) (y : Result Following ExpandErr) → y ≡ as_following x left → IfOk x (Ready room) → IfOk y (λ f. Ready room f.formed)
following_ready room left (Ok f) y e h = subst (λ (y : Result Following ExpandErr). IfOk y (λ f. Ready room f.formed)) (sym e) h
following_ready room left (Err f) y e h = subst (λ (y : Result Following ExpandErr). IfOk y (λ f. Ready room f.formed)) (sym e) tt

pub following_around : (A : Type 0) (left : List Datum) (x : Result Formed ExpandErr) (y : Result Following ExpandErr) → y ≡ as_following x left → OnOk x A → OnOk y A
following_around A left (Ok f) y e h = subst (λ (y : Result Following ExpandErr). OnOk y A) (sym e) h
following_around A left (Err f) y e h = subst (λ (y : Result Following ExpandErr). OnOk y A) (sym e) tt

pub always : (A : Type 0) (x : Result Formed ExpandErr) → A → OnOk x A
always A (Ok f) h = h
always A (Err f) h = tt

-- Core forms -----------------------------------------------------------------------------

done_there : (P : Result CoreExpr ExpandErr → Counts → Type 0) (c : CoreExpr) (n : Counts) (r : Result CoreExpr ExpandErr) (after : Counts) → P (Ok c) n → (r ≡ Ok c) × (after ≡ n) → P r after
done_there P c n r after h w = subst (λ (k : Counts). P r k) (sym w.1) (subst (λ (r : Result CoreExpr ExpandErr). P r n) (sym w.0) h)

module _ (room : ℕ) where
  pub node_deep : (o : Node) → o.nesting ≡ mid_nesting (node_mid o) → room < o.nesting → NodeLeads room (node_mid o) (Err (fault.Limit limit.Depth))
  node_deep o e h ks s n = turn_deep ks room s n (node_mid o) n (omega (arith, e, h))

  pub node_leads : (o : Node) → o.nesting ≡ mid_nesting (node_mid o) → o.nesting ≤ room → NodeLeads room (node_mid o) (Ok (formed.Node o))
  node_leads o e h ks s n r after w = turn_fits ks room s n (node_mid o) r after (omega (arith, e, h)) w

  pub node_ready : (o : Node) → o.nesting ≡ mid_nesting (node_mid o) → o.nesting ≤ room → Fits room o.outer × Fits room o.inner
  node_ready o e h = both_fit room o.at (kind_head o.kind) (kind_binders o.kind) o.outer o.inner (omega (arith, e, h))

  pub leaf_leads : (c : CoreExpr) → MadeLeads room (made_form.Leaf c) (Ok (formed.Done c))
  leaf_leads c ks s n r after w = done_there (λ r k. MadeWalked ks room s n (made_form.Leaf c) r k) c n r after (leaf_walked ks room s n c) w

  pub leaf_ready : (c : CoreExpr) (b : Bool) (x : Result Formed ExpandErr) → x ≡ (if b then Ok (formed.Done c) else Err (fault.Limit limit.Depth)) → IfOk x (Ready room)
  leaf_ready c true x e = subst (λ (x : Result Formed ExpandErr). IfOk x (Ready room)) (sym e) tt
  leaf_ready c false x e = subst (λ (x : Result Formed ExpandErr). IfOk x (Ready room)) (sym e) tt

  pub constant_leads : (at : Place) (d : Datum) (b : Bool) (x : Result Formed ExpandErr) → x ≡ (if b then Ok (formed.Done (core.Constant at d)) else Err (fault.Limit limit.Depth)) → b ≡ nests_in room (form d)
      → MadeLeads room (made_form.Constant at d) x
  constant_leads at d true x g e = subst (λ (x : Result Formed ExpandErr). MadeLeads room (made_form.Constant at d) x) (sym g)
      (λ ks s n r after w. done_there (λ r k. MadeWalked ks room s n (made_form.Constant at d) r k) (core.Constant at d) n r after (constant_walked ks room s n at d (Ok (core.Constant at d)) true refl e) w)
  constant_leads at d false x g e = subst (λ (x : Result Formed ExpandErr). MadeLeads room (made_form.Constant at d) x) (sym g)
      (λ ks s n. constant_walked ks room s n at d (Err (fault.Limit limit.Depth)) false refl e)

  pub quoted_leads : (at : Place) (d : Datum) (b : Bool) (x : Result Formed ExpandErr) → x ≡ (if b then Ok (formed.Done (core.Quote at d)) else Err (fault.Limit limit.Depth)) → b ≡ (nat_lt 0 room && nests_in (room - 1) (form d))
      → MadeLeads room (made_form.Quoted at d) x
  quoted_leads at d true x g e = subst (λ (x : Result Formed ExpandErr). MadeLeads room (made_form.Quoted at d) x) (sym g)
      (λ ks s n r after w. done_there (λ r k. MadeWalked ks room s n (made_form.Quoted at d) r k) (core.Quote at d) n r after (quoted_walked ks room s n at d (Ok (core.Quote at d)) true refl e) w)
  quoted_leads at d false x g e = subst (λ (x : Result Formed ExpandErr). MadeLeads room (made_form.Quoted at d) x) (sym g)
      (λ ks s n. quoted_walked ks room s n at d (Err (fault.Limit limit.Depth)) false refl e)

  pub made_node_leads : (o : Node) (x : Result Formed ExpandErr) → NodeLeads room (node_mid o) x → MadeLeads room (made_form.Node o) x
  made_node_leads o x h ks s n = led ks room s (λ r k. TurnWalked ks room s (becomes n (node_mid o)) r k) (λ r k. MadeWalked ks room s n (made_form.Node o) r k) (λ r after w. made_is_node ks room s n o r after w) x n (h ks s n)

  pub variable_memory : (m : Mid) (f : ExpandErr) → IsMemory f → NodeLeads room m (Err f)
  variable_memory m fault.Memory h = λ ks s n. memory_turn ks room s (moved room (becomes n m)) n m n refl
  variable_memory m (fault.BadRules p) h = absurd h
  variable_memory m (fault.NoRule p) h = absurd h
  variable_memory m (fault.Form p) h = absurd h
  variable_memory m (fault.Limit k) h = absurd h

  pub variable_leads : (o : Node) (at : Place) (y : Binder) (e : Form) (ds : Forms) (x : Result Formed ExpandErr) → IsVariable o at y e ds → NodeLeads room (node_mid o) x → NodeLeads room (variable_at at y e ds) x
  variable_leads o at y e ds x i h = subst (λ (m : Mid). NodeLeads room m x) i.mid h

pub made_leads : (ks : List Macro) (room : ℕ) (s : List Marked) (n : Counts) (a : Mid) (m : Made) (k : Counts) (x : Result Formed ExpandErr) → IsMade ks s n a m k → MadeLeads room m x
    → FormLeads ks room s (λ r after. Walked ks room s n a r after) x k
made_leads ks room s n a m k x i h = led ks room s (λ r after. MadeWalked ks room s k m r after) (λ r after. Walked ks room s n a r after) (λ r after w. made_walked ks room s n a m k r after i w) x k (h ks s k)

-- a group, from where its functions and its body are known
abbrev pub letrec_node : Place → Letrec → List Part → Node
letrec_node at g outer = record { at = at; kind = kind.Letrec g.binders; nesting = 3; outer = outer; inner = g.inner }

pub group_leads : (ks : List Macro) (room : ℕ) (s : List Marked) (n : Counts) (m : Mid) (at : Place) (g : Letrec) (k : Counts) (outer : List Part) → IsGroup ks room s n m at g k → 3 ≤ room → outer ≡ []
    → FormLeads ks room s (λ r after. Walked ks room s n m r after) (Ok (formed.Node (letrec_node at g outer))) k
group_leads ks room s n m at g k outer i l e = subst (λ (outer : List Part). FormLeads ks room s (λ r after. Walked ks room s n m r after) (Ok (formed.Node (letrec_node at g outer))) k) (sym e)
    (λ r after w. walked_more ks room s n k after m (letrec_mid at g) r (i.reaches l) w)

pub group_ready : (room : ℕ) (outer inner : List Part) → 3 ≤ room → outer ≡ [] → Fits 3 inner → Fits room outer × Fits room inner
group_ready room outer inner l e h = (subst (λ (ps : List Part). Fits room ps) (sym e) tt, fits_more room inner l h)

-- Walks ----------------------------------------------------------------------------------

-- a form is walked behind where it was known, with the same around it
pub form_on : (a b : Expander) (room : ℕ) (P : Result CoreExpr ExpandErr → Counts → Type 0) (f : Formed) (k : Counts) (r : Result CoreExpr ExpandErr) (after : Counts) → SameAround a b
    → FormLeads (macros_of a.macros) room a.scope P (Ok f) k → FormWalked (macros_of b.macros) room b.scope k f r after → P r after
form_on a b room P f k r after e h w = h r after (around_by (λ ks s. FormWalked (macros_of ks) room s k f r after) a b e w)

pub entry_walked : (a b : Expander) (room : ℕ) (P : Result CoreExpr ExpandErr → Counts → Type 0) (f : Entry) (k : Counts) (r : Result CoreExpr ExpandErr) (after : Counts) → SameAround a b
    → EntryLeads (macros_of a.macros) room a.scope P (Ok f) k → EntryWalked (macros_of b.macros) room b.scope k f r after → P r after
entry_walked a b room P f k r after e h w = h r after (around_by (λ ks s. EntryWalked (macros_of ks) room s k f r after) a b e w)

pub next_on : (a b d : Expander) (room : ℕ) (m : Counts) (at : Place) (ds : Forms) (y : Following) (k : Counts) (r : Result CoreExpr ExpandErr) (after : Counts) → SameAround a b → SameAround b d
    → NextLeads (macros_of b.macros) room b.scope m at ds (Ok y) k → FormWalked (macros_of d.macros) room d.scope k y.formed r after
    → (n : Counts) (whole : Parts) (cs : List CoreExpr) → SoFar (macros_of a.macros) room a.scope n whole m (rest at ds) cs → OneMore (macros_of a.macros) room a.scope n whole at y.left cs r after
next_on a b d room m at ds y k r after e f h w n whole cs q = form_on a d room (λ r after. OneMore (macros_of a.macros) room a.scope n whole at y.left cs r after) y.formed k r after (same_on a b d e f)
    (around_by (λ ks s. NextLeads (macros_of ks) room s m at ds (Ok y) k) a b e h n whole cs q) w

pub rest_on : (a b : Expander) (room : ℕ) (m : Counts) (at : Place) (ds : Forms) (before cs : List CoreExpr) (r : Result Unit ExpandErr) (after : Counts) → SameAround a b
    → RestWalked (macros_of b.macros) room b.scope m at ds before r cs after → RestWalked (macros_of a.macros) room a.scope m at ds before r cs after
rest_on a b room m at ds before cs r after e w = around_by (λ ks s. RestWalked (macros_of ks) room s m at ds before r cs after) a b e w

-- Parts ----------------------------------------------------------------------------------

pub is_less : (room w : ℕ) (old new : List Part) (p : Part) (e : Entry) → Fits room old → old ≡ p ∷ new → w ≡ lists_of p.lists → EntryReady (room - w) e → IsLess room old new (record { room = room - w; entry = e })
is_less room w old new p e h c i r =
    let f : (lists_of p.lists ≤ room) × Fits room new = fits_top room old new p h c in
    record { within = omega (arith, i, some_lists p, f.0); ready = r; fits = f.1; fewer = omega (arith, ap length c) }

pub is_inside : (ks : List Macro) (room w : ℕ) (s : List Marked) (m : Counts) (old new : List Part) (p : Part) (e : Entry) (k : Counts) → old ≡ p ∷ new → w ≡ lists_of p.lists
    → EntryLeads ks (room - w) s (λ r after. Walked ks (room - w) s m (work_mid p.work) r after) (Ok e) k → IsInside ks room s m old (record { room = room - w; entry = e }) new k
is_inside ks room w s m old new p e k c i h = record {
  first = record { part = p; cut = c; leads = subst (λ (w : ℕ). EntryLeads ks (room - w) s (λ r after. Walked ks (room - w) s m (work_mid p.work) r after) (Ok e) k) i h };
  lists = ap (λ (w : ℕ). room - w) i;
}

pub is_first : (ks : List Macro) (room w : ℕ) (s : List Marked) (m : Counts) (old new : List Part) (p : Part) (f : ExpandErr) (k : Counts) → old ≡ p ∷ new → w ≡ lists_of p.lists
    → Halts Mid (step ks (room - w) s) m (work_mid p.work) f → IsFirst ks room s m old (Err f) new k
is_first ks room w s m old new p f k c i h = record { part = p; cut = c; leads = subst (λ (w : ℕ). Halts Mid (step ks (room - w) s) m (work_mid p.work) f) i h }

pub some_inside : (ks : List Macro) (room : ℕ) (s : List Marked) (m : Counts) (old : List Part) (o : Option Inside) (i : Inside) (new : List Part) (k : Counts) → o ≡ Some i → PartLeads ks room s m old (Ok o) new k → IsInside ks room s m old i new k
some_inside ks room s m old o i new k e h = subst (λ (o : Option Inside). PartLeads ks room s m old (Ok o) new k) e h

pub some_less : (room : ℕ) (old new : List Part) (o : Option Inside) (i : Inside) → o ≡ Some i → PartLeft room old new o → IsLess room old new i
some_less room old new o i e h = subst (λ (o : Option Inside). PartLeft room old new o) e h

-- the first part is walked where it was known
pub inside_walked : (a b d : Expander) (room : ℕ) (m : Counts) (old new : List Part) (i : Inside) (k : Counts) (r : Result CoreExpr ExpandErr) (after : Counts) → SameAround a b → SameAround b d
    → (x : IsInside (macros_of b.macros) room b.scope m old i new k) → EntryWalked (macros_of d.macros) i.room d.scope k i.entry r after
    → Walked (macros_of a.macros) (room - lists_of x.first.part.lists) b.scope m (work_mid x.first.part.work) r after
inside_walked a b d room m old new i k r after e f x w =
    let v : EntryWalked (macros_of d.macros) (room - lists_of x.first.part.lists) d.scope k i.entry r after = subst (λ (n : ℕ). EntryWalked (macros_of d.macros) n d.scope k i.entry r after) x.lists w in
    macros_by (λ ks. Walked (macros_of ks) (room - lists_of x.first.part.lists) b.scope m (work_mid x.first.part.work) r after) a b e
    (entry_walked b d (room - lists_of x.first.part.lists) (λ r after. Walked (macros_of b.macros) (room - lists_of x.first.part.lists) b.scope m (work_mid x.first.part.work) r after) i.entry k r after f x.first.leads v)

module _ (a b d : Expander) (room : ℕ) (s : List Marked) (xs : List Binder) (n : Counts) (whole left : Parts) (old new : List Part) (cs : List CoreExpr) (e : SameAround a b) (g : a.scope ≡ entered xs s)
    (q : SoFar (macros_of a.macros) room s n whole b.counts (parts_then xs old left) cs) where
  pub inside_more : (i : Inside) (k : Counts) (c : CoreExpr) (after : Counts) (more : List CoreExpr) → SameAround b d → IsInside (macros_of b.macros) room b.scope b.counts old i new k → EntryWalked (macros_of d.macros) i.room d.scope k i.entry (Ok c) after
      → more ≡ cs ++ c ∷ [] → SoFar (macros_of a.macros) room s n whole after (parts_then xs new left) more
  inside_more i k c after more f x w h = parts_more (macros_of a.macros) room s b.scope xs n whole left b.counts after old new x.first.part (lists_of x.first.part.lists) cs more c (e.scope ∙ g) refl q x.first.cut
      (inside_walked a b d room b.counts old new i k (Ok c) after e f x w) h

  pub inside_stop : (i : Inside) (k : Counts) (f : ExpandErr) (after : Counts) → SameAround b d → IsInside (macros_of b.macros) room b.scope b.counts old i new k → EntryWalked (macros_of d.macros) i.room d.scope k i.entry (Err f) after
      → Halts Parts (steps (macros_of a.macros) room s) n whole f
  inside_stop i k f after h x w = parts_stop (macros_of a.macros) room s b.scope xs n whole left b.counts after old new x.first.part (lists_of x.first.part.lists) cs f (e.scope ∙ g) refl q x.first.cut
      (inside_walked a b d room b.counts old new i k (Err f) after e h x w)

  pub first_stop : (f : ExpandErr) (k : Counts) → IsFirst (macros_of b.macros) room b.scope b.counts old (Err f) new k → Halts Parts (steps (macros_of a.macros) room s) n whole f
  first_stop f k x = parts_stop (macros_of a.macros) room s b.scope xs n whole left b.counts k old new x.part (lists_of x.part.lists) cs f (e.scope ∙ g) refl q x.cut
      (macros_by (λ ks. Walked (macros_of ks) (room - lists_of x.part.lists) b.scope b.counts (work_mid x.part.work) (Err f) k) a b e x.leads)
