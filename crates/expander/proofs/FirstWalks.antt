-- The walk over a body of which it is known what stands first.
use Rattle.std.proofs.Common.{◌≡◌, ℕ, ◌-◌, ◌≤◌, Bool, true, false, List, [], ◌∷◌, ◌++◌, map, Result, Ok, Err, refl, sym, ◌∙◌, subst, arith}
use Rattle.scheme_data.specs.declared.datum.Place.{Place}
use Rattle.scheme_data.specs.declared.datum.Datum.{Datum}
use Rattle.scheme_data.specs.Forms.{Form, Forms, form, next}
use Rattle.syntax_rules.specs.Trees.{Macro}
use Rattle.core_forms.specs.Scope.{Marked}
use Rattle.core_forms.specs.declared.core_form.CoreExpr.{CoreExpr}
use Rattle.core_forms.specs.declared.counting.Counts.{Counts}
use Rattle.core_forms.specs.declared.error.ExpandErr.{ExpandErr}
use Rattle.core_forms.specs.declared.error.ExpandErr.TheVariants as fault
use Rattle.core_forms.specs.declared.work.Part.{Part}
use Rattle.syntax_rules.specs.declared.rules.Rules.{Rules}
use Rattle.expander.specs.declared.expander.Expander.{Expander}
use Rattle.expander.specs.Around.{SameAround}
use Rattle.core_forms.specs.Mid as mid
use Rattle.core_forms.specs.Mid.{sequence, made, leaf, trees_then, Mid, raw, body, group, node, Parts, none, part, rest, tree}
use Rattle.core_forms.specs.Bodies.{expression, of_function, breach, body_turn}
use Rattle.core_forms.specs.Rewriting.{step, steps, Halts, Walked}
use Rattle.core_forms.specs.Code.{data_of, OkOrMemory}
use Rattle.core_forms.specs.Working.{lists_of}
use Rattle.expander.specs.Walks.{Fits, TurnWalked, SoFar}
use Rattle.expander.proofs.PartWalks.{some_lists, fits_top, at_start, one_more, parts_halt, node_halts, node_walked}
use Rattle.expander.proofs.TurnWalks.{turn_fits}

module _ (ks : List Macro) (room : ℕ) (s : List Marked) (n : Counts) where
  -- an expression alone
  pub first_alone : (at : Place) (d : Datum) (left : List Datum) (r : Result CoreExpr ExpandErr) (after : Counts) → left ≡ [] → Walked ks room s n (raw (form d)) r after
      → TurnWalked ks room s (body_turn n at (expression (form d) (data_of left))) r after
  first_alone at d left r after e w = subst (λ (left : List Datum). TurnWalked ks room s (body_turn n at (expression (form d) (data_of left))) r after) (sym e) (turn_fits ks room s n (raw (form d)) r after (omega arith) w)

  -- one in front of others
  pub first_of_more : (at : Place) (d : Datum) (left : List Datum) (r : Result CoreExpr ExpandErr) (after : Counts) → (left ≡ [] → ⊥) → Walked ks room s n (node at sequence (part 0 [] (raw (form d)) (rest at (data_of left)))) r after
      → TurnWalked ks room s (body_turn n at (expression (form d) (data_of left))) r after
  first_of_more at d [] r after e w = absurd (e refl)
  first_of_more at d (f ∷ fs) r after e w = turn_fits ks room s n (node at sequence (part 0 [] (raw (form d)) (rest at (next (form f) (data_of fs))))) r after (omega arith) w

  pub function_walked : (at p : Place) (f : mid.Function) (ds : Forms) (r : Result CoreExpr ExpandErr) (after : Counts) → Walked ks room s n (group p (f ∷ []) ds) r after
      → TurnWalked ks room s (body_turn n at (of_function p f ds)) r after
  function_walked at p f ds r after w = turn_fits ks room s n (group p (f ∷ []) ds) r after (omega arith) w

  -- a sequence: its first part, and then the others
  module _ (at : Place) (d : Form) (ds : Forms) where
    abbrev Sequence : Parts
    Sequence = part 0 [] (raw d) (rest at ds)

    same_room : (k : Counts) (m : Mid) (r : Result CoreExpr ExpandErr) (after : Counts) → Walked ks room s k m r after → Walked ks (room - 0) s k m r after
    same_room k m r after w = subst (λ (w : ℕ). Walked ks w s k m r after) (omega arith) w

    pub sequence_first : (k : Counts) (c : CoreExpr) (before cs : List CoreExpr) → before ≡ [] → cs ≡ before ++ c ∷ [] → Walked ks room s n (raw d) (Ok c) k → SoFar ks room s n Sequence k (rest at ds) cs
    sequence_first k c before cs e g w = one_more ks room s n Sequence n k 0 [] (raw d) (rest at ds) before cs c (at_start ks room s n Sequence before e) (same_room n (raw d) (Ok c) k w) g

    pub sequence_first_halts : (f : ExpandErr) (k : Counts) → Walked ks room s n (raw d) (Err f) k → Halts Mid (step ks room s) n (node at sequence Sequence) f
    sequence_first_halts f k w = node_halts ks room s n Sequence at sequence f (parts_halt ks room s n Sequence n 0 [] (raw d) (rest at ds) [] f (at_start ks room s n Sequence [] refl) (same_room n (raw d) (Err f) k w))

    pub sequence_halts : (f : ExpandErr) → Halts Parts (steps ks room s) n Sequence f → Halts Mid (step ks room s) n (node at sequence Sequence) f
    sequence_halts f x = node_halts ks room s n Sequence at sequence f x

    pub sequence_walked : (r : Result CoreExpr ExpandErr) (cs : List CoreExpr) (k : Counts) → SoFar ks room s n Sequence k none cs → OkOrMemory r (λ c. tree c ≡ made at sequence (trees_then (map tree cs) leaf))
        → Walked ks room s n (node at sequence Sequence) r k
    sequence_walked r cs k p e = node_walked ks room s n Sequence k cs at sequence r p e

pub breach_walked : (ks : List Macro) (room : ℕ) (s : List Marked) (n : Counts) (at : Place) (f : ExpandErr) (after : Counts) → TurnWalked ks room s (body_turn n at (breach f)) (Err f) after
breach_walked ks room s n at (fault.BadRules p) after = refl
breach_walked ks room s n at (fault.NoRule p) after = refl
breach_walked ks room s n at (fault.Form p) after = refl
breach_walked ks room s n at (fault.Limit k) after = refl
breach_walked ks room s n at fault.Memory after = tt

pub not_empty : (b : Bool) → b ≡ true → b ≡ false → ⊥
not_empty b e f = let h : true ≡ false = sym e ∙ f in absurd (cc)

pub lists_count : (w : ℕ) (p : Part) → w ≡ lists_of p.lists → 1 ≤ w
lists_count w p e = omega (arith, e, some_lists p)

pub count_fits : (room w : ℕ) (old new : List Part) (p : Part) → Fits room old → old ≡ p ∷ new → w ≡ lists_of p.lists → w ≤ room
count_fits room w old new p h e i = omega (arith, i, (fits_top room old new p h e).0)

pub macros_by : (P : List Rules → Type 0) (a b : Expander) → SameAround a b → P b.macros → P a.macros
macros_by P a b e h = subst P e.macros h
