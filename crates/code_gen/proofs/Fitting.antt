-- Arguments that were evaluated are made to fit.
use Rattle.std.proofs.Common.{rules, ◌≡◌, ℕ, zero, suc, ◌+◌, ◌<◌, ◌≤◌, List, [], ◌∷◌, ◌++◌, length, map, drop, get_or, refl, sym, ap, ◌∙◌, subst, arith, append_assoc, add-one}
use Rattle.std.proofs.Math.Seq.{drop-cons}
use Rattle.std.proofs.lemmas.Bool.{and_parts}
use Rattle.std.proofs.lemmas.List.{map-append, append-nil, drop_all}
use Rattle.std.specs.Prelude.{true, pos, Some, replicate, slice_get}
use Rattle.std.proofs.lemmas.Option.{get_or_from_slice_get}
use Rattle.std.specs.List.{list_all}
use Rattle.built_table.specs.declared.primitives.Ty.{Ty}
use Rattle.built_table.specs.declared.primitives.Ty.TheVariants as ty
use Rattle.built_table.specs.declared.primitives.Primitive.{Primitive as Builtin}
use Rattle.built_table.specs.Table.{params_of, is_parameter_type}
use Rattle.c_tree.specs.declared.op.Op.{Op}
use Rattle.c_tree.specs.declared.tree.CAtom.TheVariants as atom
use Rattle.c_tree.specs.declared.tree.CCall.{CCall}
use Rattle.c_tree.specs.declared.tree.CExpr.{CExpr}
use Rattle.c_tree.specs.declared.tree.CExpr.TheVariants as expr
use Rattle.c_tree.specs.declared.tree.CVar.{CVar}
use Rattle.c_tree.specs.declared.pieces.Piece.TheVariants as piece
use Rattle.c_tree.specs.Code.{Code, assign, call}
use Rattle.c_tree.specs.Names.{local_name}
use Rattle.plan_rules.specs.declared.rep.Rep.{Rep}
use Rattle.plan_rules.specs.Representation.{rep_of, c_type_of, operation, local, raise_type, Keep, Make, Refuse, step}
use Rattle.plan_rules.specs.Translation.{Name, IsLocal, Fits, Refused, AllFit}
use Rattle.code_gen.specs.declared.emitter.Emitter.{Emitter}
use Rattle.code_gen.specs.declared.emitter.Held.{Held}
use Rattle.code_gen.specs.Emission.{held_names, AreParameters, AreBelow, Emits, Puts, Stores, IsRefused, IsFitted, AreFitted}
use Rattle.code_gen.proofs.Counts.{below_none, below_more, below_append, below_one, fresh_at, pushed, pushed-snoc, below_pushed}
use Rattle.code_gen.proofs.Steps.{same, then, weaker, call_emits}

-- One argument ------------------------------------------------------------------------------

pub fit_kept : (s : Emitter) (t : Ty) (h : Held) → AreBelow s.next (local_name h.local ∷ []) → Keep ≡ step t h.rep → IsFitted s s t h h.local
fit_kept s t h below keeps =
    let y = local_name h.local in
    record {
      below = below;
      emits = weaker s s (λ vars code rest. code ≡ rest) (λ vars code rest. (live : List Name) → AreBelow s.next live → Fits vars t (step t h.rep) live y code y rest)
          (same s) (λ vars code rest e live b. subst (λ st. Fits vars t st live y code y rest) keeps (e, refl));
    }

pub fit_made : (s u : Emitter) (t : Ty) (h : Held) (o : Op) (r : Rep) (made : Held) (e : CExpr) → Make o ≡ step t h.rep → r ≡ rep_of t
    → e ≡ expr.Call (operation o (local (local_name h.local) ∷ [])) → Stores s u r e made → IsFitted s u t h made.local
fit_made s u t h o r made e makes r_is e_is stored =
    let x = local_name made.local in
    let next : u.next ≡ suc made.local = stored.next_is in
    record {
      below = below_one u.next made.local [] (omega arith) (below_none u.next);
      emits = weaker s u
          (λ vars code rest. (code ≡ assign x e rest) × IsLocal vars x (c_type_of r))
          (λ vars code rest. (live : List Name) → AreBelow s.next live → Fits vars t (step t h.rep) live (local_name h.local) code x rest)
          stored.emits
          (λ vars code rest p live b.
          subst (λ st. Fits vars t st live (local_name h.local) code x rest) makes
          (record {
            fresh = fresh_at s.next made.local live (let n : made.local ≡ s.next = stored.number in omega arith) stored.small b;
            is_local = subst (λ k. IsLocal vars x (c_type_of k)) r_is p.1;
            is = p.0 ∙ ap (λ f. assign x f rest) e_is;
          }));
    }

pub is_refused : (s t u : Emitter) (type : Ty) (c : CCall) (r : Rep) (e : CExpr) (made : Held) → c ≡ raise_type type → Puts s t (piece.Call c) → r ≡ rep_of type
    → e ≡ expr.Atom (atom.Int (pos 0)) → Stores t u r e made → IsRefused s u type made.local
is_refused s t u type c r e made c_is puts r_is e_is stored =
    let x = local_name made.local in
    let next : u.next ≡ suc made.local = stored.next_is in
    let first : made.local ≡ s.next = stored.number ∙ puts.next_is in
    record {
      below = omega arith;
      emits = then s t u (λ vars code rest. code ≡ call c rest) (λ vars code rest. (code ≡ assign x e rest) × IsLocal vars x (c_type_of r))
          (λ vars code rest. (live : List Name) → AreBelow s.next live → Refused vars type live code x rest) (call_emits s t c puts) stored.emits
          (λ vars code middle rest p q live b. record {
            fresh = fresh_at s.next made.local live (omega arith) stored.small b;
            is_local = subst (λ k. IsLocal vars x (c_type_of k)) r_is q.1;
            is = p ∙ ap (call c) (q.0 ∙ ap (λ f. assign x f rest) e_is) ∙ ap (λ d. call d (assign x (expr.Atom (atom.Int (pos 0))) rest)) c_is;
          });
    }

pub fit_refused : (s u : Emitter) (t : Ty) (h : Held) (made : ℕ) → Refuse ≡ step t h.rep → IsRefused s u t made → IsFitted s u t h made
fit_refused s u t h made refuses refused =
    let x = local_name made in
    record {
      below = below_one u.next made [] refused.below (below_none u.next);
      emits = weaker s u (λ vars code rest. (live : List Name) → AreBelow s.next live → Refused vars t live code x rest)
          (λ vars code rest. (live : List Name) → AreBelow s.next live → Fits vars t (step t h.rep) live (local_name h.local) code x rest)
          refused.emits (λ vars code rest p live b. subst (λ st. Fits vars t st live (local_name h.local) code x rest) refuses (p live b));
    }

-- the type at a place, as the list has it
pub type_at : (types : List Ty) (i : ℕ) (t : Ty) → slice_get types i ≡ Some t → t ≡ get_or types i t
type_at types i t e = sym (get_or_from_slice_get types i t t e)

-- types of parameters, one by one
pub parameter_at : (types : List Ty) (i : ℕ) (d : Ty) → i < length types → list_all is_parameter_type types ≡ true → is_parameter_type (get_or types i d) ≡ true
parameter_at [] i d within all = absurd (omega arith)
parameter_at (t ∷ ts) zero d within all = (and_parts (is_parameter_type t) (list_all is_parameter_type ts) all).0
parameter_at (t ∷ ts) (suc i) d within all = parameter_at ts i d (omega arith) (and_parts (is_parameter_type t) (list_all is_parameter_type ts) all).1

pub primitive_parameters : (p : Builtin) → AreParameters (params_of p)
primitive_parameters p = search rules

pub word_parameters : (n : ℕ) → AreParameters (replicate n ty.Obj)
word_parameters zero = refl
word_parameters (suc n) = word_parameters n

-- All of them -------------------------------------------------------------------------------

abbrev pub reps : List Held → List Rep
reps held = map (λ h. h.rep) held

-- the first arguments fit, and whatever makes the others fit makes all fit
abbrev pub FitSoFar : ℕ → List Ty → List Held → List ℕ → ℕ → List CVar → Code → Code → Type 0
FitSoFar next types held made i vars code rest = (live : List Name) → AreBelow next live → (others : List Name) (last : Code)
    → AllFit vars (drop i types) (reps (drop i held)) (held_names (drop i held)) (pushed (map local_name made) live) rest others last
    → AllFit vars types (reps held) (held_names held) live code (map local_name made ++ others) last

pub record Fitting (s e : Emitter) (types : List Ty) (held : List Held) (made : List ℕ) (i : ℕ) : Type 0 where
  pub below : AreBelow e.next (map local_name made)
  pub emits : Emits s e (FitSoFar s.next types held made i)

pub fitting_none : (s : Emitter) (types : List Ty) (held : List Held) → Fitting s s types held [] 0
unfolding AreBelow
fitting_none s types held = record {
  below = tt;
  emits = weaker s s (λ vars code rest. code ≡ rest) (FitSoFar s.next types held [] 0) (same s)
      (λ vars code rest e live b others last fit. subst (λ k. AllFit vars types (reps held) (held_names held) live k others last) (sym e) fit);
}

fit_next : (vars : List CVar) (types : List Ty) (held : List Held) (i : ℕ) (t : Ty) (h : Held) (live : List Name) (middle rest last : Code) (x : Name) (others : List Name)
    → drop i types ≡ t ∷ drop (suc i) types → drop i held ≡ h ∷ drop (suc i) held
    → Fits vars t (step t h.rep) live (local_name h.local) middle x rest
    → AllFit vars (drop (suc i) types) (reps (drop (suc i) held)) (held_names (drop (suc i) held)) (x ∷ live) rest others last
    → AllFit vars (drop i types) (reps (drop i held)) (held_names (drop i held)) live middle (x ∷ others) last
fit_next vars types held i t h live middle rest last x others e f fits all =
    let A : List Ty → List Held → Type 0 = λ ts hs. AllFit vars ts (reps hs) (held_names hs) live middle (x ∷ others) last in
    let here : A (t ∷ drop (suc i) types) (h ∷ drop (suc i) held) = record { first = x; rest = others; middle = rest; are = refl; fits = fits; all = all } in
    subst (λ ts. A ts (drop i held)) (sym e) (subst (λ hs. A (t ∷ drop (suc i) types) hs) (sym f) here)

fitting_one : (s e g : Emitter) (types : List Ty) (held : List Held) (made : List ℕ) (i x : ℕ) (d : Ty) (k : Held)
    → length types ≡ length held → i < length held → Fitting s e types held made i → IsFitted e g (get_or types i d) (get_or held i k) x
    → (after : List ℕ) → after ≡ made ++ x ∷ [] → Fitting s g types held after (i + 1)
fitting_one s e g types held made i x d k as_many within so one after after_is =
    let t = get_or types i d in
    let h = get_or held i k in
    let names : map local_name (made ++ x ∷ []) ≡ map local_name made ++ local_name x ∷ [] = map-append local_name made (x ∷ []) in
    let later : e.next ≤ g.next = one.emits.grows.later in
    let started : s.next ≤ e.next = so.emits.grows.later in
    let first_types : drop i types ≡ t ∷ drop (suc i) types = drop-cons types i d (omega arith) in
    let first_held : drop i held ≡ h ∷ drop (suc i) held = drop-cons held i k within in
    rw (after_is, add-one i) (record {
      below = rw names (below_append g.next (map local_name made) (local_name x ∷ []) (below_more e.next g.next (map local_name made) later so.below) one.below);
      emits = then s e g (FitSoFar s.next types held made i)
          (λ vars code rest. (live : List Name) → AreBelow e.next live → Fits vars t (step t h.rep) live (local_name h.local) code (local_name x) rest)
          (FitSoFar s.next types held (made ++ x ∷ []) (suc i)) so.emits one.emits
          (λ vars code middle rest p q live b others last fit.
          let live_now = pushed (map local_name made) live in
          let below_now : AreBelow e.next live_now = below_pushed e.next (map local_name made) live so.below (below_more s.next e.next live started b) in
          let live_is : pushed (map local_name (made ++ x ∷ [])) live ≡ local_name x ∷ live_now = ap (λ xs. pushed xs live) names ∙ pushed-snoc (map local_name made) (local_name x) live in
          let all = subst (λ l. AllFit vars (drop (suc i) types) (reps (drop (suc i) held)) (held_names (drop (suc i) held)) l rest others last) live_is fit in
          let made_is : map local_name made ++ local_name x ∷ others ≡ map local_name (made ++ x ∷ []) ++ others =
          sym (append_assoc (map local_name made) (local_name x ∷ []) others) ∙ ap (λ xs. xs ++ others) (sym names) in
          subst (λ m. AllFit vars types (reps held) (held_names held) live code m last) made_is
          (p live b (local_name x ∷ others) last (fit_next vars types held i t h live_now middle rest last (local_name x) others first_types first_held (q live_now below_now) all)));
    })

-- the same of the type that stands there
pub fitting_typed : (s e g : Emitter) (types : List Ty) (held : List Held) (made : List ℕ) (i x : ℕ) (t : Ty) (k : Held)
    → length types ≡ length held → i < length held → Fitting s e types held made i → slice_get types i ≡ Some t → IsFitted e g t (get_or held i k) x
    → (after : List ℕ) → after ≡ made ++ x ∷ [] → Fitting s g types held after (i + 1)
fitting_typed s e g types held made i x t k as_many within so at one after after_is =
    fitting_one s e g types held made i x t k as_many within so (subst (λ u. IsFitted e g u (get_or held i k) x) (type_at types i t at) one) after after_is

pub fitting_all : (s e : Emitter) (types : List Ty) (held : List Held) (made : List ℕ) (i : ℕ) → length types ≡ length held → length held ≤ i
    → Fitting s e types held made i → AreFitted s e types held made
fitting_all s e types held made i as_many past so =
    let no_types : drop i types ≡ [] = drop_all i types (omega arith) in
    let no_held : drop i held ≡ [] = drop_all i held past in
    record {
      emits = weaker s e (FitSoFar s.next types held made i)
          (λ vars code rest. (live : List Name) → AreBelow s.next live → AllFit vars types (reps held) (held_names held) live code (map local_name made) rest)
          so.emits
          (λ vars code rest p live b.
          let A : List Ty → List Held → Type 0 = λ ts hs. AllFit vars ts (reps hs) (held_names hs) (pushed (map local_name made) live) rest [] rest in
          let none : A [] [] = (refl, refl) in
          subst (λ m. AllFit vars types (reps held) (held_names held) live code m rest) (append-nil (map local_name made))
          (p live b [] rest (subst (λ ts. A ts (drop i held)) (sym no_types) (subst (λ hs. A [] hs) (sym no_held) none))));
    }
