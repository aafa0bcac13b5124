-- Expressions are evaluated to locals.
use Rattle.std.proofs.Common.{◌≡◌, ℕ, suc, ◌+◌, ◌<◌, ◌≤◌, ◌^◌, List, [], ◌∷◌, ◌++◌, length, map, drop, get_or, refl, sym, ap, ◌∙◌, subst, arith, append_assoc, add-one}
use Rattle.std.proofs.Math.Seq.{drop-cons}
use Rattle.std.proofs.lemmas.List.{map-append, length-map, append-nil, drop_all}
use Rattle.built_table.specs.declared.primitives.Ty.{Ty}
use Rattle.core_tree.specs.declared.tree.Node.{Node}
use Rattle.core_tree.specs.Tree.{Tree, Trees, none, more, trees, tree}
use Rattle.core_tree.specs.WellFormed.{AsMany}
use Rattle.c_tree.specs.declared.tree.CArg.{CArg}
use Rattle.c_tree.specs.declared.tree.CExpr.{CExpr}
use Rattle.c_tree.specs.declared.tree.CVar.{CVar}
use Rattle.c_tree.specs.Code.{Code, assign}
use Rattle.c_tree.specs.Names.{local_name}
use Rattle.plan_rules.specs.declared.rep.Rep.{Rep}
use Rattle.plan_rules.specs.Representation.{rep_of, c_type_of, has_of, local}
use Rattle.plan_rules.specs.Translation.{Name, Fresh, IsLocal, into, AllFit, haves, TrArguments}
use Rattle.code_gen.specs.declared.emitter.Emitter.{Emitter}
use Rattle.code_gen.specs.declared.emitter.Held.{Held}
use Rattle.code_gen.specs.Settings.{Setting, scope_in, TrIn, TrArgumentsIn}
use Rattle.code_gen.specs.Emission.{held_names, AreBelow, Emits, Stores, LeavesUnset, Gives, IsValue, AreArguments, AreFitted, AreReady, IsReady}
use Rattle.code_gen.proofs.Counts.{below_none, below_more, below_append, below_held, fresh_at, pushed, pushed-snoc, below_pushed}
use Rattle.code_gen.proofs.Steps.{Means, same, then, weaker}
use Rattle.code_gen.proofs.Fitting.{reps}

module _ (w : Setting) where
  -- One value ---------------------------------------------------------------------------------

  -- a new local is there, and the code is related to the rest
  abbrev Ends : Held → Rep → (Code → Code → Type 0) → Means
  Ends held h ends vars code rest = ends code rest × IsLocal vars (local_name held.local) (c_type_of h)

  -- the code so far and the end after it make the value
  abbrev pub Joins : Tree → Rep → ℕ → Held → Means → (Code → Code → Type 0) → Type 0
  Joins n h next held before ends =
      (vars : List CVar) (live : List Name) → AreBelow next live → (code middle rest : Code) → before vars code middle → ends middle rest → TrIn w vars n h live (into (local_name held.local)) code rest

  value_after : (s t u : Emitter) (before : Means) (ends : Code → Code → Type 0) (n : Tree) (wanted h : Rep) (held : Held)
      → held.rep ≡ h → held.local ≡ t.next → held.local < 2 ^ 32 → u.next ≡ suc held.local → Emits s t before → Emits t u (Ends held h ends)
      → h ≡ has_of (scope_in w) n wanted → Joins n h s.next held before ends → IsValue w s u n wanted held
  value_after s t u before ends n wanted h held rep number small next first second h_is join =
      let started : s.next ≤ t.next = first.grows.later in
      record {
        rep = rep ∙ h_is;
        below = omega arith;
        emits = then s t u before (Ends held h ends) (λ vars code rest. Gives w n (has_of (scope_in w) n wanted) s.next held.local vars code rest) first second
            (λ vars code middle rest a b. record {
              is_local = subst (λ k. IsLocal vars (local_name held.local) (c_type_of k)) h_is b.1;
              fresh = λ live below. fresh_at s.next held.local live (omega arith) small below;
              given = λ live below. subst (λ k. TrIn w vars n k live (into (local_name held.local)) code rest) h_is (join vars live below code middle rest a b.0);
            });
      }

  pub value_stored : (s t u : Emitter) (before : Means) (n : Tree) (wanted h : Rep) (e : CExpr) (held : Held) → Emits s t before → Stores t u h e held
      → h ≡ has_of (scope_in w) n wanted → Joins n h s.next held before (λ code rest. code ≡ assign (local_name held.local) e rest) → IsValue w s u n wanted held
  value_stored s t u before n wanted h e held first stored h_is join =
      value_after s t u before (λ code rest. code ≡ assign (local_name held.local) e rest) n wanted h held stored.rep stored.number stored.small stored.next_is first stored.emits h_is join

  pub value_unset : (s t u : Emitter) (before : Means) (n : Tree) (wanted h : Rep) (held : Held) → Emits s t before → LeavesUnset t u h held
      → h ≡ has_of (scope_in w) n wanted → Joins n h s.next held before (λ code rest. code ≡ rest) → IsValue w s u n wanted held
  value_unset s t u before n wanted h held first unset h_is join =
      value_after s t u before (λ code rest. code ≡ rest) n wanted h held unset.rep unset.number unset.small unset.next_is first unset.emits h_is join

  -- Arguments ---------------------------------------------------------------------------------

  -- the first arguments are there, and whatever gives the others gives all
  abbrev pub GivenSoFar : ℕ → List Ty → List Node → List Held → ℕ → List CVar → Code → Code → Type 0
  GivenSoFar next types nodes held i vars code rest = (live : List Name) → AreBelow next live → (others : List Name) (last : Code)
      → TrArgumentsIn w vars (drop i types) (trees (map tree (drop i nodes))) (pushed (held_names held) live) others rest last
      → TrArgumentsIn w vars types (trees (map tree nodes)) live (held_names held ++ others) code last

  pub record Arguing (s e : Emitter) (types : List Ty) (nodes : List Node) (held : List Held) (i : ℕ) : Type 0 where
    pub below : AreBelow e.next (held_names held)
    pub reps_are : haves (scope_in w) types (trees (map tree nodes)) ≡ reps held ++ haves (scope_in w) (drop i types) (trees (map tree (drop i nodes)))
    pub emits : Emits s e (GivenSoFar s.next types nodes held i)

  pub arguing_none : (s : Emitter) (types : List Ty) (nodes : List Node) → Arguing s s types nodes [] 0
  arguing_none s types nodes = record {
    below = below_none s.next;
    reps_are = refl;
    emits = weaker s s (λ vars code rest. code ≡ rest) (GivenSoFar s.next types nodes [] 0) (same s)
        (λ vars code rest e live b others last given. subst (λ k. TrArgumentsIn w vars types (trees (map tree nodes)) live others k last) (sym e) given);
  }

  argument_next : (vars : List CVar) (types : List Ty) (nodes : List Node) (i : ℕ) (t : Ty) (n : Node) (live : List Name) (middle rest last : Code) (x : Name) (others : List Name)
      → drop i types ≡ t ∷ drop (suc i) types → drop i nodes ≡ n ∷ drop (suc i) nodes
      → Fresh x live → IsLocal vars x (c_type_of (has_of (scope_in w) (tree n) (rep_of t))) → TrIn w vars (tree n) (has_of (scope_in w) (tree n) (rep_of t)) live (into x) middle rest
      → TrArgumentsIn w vars (drop (suc i) types) (trees (map tree (drop (suc i) nodes))) (x ∷ live) others rest last
      → TrArgumentsIn w vars (drop i types) (trees (map tree (drop i nodes))) live (x ∷ others) middle last
  unfolding TrArguments
  argument_next vars types nodes i t n live middle rest last x others e f fresh is_local given all =
      let A : List Ty → List Node → Type 0 = λ ts ns. TrArgumentsIn w vars ts (trees (map tree ns)) live (x ∷ others) middle last in
      let here : A (t ∷ drop (suc i) types) (n ∷ drop (suc i) nodes) =
      record { first = x; rest = others; middle = rest; are = refl; fresh = fresh; is_local = is_local; given = given; all = all } in
      subst (λ ts. A ts (drop i nodes)) (sym e) (subst (λ ns. A (t ∷ drop (suc i) types) ns) (sym f) here)

  reps_next : (types : List Ty) (nodes : List Node) (i : ℕ) (t : Ty) (n : Node)
      → drop i types ≡ t ∷ drop (suc i) types → drop i nodes ≡ n ∷ drop (suc i) nodes
      → haves (scope_in w) (drop i types) (trees (map tree (drop i nodes))) ≡ has_of (scope_in w) (tree n) (rep_of t) ∷ haves (scope_in w) (drop (suc i) types) (trees (map tree (drop (suc i) nodes)))
  reps_next types nodes i t n e f =
      ap (λ ts. haves (scope_in w) ts (trees (map tree (drop i nodes)))) e ∙ ap (λ ns. haves (scope_in w) (t ∷ drop (suc i) types) (trees (map tree ns))) f

  pub arguing_one : (s e g : Emitter) (types : List Ty) (nodes : List Node) (held : List Held) (i : ℕ) (d : Ty) (n : Node) (wanted : Rep) (one : Held)
      → length types ≡ length nodes → i < length nodes → wanted ≡ rep_of (get_or types i d) → n ≡ get_or nodes i n → Arguing s e types nodes held i → IsValue w e g (tree n) wanted one
      → (after : List Held) → after ≡ held ++ one ∷ [] → Arguing s g types nodes after (i + 1)
  arguing_one s e g types nodes held i d n wanted one as_many within wanted_is n_is so value after after_is =
      let t = get_or types i d in
      let x = local_name one.local in
      let h = has_of (scope_in w) (tree n) (rep_of t) in
      let v : IsValue w e g (tree n) (rep_of t) one = subst (λ r. IsValue w e g (tree n) r one) wanted_is value in
      let names : held_names (held ++ one ∷ []) ≡ held_names held ++ x ∷ [] = map-append (λ (h : Held). local_name h.local) held (one ∷ []) in
      let later : e.next ≤ g.next = v.emits.grows.later in
      let started : s.next ≤ e.next = so.emits.grows.later in
      let first_types : drop i types ≡ t ∷ drop (suc i) types = drop-cons types i d (omega arith) in
      let first_nodes : drop i nodes ≡ n ∷ drop (suc i) nodes = drop-cons nodes i n within ∙ ap (λ u. u ∷ drop (suc i) nodes) (sym n_is) in
      rw (after_is, add-one i) (record {
        below = below_held g.next held one (below_more e.next g.next (held_names held) later so.below) v.below;
        reps_are =
            so.reps_are ∙ ap (λ r. reps held ++ r) (reps_next types nodes i t n first_types first_nodes)
            ∙ ap (λ r. reps held ++ r ∷ haves (scope_in w) (drop (suc i) types) (trees (map tree (drop (suc i) nodes)))) (sym v.rep)
            ∙ sym (append_assoc (reps held) (one.rep ∷ []) (haves (scope_in w) (drop (suc i) types) (trees (map tree (drop (suc i) nodes)))))
            ∙ ap (λ r. r ++ haves (scope_in w) (drop (suc i) types) (trees (map tree (drop (suc i) nodes)))) (sym (map-append (λ (h : Held). h.rep) held (one ∷ [])));
        emits = then s e g (GivenSoFar s.next types nodes held i) (λ vars code rest. Gives w (tree n) h e.next one.local vars code rest)
            (GivenSoFar s.next types nodes (held ++ one ∷ []) (suc i)) so.emits v.emits
            (λ vars code middle rest p q live b others last given.
            let live_now = pushed (held_names held) live in
            let below_now : AreBelow e.next live_now = below_pushed e.next (held_names held) live so.below (below_more s.next e.next live started b) in
            let live_is : pushed (held_names (held ++ one ∷ [])) live ≡ x ∷ live_now = ap (λ xs. pushed xs live) names ∙ pushed-snoc (held_names held) x live in
            let all = subst (λ l. TrArgumentsIn w vars (drop (suc i) types) (trees (map tree (drop (suc i) nodes))) l others rest last) live_is given in
            let names_are : held_names held ++ x ∷ others ≡ held_names (held ++ one ∷ []) ++ others =
            sym (append_assoc (held_names held) (x ∷ []) others) ∙ ap (λ xs. xs ++ others) (sym names) in
            subst (λ m. TrArgumentsIn w vars types (trees (map tree nodes)) live m code last) names_are
            (p live b (x ∷ others) last (argument_next vars types nodes i t n live_now middle rest last x others first_types first_nodes (q.fresh live_now below_now) q.is_local (q.given live_now below_now) all)));
      })

  pub arguing_all : (s e : Emitter) (types : List Ty) (nodes : List Node) (held : List Held) (i : ℕ) → length types ≡ length nodes → length nodes ≤ i
      → Arguing s e types nodes held i → AreArguments w s e types (trees (map tree nodes)) held
  unfolding TrArguments
  arguing_all s e types nodes held i as_many past so =
      let no_types : drop i types ≡ [] = drop_all i types (omega arith) in
      let no_nodes : drop i nodes ≡ [] = drop_all i nodes past in
      record {
        below = so.below;
        reps = so.reps_are
            ∙ ap (λ ts. reps held ++ haves (scope_in w) ts (trees (map tree (drop i nodes)))) no_types ∙ ap (λ ns. reps held ++ haves (scope_in w) [] (trees (map tree ns))) no_nodes
            ∙ append-nil (reps held);
        emits = weaker s e (GivenSoFar s.next types nodes held i)
            (λ vars code rest. (live : List Name) → AreBelow s.next live → TrArgumentsIn w vars types (trees (map tree nodes)) live (held_names held) code rest)
            so.emits
            (λ vars code rest p live b.
            let A : List Ty → List Node → Type 0 = λ ts ns. TrArgumentsIn w vars ts (trees (map tree ns)) (pushed (held_names held) live) [] rest rest in
            let nothing : A [] [] = (refl, refl) in
            subst (λ m. TrArgumentsIn w vars types (trees (map tree nodes)) live m code rest) (append-nil (held_names held))
            (p live b [] rest (subst (λ ts. A ts (drop i nodes)) (sym no_types) (subst (λ ns. A [] ns) (sym no_nodes) nothing))));
      }

  -- The call ----------------------------------------------------------------------------------

  haves_length : (ts : List Ty) (ns : Trees) → AsMany ts ns → length ts ≡ length (haves (scope_in w) ts ns)
  haves_length [] none h = refl
  haves_length [] (more n ns) h = absurd h
  haves_length (t ∷ ts) none h = absurd h
  haves_length (t ∷ ts) (more n ns) h = ap suc (haves_length ts ns h)

  pub held_length : (s e : Emitter) (types : List Ty) (ns : Trees) (held : List Held) → AsMany types ns → AreArguments w s e types ns held → length types ≡ length held
  held_length s e types ns held as_many a = haves_length types ns as_many ∙ ap length a.reps ∙ length-map held (λ (h : Held). h.rep)

  pub ready_from : (s t u : Emitter) (types : List Ty) (ns : Trees) (held : List Held) (made : List ℕ) (args : List CArg)
      → AreArguments w s t types ns held → AreFitted t u types held made → args ≡ map local (map local_name made) → IsReady w s u types ns args
  ready_from s t u types ns held made args a f args_are = record {
    emits = then s t u
        (λ vars code rest. (live : List Name) → AreBelow s.next live → TrArgumentsIn w vars types ns live (held_names held) code rest)
        (λ vars code rest. (live : List Name) → AreBelow t.next live → AllFit vars types (reps held) (held_names held) live code (map local_name made) rest)
        (λ vars code rest. (live : List Name) → AreBelow s.next live → AreReady w types ns live args vars code rest) a.emits f.emits
        (λ vars code middle rest x y live b.
        let started : s.next ≤ t.next = a.emits.grows.later in
        let below : AreBelow t.next (held_names held ++ live) = below_append t.next (held_names held) live a.below (below_more s.next t.next live started b) in
        record {
          temporaries = held_names held;
          made = map local_name made;
          middle = middle;
          values = x live b;
          fit = subst (λ hs. AllFit vars types hs (held_names held) (held_names held ++ live) middle (map local_name made) rest) (sym a.reps) (y (held_names held ++ live) below);
          args_are = args_are;
        });
  }
