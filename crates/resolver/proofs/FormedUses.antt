-- What a module takes from others: each use is of an imported name, stands once, and what is called comes first.
use Rattle.std.proofs.Common.{◌≡◌, ℕ, zero, suc, ◌<◌, Bool, true, false, not, ◌&&◌, ◌||◌, if◌then◌else◌, List, [], ◌∷◌, ◌++◌, map, find, length, slice_get, Option, Some, None, refl, sym, ap, subst, ◌∙◌, append_assoc, arith}
use Rattle.std.proofs.lemmas.Bool.{not-true, and_parts, and_from, and_right, or_parts, or_from, or_left, or_right}
use Rattle.std.proofs.lemmas.List.{append-nil}
use Rattle.std.proofs.lemmas.List.Folds.{list_any-append}
use Rattle.std.specs.List.{list_any, list_all}
use Rattle.scheme_data.specs.Names.{are_distinct, is_same}
use Rattle.scheme_data.specs.Symbols.{IsSymbol}
use Rattle.name_table.specs.Names.{has_name}
use Rattle.iface_text.specs.declared.interface.Row.{Row}
use Rattle.iface_text.specs.Format.{IfaceTree, IsUntyped}
use Rattle.resolver.specs.BuiltHeads.{ImportTree, is_word}
use Rattle.core_tree.specs.declared.tree.Use.{Use}
use Rattle.core_tree.specs.declared.tree.Use.TheVariants.{From, Need}
use Rattle.core_tree.specs.Tree.{ModuleTree, found_use}
use Rattle.core_tree.specs.WellFormed.{IsFound, AreImports, module_of, row_of, takes, AreUses, same_use, each_once, is_need, are_ordered}
use Rattle.resolver.specs.Elaboration.{AreSpelled, row_for, onto, both, from, need, from_item, offered, calls, item_needs, needs, each_use_once, import_item}
use Rattle.resolver.specs.Firsts.{firsts}
use Rattle.resolver.specs.Parts.{with_first}
use Rattle.resolver.proofs.Firsts.{uses_first}
use Rattle.resolver.proofs.FormedParts.{Holds, word_is, itself, turned}
use Rattle.resolver.proofs.FormedHeads.{AreItems}
use Rattle.resolver.proofs.FormedRows.{IsRowOf, row_formed}

-- Items -------------------------------------------------------------------------------------

pub items_formed : (is : List ImportTree) → AreItems is → AreImports (map import_item is)
items_formed [] h = tt
items_formed (i ∷ is) h = (record { module_name = h.0.module_name; names = h.0.names; some = h.0.some }, items_formed is h.1)

-- one of these items takes the name from the module
abbrev IsTaken : List ImportTree → List ℕ → List ℕ → Type 0
IsTaken is m name = list_any (takes m name) (map import_item is) ≡ true

taken_here : (i : ImportTree) (is : List ImportTree) (name : List ℕ) → has_name i.names name ≡ true → IsTaken (i ∷ is) i.module_name name
taken_here i is name e =
    let here : takes i.module_name name (import_item i) ≡ true = and_from (is_same i.module_name i.module_name) (has_name i.names name) (itself i.module_name) e in
    or_left (takes i.module_name name (import_item i)) (list_any (takes i.module_name name) (map import_item is)) here

taken_later : (i : ImportTree) (is : List ImportTree) (m name : List ℕ) → IsTaken is m name → IsTaken (i ∷ is) m name
taken_later i is m name e = or_right (takes m name (import_item i)) (list_any (takes m name) (map import_item is)) e

-- an item that has the name
record Offers (is : List ImportTree) (name : List ℕ) (i : ImportTree) : Type 0 where
  pub module_name : IsSymbol i.module_name
  pub taken : IsTaken is i.module_name name

offers_later : (i : ImportTree) (is : List ImportTree) (name : List ℕ) (o : Option ImportTree) → Holds (Offers is name) o → Holds (Offers (i ∷ is) name) o
offers_later i is name None h = tt
offers_later i is name (Some j) h = record { module_name = h.module_name; taken = taken_later i is j.module_name name h.taken }

offer_found : (is : List ImportTree) (name : List ℕ) → AreItems is → Holds (Offers is name) (find (λ i. has_name i.names name) is)
offer_found [] name h = tt
offer_found (i ∷ is) name h = go (has_name i.names name) refl (offer_found is name h.1)
  where
    go : (b : Bool) → has_name i.names name ≡ b → Holds (Offers is name) (find (λ i. has_name i.names name) is)
        → Holds (Offers (i ∷ is) name) (if b then Some i else find (λ i. has_name i.names name) is)
    go true e later = record { module_name = h.0.module_name; taken = taken_here i is name e }
    go false e later = offers_later i is name (find (λ i. has_name i.names name) is) later

-- Uses --------------------------------------------------------------------------------------

-- a row of a name that one of these items takes
pub record IsGiven (is : List ImportTree) (u : Use) : Type 0 where
  pub module_name : IsSymbol (module_of u)
  pub name : IsSymbol (row_of u).name
  pub untyped : IsUntyped (row_of u).kind
  pub taken : IsTaken is (module_of u) (row_of u).name

abbrev pub AreGiven : List ImportTree → List Use → Type 0
AreGiven is [] = Unit {0}
AreGiven is (u ∷ us) = IsGiven is u × AreGiven is us

given : (is : List ImportTree) (u : Use) (name : List ℕ) → IsSymbol (module_of u) → IsTaken is (module_of u) name → IsRowOf name (row_of u) → IsGiven is u
given is u name n t r = record {
  module_name = n;
  name = r.is_name;
  untyped = r.untyped;
  taken = subst (IsTaken is (module_of u)) (sym r.same) t;
}

record IsCall (is : List ImportTree) (name : List ℕ) (u : Use) : Type 0 where
  pub called : is_need u ≡ false
  pub same : (row_of u).name ≡ name
  pub given : IsGiven is u

-- calls of these names
abbrev AreCalls : List ImportTree → List (List ℕ) → List Use → Type 0
AreCalls is [] [] = Unit {0}
AreCalls is [] (u ∷ us) = ⊥
AreCalls is (x ∷ xs) [] = ⊥
AreCalls is (x ∷ xs) (u ∷ us) = IsCall is x u × AreCalls is xs us

record IsNeed (is : List ImportTree) (u : Use) : Type 0 where
  pub needed : is_need u ≡ true
  pub given : IsGiven is u

abbrev AreNeeds : List ImportTree → List Use → Type 0
AreNeeds is [] = Unit {0}
AreNeeds is (u ∷ us) = IsNeed is u × AreNeeds is us

from_formed : (is : List ImportTree) (m name : List ℕ) (o : Option Row) → IsSymbol m → IsTaken is m name → Holds (IsRowOf name) o → Holds (IsCall is name) (from m o)
from_formed is m name None n t h = tt
from_formed is m name (Some r) n t h = record { called = refl; same = h.same; given = given is (From m r) name n t h }

need_formed : (is : List ImportTree) (m name : List ℕ) (o : Option Row) → IsSymbol m → IsTaken is m name → Holds (IsRowOf name) o → Holds (IsNeed is) (need m o)
need_formed is m name None n t h = tt
need_formed is m name (Some r) n t h = record { needed = refl; given = given is (Need m r) name n t h }

onto_calls : (is : List ImportTree) (x : List ℕ) (xs : List (List ℕ)) (o : Option Use) (us : Option (List Use)) → Holds (IsCall is x) o → Holds (AreCalls is xs) us
    → Holds (AreCalls is (x ∷ xs)) (onto o us)
onto_calls is x xs None us h k = tt
onto_calls is x xs (Some u) None h k = tt
onto_calls is x xs (Some u) (Some us) h k = (h, k)

onto_needs : (is : List ImportTree) (o : Option Use) (us : Option (List Use)) → Holds (IsNeed is) o → Holds (AreNeeds is) us → Holds (AreNeeds is) (onto o us)
onto_needs is None us h k = tt
onto_needs is (Some u) None h k = tt
onto_needs is (Some u) (Some us) h k = (h, k)

more_needs : (is : List ImportTree) (us vs : List Use) → AreNeeds is us → AreNeeds is vs → AreNeeds is (us ++ vs)
more_needs is [] vs h k = k
more_needs is (u ∷ us) vs h k = (h.0, more_needs is us vs h.1 k)

both_needs : (is : List ImportTree) (o p : Option (List Use)) → Holds (AreNeeds is) o → Holds (AreNeeds is) p → Holds (AreNeeds is) (both o p)
both_needs is None p h k = tt
both_needs is (Some us) None h k = tt
both_needs is (Some us) (Some vs) h k = more_needs is us vs h k

-- With interfaces that have spellings.
module _ (ifaces : List IfaceTree) (spelled : AreSpelled ifaces) where
  offered_formed : (is : List ImportTree) (name : List ℕ) → AreItems is → Holds (IsCall is name) (offered ifaces is name)
  offered_formed is name h = go (find (λ i. has_name i.names name) is) (offer_found is name h)
    where
      go : (o : Option ImportTree) → Holds (Offers is name) o → Holds (IsCall is name) (from_item ifaces name o)
      go None k = tt
      go (Some i) k = from_formed is i.module_name name (row_for ifaces i.module_name name) k.module_name k.taken (row_formed ifaces i.module_name name spelled)

  calls_formed : (is : List ImportTree) (xs : List (List ℕ)) → AreItems is → Holds (AreCalls is xs) (calls ifaces is xs)
  calls_formed is [] h = tt
  calls_formed is (x ∷ xs) h = onto_calls is x xs (offered ifaces is x) (calls ifaces is xs) (offered_formed is x h) (calls_formed is xs h)

  item_needs_formed : (is : List ImportTree) (m : List ℕ) (xs : List (List ℕ)) → IsSymbol m → ((x : List ℕ) → has_name xs x ≡ true → IsTaken is m x)
      → Holds (AreNeeds is) (item_needs ifaces m xs)
  item_needs_formed is m [] n t = tt
  item_needs_formed is m (x ∷ xs) n t =
      onto_needs is (need m (row_for ifaces m x)) (item_needs ifaces m xs)
      (need_formed is m x (row_for ifaces m x) n (t x (or_left (is_word x x) (has_name xs x) (itself x))) (row_formed ifaces m x spelled))
      (item_needs_formed is m xs n (λ y e. t y (or_right (is_word y x) (has_name xs y) e)))

  needs_formed : (is js : List ImportTree) → AreItems js → ((m x : List ℕ) → IsTaken js m x → IsTaken is m x) → Holds (AreNeeds is) (needs ifaces js)
  needs_formed is [] h t = tt
  needs_formed is (j ∷ js) h t =
      both_needs is (item_needs ifaces j.module_name j.names) (needs ifaces js)
      (item_needs_formed is j.module_name j.names h.0.module_name (λ x e. t j.module_name x (taken_here j js x e)))
      (needs_formed is js h.1 (λ m x e. t m x (taken_later j js m x e)))

-- Each once ---------------------------------------------------------------------------------

same_turned : (u v : Use) → same_use u v ≡ same_use v u
same_turned u v =
    ap (λ b. b && is_same (row_of u).name (row_of v).name) (turned (module_of u) (module_of v))
    ∙ ap (λ b. is_same (module_of v) (module_of u) && b) (turned (row_of u).name (row_of v).name)

-- of uses that stand once none stands before itself
use_before : (us : List Use) (u : Use) (vs : List Use) → each_once (us ++ u ∷ vs) ≡ true → list_any (same_use u) us ≡ false
use_before [] u vs d = refl
use_before (w ∷ us) u vs d =
    let parts = and_parts (not (list_any (same_use w) (us ++ u ∷ vs))) (each_once (us ++ u ∷ vs)) d in
    let absent : (list_any (same_use w) us || (same_use w u || list_any (same_use w) vs)) ≡ false =
    sym (list_any-append (same_use w) us (u ∷ vs)) ∙ not-true (list_any (same_use w) (us ++ u ∷ vs)) parts.0 in
    let after = or_parts (list_any (same_use w) us) (same_use w u || list_any (same_use w) vs) absent in
    let other = or_parts (same_use w u) (list_any (same_use w) vs) after.1 in
    or_from (same_use u w) (list_any (same_use u) us) (same_turned u w ∙ other.0) (use_before us u vs parts.1)

-- a new use goes last
use_added : (us : List Use) (u : Use) → each_once us ≡ true → list_any (same_use u) us ≡ false → each_once (us ++ u ∷ []) ≡ true
use_added [] u d n = refl
use_added (w ∷ us) u d n =
    let old = and_parts (not (list_any (same_use w) us)) (each_once us) d in
    let new = or_parts (same_use u w) (list_any (same_use u) us) n in
    let other : same_use w u ≡ false = same_turned w u ∙ new.0 in
    let absent : list_any (same_use w) (us ++ u ∷ []) ≡ false =
    list_any-append (same_use w) us (u ∷ []) ∙ or_from (list_any (same_use w) us) (same_use w u || false) (not-true (list_any (same_use w) us) old.0) (or_from (same_use w u) false other refl) in
    ap (λ b. not b && each_once (us ++ u ∷ [])) absent ∙ use_added us u old.1 new.1

first_once : (us seen : List Use) → each_once seen ≡ true → each_once (with_first same_use seen us) ≡ true
first_once [] seen d = d
first_once (u ∷ us) seen d = first_once us (if list_any (same_use u) seen then seen else seen ++ u ∷ []) (go (list_any (same_use u) seen) refl)
  where
    go : (b : Bool) → list_any (same_use u) seen ≡ b → each_once (if b then seen else seen ++ u ∷ []) ≡ true
    go true e = d
    go false e = use_added seen u d e

more_given : (is : List ImportTree) (us vs : List Use) → AreGiven is us → AreGiven is vs → AreGiven is (us ++ vs)
more_given is [] vs h k = k
more_given is (u ∷ us) vs h k = (h.0, more_given is us vs h.1 k)

first_given : (is : List ImportTree) (us seen : List Use) → AreGiven is us → AreGiven is seen → AreGiven is (with_first same_use seen us)
first_given is [] seen h k = k
first_given is (u ∷ us) seen h k = first_given is us (if list_any (same_use u) seen then seen else seen ++ u ∷ []) h.1 (go (list_any (same_use u) seen))
  where
    go : (b : Bool) → AreGiven is (if b then seen else seen ++ u ∷ [])
    go true = k
    go false = more_given is seen (u ∷ []) k (h.0, tt)

-- uses that stand once stay as they are
first_same : (us seen vs : List Use) → each_once (seen ++ us) ≡ true → with_first same_use seen (us ++ vs) ≡ with_first same_use (seen ++ us) vs
first_same [] seen vs d = ap (λ seen. with_first same_use seen vs) (sym (append-nil seen))
first_same (u ∷ us) seen vs d =
    ap (λ b. with_first same_use (if b then seen else seen ++ u ∷ []) (us ++ vs)) (use_before seen u us d)
    ∙ first_same us (seen ++ u ∷ []) vs (ap each_once (append_assoc seen (u ∷ []) us) ∙ d)
    ∙ ap (λ seen. with_first same_use seen vs) (append_assoc seen (u ∷ []) us)

-- these, and needs behind them
record NeedsBehind (seen us : List Use) : Type 0 where
  pub rest : List Use
  pub are : us ≡ seen ++ rest
  pub needs : list_all is_need rest ≡ true

first_needs : (is : List ImportTree) (vs seen : List Use) → AreNeeds is vs → NeedsBehind seen (with_first same_use seen vs)
first_needs is [] seen h = record { rest = []; are = sym (append-nil seen); needs = refl }
first_needs is (v ∷ vs) seen h =
    go (list_any (same_use v) seen) (with_first same_use seen (v ∷ vs)) (first_needs is vs (if list_any (same_use v) seen then seen else seen ++ v ∷ []) h.1)
  where
    go : (b : Bool) (us : List Use) → NeedsBehind (if b then seen else seen ++ v ∷ []) us → NeedsBehind seen us
    go true us k = k
    go false us k = record {
      rest = v ∷ k.rest;
      are = k.are ∙ append_assoc seen (v ∷ []) k.rest;
      needs = and_from (is_need v) (list_all is_need k.rest) h.0.needed k.needs;
    }

-- Calls before needs ------------------------------------------------------------------------

others_called : (is : List ImportTree) (x : List ℕ) (u : Use) → (row_of u).name ≡ x → (xs : List (List ℕ)) (us : List Use) → AreCalls is xs us
    → list_any (is_word x) xs ≡ false → list_any (same_use u) us ≡ false
others_called is x u s [] [] h n = refl
others_called is x u s [] (v ∷ us) h n = absurd h
others_called is x u s (y ∷ xs) [] h n = absurd h
others_called is x u s (y ∷ xs) (v ∷ us) h n =
    let parts = or_parts (is_word x y) (list_any (is_word x) xs) n in
    let other : is_same (row_of u).name (row_of v).name ≡ false = ap (λ n. is_same n (row_of v).name) s ∙ ap (is_same x) h.0.same ∙ parts.0 in
    let differs : same_use u v ≡ false = and_right (is_same (module_of u) (module_of v)) (is_same (row_of u).name (row_of v).name) other in
    or_from (same_use u v) (list_any (same_use u) us) differs (others_called is x u s xs us h.1 parts.1)

-- distinct names are called once
calls_once : (is : List ImportTree) (xs : List (List ℕ)) (us : List Use) → AreCalls is xs us → are_distinct xs ≡ true → each_once us ≡ true
calls_once is [] [] h d = refl
calls_once is [] (u ∷ us) h d = absurd h
calls_once is (x ∷ xs) [] h d = absurd h
calls_once is (x ∷ xs) (u ∷ us) h d =
    let parts = and_parts (not (list_any (is_word x) xs)) (are_distinct xs) d in
    ap (λ b. not b && each_once us) (others_called is x u h.0.same xs us h.1 (not-true (list_any (is_word x) xs) parts.0)) ∙ calls_once is xs us h.1 parts.1

needs_ordered : (ws : List Use) → list_all is_need ws ≡ true → are_ordered ws ≡ true
needs_ordered [] n = refl
needs_ordered (From m r ∷ ws) n = absurd (cc)
needs_ordered (Need m r ∷ ws) n = n

calls_ordered : (is : List ImportTree) (xs : List (List ℕ)) (us ws : List Use) → AreCalls is xs us → list_all is_need ws ≡ true → are_ordered (us ++ ws) ≡ true
calls_ordered is [] [] ws h n = needs_ordered ws n
calls_ordered is [] (u ∷ us) ws h n = absurd h
calls_ordered is (x ∷ xs) [] ws h n = absurd h
calls_ordered is (x ∷ xs) (From m r ∷ us) ws h n = calls_ordered is xs us ws h.1 n
calls_ordered is (x ∷ xs) (Need m r ∷ us) ws h n = let e : true ≡ false = h.0.called in absurd (cc)

calls_found : (is : List ImportTree) (xs : List (List ℕ)) (us ws : List Use) → AreCalls is xs us → (n : ℕ) → n < length xs → IsFound (found_use (slice_get (us ++ ws) n))
calls_found is [] [] ws h n l = absurd (omega arith)
calls_found is [] (u ∷ us) ws h n l = absurd h
calls_found is (x ∷ xs) [] ws h n l = absurd h
calls_found is (x ∷ xs) (From m r ∷ us) ws h zero l = tt
calls_found is (x ∷ xs) (From m r ∷ us) ws h (suc n) l = calls_found is xs us ws h.1 n (omega arith)
calls_found is (x ∷ xs) (Need m r ∷ us) ws h n l = let e : true ≡ false = h.0.called in absurd (cc)

calls_given : (is : List ImportTree) (xs : List (List ℕ)) (us : List Use) → AreCalls is xs us → AreGiven is us
calls_given is [] [] h = tt
calls_given is [] (u ∷ us) h = absurd h
calls_given is (x ∷ xs) [] h = absurd h
calls_given is (x ∷ xs) (u ∷ us) h = (h.0.given, calls_given is xs us h.1)

needs_given : (is : List ImportTree) (us : List Use) → AreNeeds is us → AreGiven is us
needs_given is [] h = tt
needs_given is (u ∷ us) h = (h.0.given, needs_given is us h.1)

-- All uses ----------------------------------------------------------------------------------

-- uses of what these items take, of which the first are calls of these names
pub record AreTaken (is : List ImportTree) (xs : List (List ℕ)) (us : List Use) : Type 0 where
  pub given : AreGiven is us
  pub once : each_once us ≡ true
  pub ordered : are_ordered us ≡ true
  pub called : (n : ℕ) → n < length xs → IsFound (found_use (slice_get us n))

taken_together : (is : List ImportTree) (xs : List (List ℕ)) (us vs : List Use) → AreCalls is xs us → AreNeeds is vs → are_distinct xs ≡ true → AreTaken is xs (firsts same_use (us ++ vs))
taken_together is xs us vs h k d =
    let behind : NeedsBehind us (with_first same_use us vs) = first_needs is vs us k in
    let all : with_first same_use [] (us ++ vs) ≡ us ++ behind.rest = first_same us [] vs (calls_once is xs us h d) ∙ behind.are in
    subst (AreTaken is xs) (uses_first (us ++ vs))
    (record {
      given = first_given is (us ++ vs) [] (more_given is us vs (calls_given is xs us h) (needs_given is vs k)) tt;
      once = first_once (us ++ vs) [] refl;
      ordered = ap are_ordered all ∙ calls_ordered is xs us behind.rest h behind.needs;
      called = λ n l. subst (λ us. IsFound (found_use (slice_get us n))) (sym all) (calls_found is xs us behind.rest h n l);
    })

taken_both : (is : List ImportTree) (xs : List (List ℕ)) (o p : Option (List Use)) → Holds (AreCalls is xs) o → Holds (AreNeeds is) p → are_distinct xs ≡ true
    → Holds (AreTaken is xs) (each_use_once (both o p))
taken_both is xs None p h k d = tt
taken_both is xs (Some us) None h k d = tt
taken_both is xs (Some us) (Some vs) h k d = taken_together is xs us vs h k d

pub uses_taken : (ifaces : List IfaceTree) (is : List ImportTree) (xs : List (List ℕ)) → AreSpelled ifaces → AreItems is → are_distinct xs ≡ true
    → Holds (AreTaken is xs) (each_use_once (both (calls ifaces is xs) (needs ifaces is)))
uses_taken ifaces is xs s h d = taken_both is xs (calls ifaces is xs) (needs ifaces is) (calls_formed ifaces s is xs h) (needs_formed ifaces s is is h (λ m x t. t)) d

-- what is taken from a module that none of the items names isn't there
foreign : (is : List ImportTree) (own m name : List ℕ) → list_any (λ i. is_word i.module_name own) is ≡ false → IsTaken is m name → is_same m own ≡ false
foreign [] own m name e t = absurd (cc)
foreign (i ∷ is) own m name e t =
    let parts = or_parts (is_word i.module_name own) (list_any (λ i. is_word i.module_name own) is) e in
    go (is_same i.module_name m) refl t parts.0 (foreign is own m name parts.1)
  where
    go : (b : Bool) → is_same i.module_name m ≡ b → ((b && has_name i.names name) || list_any (takes m name) (map import_item is)) ≡ true → is_word i.module_name own ≡ false
        → (IsTaken is m name → is_same m own ≡ false) → is_same m own ≡ false
    go true w t o later = subst (λ x. is_same x own ≡ false) (word_is i.module_name m w) o
    go false w t o later = later t

pub uses_formed : (m : ModuleTree) (is : List ImportTree) (us : List Use) → m.imports ≡ map import_item is → list_any (λ i. is_word i.module_name m.name) is ≡ false
    → AreGiven is us → AreUses m us
uses_formed m is [] e f h = tt
uses_formed m is (u ∷ us) e f h = (
  record {
    module_name = h.0.module_name;
    foreign = foreign is m.name (module_of u) (row_of u).name f h.0.taken;
    name = h.0.name;
    untyped = h.0.untyped;
    imported = ap (list_any (takes (module_of u) (row_of u).name)) e ∙ h.0.taken;
  },
  uses_formed m is us e f h.1,
)
