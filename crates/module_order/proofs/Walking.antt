-- A walk on its way: whatever finishes its tasks finishes the whole.
use Rattle.std.proofs.Common.{◌≡◌, ◌<◌, ℕ, zero, suc, Bool, true, false, List, [], ◌∷◌, ◌++◌, length, get_or, set, replicate, if◌then◌else◌, refl, sym, ◌∙◌, subst, append_assoc, arith}
use Rattle.std.proofs.lemmas.Bool.{and_parts, and_from, ltb-true}
use Rattle.std.proofs.lemmas.Bool.Decides.{nat_tests}
use Rattle.std.proofs.lemmas.List.{append-nil, length-set, length-replicate, get_or-set_same, get_or-set_other}
use Rattle.std.specs.Prelude.{nat_lt}
use Rattle.std.specs.List.{list_all}
use Rattle.meaning.specs.Order.{Imports, imported, is_marked, Visits, IsOrder}
use Rattle.module_order.specs.declared.walk.Task.{Task}
use Rattle.module_order.specs.declared.walk.Task.TheVariants.{Visit, Add}
use Rattle.module_order.specs.Tasks.{State, number_of, visits, before, begun, added, after}
use Rattle.module_order.proofs.Left.{left, falls}
use Rattle.module_order.proofs.Finishing.{Finishes, over, add, passes, begins, alone}

-- the numbers of modules
abbrev is_one : Imports → ℕ → Bool
is_one g n = nat_lt n (length g)

abbrev are_ones : Imports → List Task → Bool
are_ones g ts = list_all (λ t. is_one g (number_of t)) ts

-- each import is one of the modules
abbrev pub AreWithin : Imports → Type 0
AreWithin g = list_all (λ ns. list_all (λ n. nat_lt n (length g)) ns) g ≡ true

pub record Stands (g : Imports) (root : ℕ) (s : State) : Type 0 where
  pub marked : List ℕ
  pub same : (n : ℕ) → get_or s.marks n false ≡ is_marked marked n
  pub long : length s.marks ≡ length g
  pub within : are_ones g s.tasks ≡ true
  pub finish : (later others : List ℕ) → Finishes g s.tasks marked later others → Visits g [] (root ∷ []) later (s.order ++ others)

-- At the start ------------------------------------------------------------------------------

none_marked : (count n : ℕ) → get_or (replicate count false) n false ≡ false
none_marked zero n = refl
none_marked (suc count) zero = refl
none_marked (suc count) (suc n) = none_marked count n

pub stands_first : (g : Imports) (root : ℕ) (s : State) → root < length g → s ≡ record { marks = replicate (length g) false; tasks = Visit root ∷ []; order = [] } → Stands g root s
stands_first g root s is_there begun = subst (Stands g root) (sym begun) (record {
  marked = [];
  same = none_marked (length g);
  long = length-replicate (length g) false;
  within = grind (arith, nat_tests);
  finish = alone g root [];
})

-- At the end --------------------------------------------------------------------------------

pub stands_last : (g : Imports) (root : ℕ) (s : State) (order : List ℕ) → s.tasks ≡ [] → order ≡ s.order → Stands g root s → IsOrder g root order
stands_last g root s order none same stands = record {
  marked = stands.marked;
  visits = subst (Visits g [] (root ∷ []) stands.marked) (append-nil s.order ∙ sym same)
      (stands.finish stands.marked [] (subst (λ (ts : List Task). Finishes g ts stands.marked stands.marked []) (sym none) (over stands.marked)));
}

-- After a task ------------------------------------------------------------------------------

all_imported : (p : List ℕ → Bool) (g : Imports) (n : ℕ) → p [] ≡ true → list_all p g ≡ true → p (imported g n) ≡ true
all_imported p [] n none all = none
all_imported p (ns ∷ g) zero none all = (and_parts (p ns) (list_all p g) all).0
all_imported p (ns ∷ g) (suc n) none all = all_imported p g n none (and_parts (p ns) (list_all p g) all).1

visits_within : (g : Imports) (ns : List ℕ) (ts : List Task) → list_all (is_one g) ns ≡ true → are_ones g ts ≡ true → are_ones g (visits ns ts) ≡ true
visits_within g [] ts each all = all
visits_within g (n ∷ ns) ts each all =
    let e = and_parts (is_one g n) (list_all (is_one g) ns) each in
    and_from (is_one g n) (are_ones g (visits ns ts)) e.0 (visits_within g ns ts e.1 all)

mark_one : (marks : List Bool) (marked : List ℕ) (n : ℕ) → n < length marks → ((m : ℕ) → get_or marks m false ≡ is_marked marked m) → (m : ℕ) → get_or (set marks n true) m false ≡ is_marked (n ∷ marked) m
mark_one marks marked n here same m = grind (arith, nat_tests, same m, get_or-set_same marks n true false here, get_or-set_other marks n m true false)

stands_skipped : (g : Imports) (root n : ℕ) (s : State) → get_or s.marks n false ≡ true → Stands g root (before (Visit n) s) → Stands g root s
stands_skipped g root n s is stands = record {
  marked = stands.marked;
  same = stands.same;
  long = stands.long;
  within = (and_parts (is_one g n) (are_ones g s.tasks) stands.within).1;
  finish = λ later others f. stands.finish later others (passes g n s.tasks stands.marked later others (sym (stands.same n) ∙ is) f);
}

stands_begun : (g : Imports) (root n : ℕ) (s : State) → AreWithin g → n < length g → get_or s.marks n false ≡ false → Stands g root (before (Visit n) s) → Stands g root (begun g n s)
stands_begun g root n s each is_there is_not stands =
    let w = and_parts (is_one g n) (are_ones g s.tasks) stands.within in
    record {
      marked = n ∷ stands.marked;
      same = mark_one s.marks stands.marked n (omega (arith, stands.long)) stands.same;
      long = length-set s.marks n true ∙ stands.long;
      within = visits_within g (imported g n) (Add n ∷ s.tasks) (all_imported (list_all (is_one g)) g n refl each) (and_from (is_one g n) (are_ones g s.tasks) w.0 w.1);
      finish = λ later others f. stands.finish later others (begins g n s.tasks stands.marked later others (sym (stands.same n) ∙ is_not) f);
    }

stands_added : (g : Imports) (root n : ℕ) (s : State) → Stands g root (before (Add n) s) → Stands g root (added n s)
stands_added g root n s stands = record {
  marked = stands.marked;
  same = stands.same;
  long = stands.long;
  within = (and_parts (is_one g n) (are_ones g s.tasks) stands.within).1;
  finish = λ later others f. subst (Visits g [] (root ∷ []) later) (sym (append_assoc s.order (n ∷ []) others)) (stands.finish later (n ∷ others) (add n s.tasks stands.marked later others f));
}

either : (g : Imports) (root n : ℕ) (s : State) → AreWithin g → n < length g → (is_marked : Bool) → get_or s.marks n false ≡ is_marked → Stands g root (before (Visit n) s)
    → Stands g root (if is_marked then s else begun g n s)
either g root n s each is_there true is stands = stands_skipped g root n s is stands
either g root n s each is_there false is_not stands = stands_begun g root n s each is_there is_not stands

next_within : (g : Imports) (root : ℕ) (t : Task) (s : State) → Stands g root (before t s) → number_of t < length g
next_within g root t s stands = ltb-true (number_of t) (length g) (and_parts (is_one g (number_of t)) (are_ones g s.tasks) stands.within).0

stands_behind : (g : Imports) (root : ℕ) (t : Task) (s : State) → AreWithin g → Stands g root (before t s) → Stands g root (after g t s)
stands_behind g root (Visit n) s each stands = either g root n s each (next_within g root (Visit n) s stands) (get_or s.marks n false) refl stands
stands_behind g root (Add n) s each stands = stands_added g root n s stands

pub stands_on : (g : Imports) (root : ℕ) (t : Task) (s middle next : State) → AreWithin g → s ≡ before t middle → next ≡ after g t middle → Stands g root s → Stands g root next
stands_on g root t s middle next each taken done stands = subst (Stands g root) (sym done) (stands_behind g root t middle each (subst (Stands g root) taken stands))

pub gets_less : (g : Imports) (root : ℕ) (t : Task) (s middle next : State) → s ≡ before t middle → next ≡ after g t middle → Stands g root s → left g next < left g s
gets_less g root t s middle next taken done stands =
    let here : Stands g root (before t middle) = subst (Stands g root) taken stands in
    rw (taken, done) (falls g t middle here.long (next_within g root t middle here))
