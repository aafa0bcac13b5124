-- What is left to be done: the tasks, and for each module that isn't marked a task for itself and for each import.
use Rattle.std.proofs.Common.{◌≡◌, ◌<◌, ◌+◌, ℕ, zero, suc, Bool, true, false, List, [], ◌∷◌, length, get_or, set, if◌then◌else◌, refl, arith}
use Rattle.std.proofs.lemmas.Bool.{true≢false}
use Rattle.meaning.specs.Order.{Imports, imported}
use Rattle.module_order.specs.declared.walk.Task.{Task}
use Rattle.module_order.specs.declared.walk.Task.TheVariants.{Visit, Add}
use Rattle.module_order.specs.Tasks.{State, number_of, visits, before, begun, after}

abbrev pub unmarked : Imports → List Bool → ℕ
unmarked [] marks = 0
unmarked (ns ∷ g) [] = 0
unmarked (ns ∷ g) (true ∷ marks) = unmarked g marks
unmarked (ns ∷ g) (false ∷ marks) = 1 + length ns + unmarked g marks

abbrev pub left : Imports → State → ℕ
left g s = unmarked g s.marks + length s.tasks

length-visits : (ns : List ℕ) (ts : List Task) → length (visits ns ts) ≡ length ns + length ts
length-visits [] ts = omega arith
length-visits (n ∷ ns) ts = let e = length-visits ns ts in omega arith

one_less : (g : Imports) (marks : List Bool) (n : ℕ) → n < length marks → length marks ≡ length g → get_or marks n false ≡ false
    → unmarked g marks ≡ 1 + length (imported g n) + unmarked g (set marks n true)
one_less [] [] n here long is_not = absurd (omega arith)
one_less [] (b ∷ marks) n here long is_not = absurd (omega arith)
one_less (ns ∷ g) [] n here long is_not = absurd (omega arith)
one_less (ns ∷ g) (true ∷ marks) zero here long is_not = absurd (true≢false is_not)
one_less (ns ∷ g) (false ∷ marks) zero here long is_not = refl
one_less (ns ∷ g) (true ∷ marks) (suc n) here long is_not = one_less g marks n (omega arith) (omega arith) is_not
one_less (ns ∷ g) (false ∷ marks) (suc n) here long is_not =
    let e = one_less g marks n (omega arith) (omega arith) is_not in
    omega arith

either : (g : Imports) (n : ℕ) (s : State) → length s.marks ≡ length g → n < length g → (is_marked : Bool) → get_or s.marks n false ≡ is_marked
    → left g (if is_marked then s else begun g n s) < left g (before (Visit n) s)
either g n s long here true is = omega arith
either g n s long here false is_not =
    let e = one_less g s.marks n (omega arith) long is_not in
    let f = length-visits (imported g n) (Add n ∷ s.tasks) in
    omega arith

pub falls : (g : Imports) (t : Task) (s : State) → length s.marks ≡ length g → number_of t < length g → left g (after g t s) < left g (before t s)
falls g (Visit n) s long here = either g n s long here (get_or s.marks n false) refl
falls g (Add n) s long here = omega arith
