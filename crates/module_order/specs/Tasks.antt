-- A walk over modules by tasks that are taken one at a time, the first of them next.
use Rattle.std.specs.Prelude.{ℕ, Bool, true, false, List, [], ◌∷◌, ◌++◌, if◌then◌else◌}
use Rattle.std.specs.List.{slice_index_or, slice_set}
use Rattle.meaning.specs.Order.{Imports, imported}
use Rattle.module_order.specs.declared.walk.Task.{Task}
use Rattle.module_order.specs.declared.walk.Task.TheVariants.{Visit, Add}
use Rattle.module_order.specs.declared.walk.Walk.{Walk}

-- the module of a task
abbrev pub number_of : Task → ℕ
number_of (Visit n) = n
number_of (Add n) = n

-- visits of these modules in turn, in front of other tasks
abbrev pub visits : List ℕ → List Task → List Task
visits [] ts = ts
visits (n ∷ ns) ts = Visit n ∷ visits ns ts

-- which modules are marked, by their numbers, what is still to be done, and the modules that were added
pub record State : Type 0 where
  pub marks : List Bool
  pub tasks : List Task
  pub order : List ℕ

abbrev pub state : Walk → State
state w = record { marks = w.marks.items; tasks = w.tasks; order = w.order }

-- with a task that comes first
abbrev pub before : Task → State → State
before t s = record { marks = s.marks; tasks = t ∷ s.tasks; order = s.order }

abbrev pub begun : Imports → ℕ → State → State
begun g n s = record { marks = slice_set s.marks n true; tasks = visits (imported g n) (Add n ∷ s.tasks); order = s.order }

abbrev pub added : ℕ → State → State
added n s = record { marks = s.marks; tasks = s.tasks; order = s.order ++ n ∷ [] }

-- after a task
abbrev pub after : Imports → Task → State → State
after g (Visit n) s = if slice_index_or s.marks n false then s else begun g n s
after g (Add n) s = added n s
