-- Values, the store, the state of an evaluation, and how it ends.
use Rattle.std.specs.Prelude.{ℕ, zero, suc, ℤ, Bool, List, Option}

pub data Value : Type 0 where
  Fixnum : ℤ → Value
  Boolean : Bool → Value
  Empty : Value
  Unspecified : Value

-- what the store has at a place: a closure of a function, by its module's name and its number there
pub data Object : Type 0 where
  Closure : List ℕ → ℕ → Object

-- the store, the top-level variables (none where unset), the output, the input that is left, the turns left
pub record State : Type 0 where
  pub store : List Object
  pub globals : List (Option Value)
  pub output : List ℕ
  pub input : List ℕ
  pub turns : ℕ

-- an evaluation gives a result, escapes to the exit at a place of the store, raises an error with its code and text, or has spent its turns
pub data Outcome (A : Type 0) : Type 0 where
  Gives : A → State → Outcome A
  Escapes : ℕ → Value → State → Outcome A
  Raises : ℕ → List ℕ → State → Outcome A
  Spends : State → Outcome A

-- where a part doesn't give a value, the whole ends the same
abbrev pub bind : {A B : Type 0} → Outcome A → (A → State → Outcome B) → Outcome B
bind (Gives a s) next = next a s
bind (Escapes x v s) next = Escapes x v s
bind (Raises c t s) next = Raises c t s
bind (Spends s) next = Spends s

abbrev pub take_from : {A : Type 0} → ℕ → State → (State → Outcome A) → Outcome A
take_from zero s next = Spends s
take_from (suc n) s next = next (record s { turns = n })

-- one turn less, or Spent where none is left
abbrev pub take_turn : {A : Type 0} → State → (State → Outcome A) → Outcome A
take_turn s next = take_from s.turns s next
