-- Scopes in which the same is found, and names that are noted among others.
use Rattle.std.specs.Prelude.{◌≡◌, ℕ, List, ◌++◌}
use Rattle.std.specs.List.{list_any}
use Rattle.c_meaning.specs.Plain.{signature_named}
use Rattle.c_meaning.specs.Breaches.{has, is_function, variable_type, Scope}
use Rattle.c_check.specs.Walks.{State}

-- the same is found in both
pub record Same (t s : Scope) : Type 0 where
  pub role : t.role ≡ s.role
  pub gives : t.result ≡ s.result
  pub functions : (name : List ℕ) → signature_named t.functions name ≡ signature_named s.functions name
  pub types : (x : List ℕ) → variable_type t x ≡ variable_type s x
  pub variables : t.variables ≡ s.variables
  pub labels : (l : List ℕ) → has t.labels l ≡ has s.labels l
  pub called : (name : List ℕ) → has t.called name ≡ has s.called name
  pub calls : list_any is_function t.called ≡ list_any is_function s.called
  pub blocks : t.blocks ≡ s.blocks
  pub room : t.room ≡ s.room

pub record SameState (a b : State) : Type 0 where
  pub scope : Same a.scope b.scope
  pub frames : a.frames ≡ b.frames
  pub ahead : a.ahead ≡ b.ahead

-- a table in which names were noted behind others
pub record IsNoted (old names new : List (List ℕ)) : Type 0 where
  pub found : (name : List ℕ) → has new name ≡ has (old ++ names) name
  pub calls : list_any is_function new ≡ list_any is_function (old ++ names)
