-- The scope that the tables of a function stand for.
use Rattle.c_meaning.specs.Breaches.{Scope}
use Rattle.c_check.specs.Roles.{role_as, room_as}
use Rattle.c_check.specs.Blocks.{opens_of, frames_of}
use Rattle.c_check.specs.Walks.{State}
use Rattle.c_check.specs.declared.scope.Scope.{Scope as Kept}

abbrev pub scope_of : Kept → Scope
scope_of s = record {
  role = role_as s.role;
  result = s.gives;
  functions = s.functions.now;
  globals = s.globals.now;
  variables = s.variables;
  labels = s.labels;
  called = s.called;
  blocks = opens_of s.blocks.kept;
  room = room_as s.room;
}

abbrev pub state_of : Kept → State
state_of s = record { scope = scope_of s; frames = frames_of s.blocks.kept; ahead = s.ahead }
