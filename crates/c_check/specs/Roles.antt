-- The roles and the rooms as the rules name them.
use Rattle.std.specs.Prelude.{Option, Some, None}
use Rattle.c_meaning.specs.Plain.{Role, Main, Maker, Initializer, Entry, Function}
use Rattle.c_meaning.specs.Breaches.{Room, Free, ToLoop, Over, next_room}
use Rattle.c_check.specs.declared.role.Role.{Role as Kept}
use Rattle.c_check.specs.declared.role.Role.TheVariants as kept
use Rattle.c_check.specs.declared.room.Room.{Room as KeptRoom}
use Rattle.c_check.specs.declared.room.Room.TheVariants as kept_room

abbrev pub role_as : Kept → Role
role_as kept.Main = Main
role_as kept.Maker = Maker
role_as kept.Initializer = Initializer
role_as kept.Entry = Entry
role_as kept.Function = Function

abbrev pub room_as : KeptRoom → Room
room_as kept_room.Free = Free
room_as kept_room.ToLoop = ToLoop
room_as kept_room.Over = Over

abbrev pub room_after : Room → Option KeptRoom → Room
room_after here None = here
room_after here (Some r) = next_room (room_as r)
