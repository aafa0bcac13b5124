-- Open blocks, and how deep the innermost of each label and the innermost held one are.
use Rattle.std.specs.Prelude.{◌≡◌, ℕ, ◌+◌, List, [], ◌∷◌, length, Option, Some, None, if◌then◌else◌}
use Rattle.std.specs.Map.{lookup}
use Rattle.scheme_data.specs.Names.{is_same}
use Rattle.c_meaning.specs.Breaches.{Open, Within, Held}
use Rattle.c_check.specs.Roles.{room_as}
use Rattle.c_check.specs.Walks.{Frame}
use Rattle.c_check.specs.declared.room.Room.{Room}
use Rattle.c_check.specs.declared.blocks.Kept.{Kept}
use Rattle.c_check.specs.declared.blocks.Kept.TheVariants as kept
use Rattle.c_check.specs.declared.blocks.Blocks.{Blocks}

abbrev pub opens_of : List Kept → List Open
opens_of [] = []
opens_of (kept.Branch room ∷ ks) = opens_of ks
opens_of (kept.Within l outer room ∷ ks) = Within l ∷ opens_of ks
opens_of (kept.Held outer room ∷ ks) = Held ∷ opens_of ks

abbrev pub room_in : Kept → Room
room_in (kept.Branch room) = room
room_in (kept.Within l outer room) = room
room_in (kept.Held outer room) = room

abbrev pub frames_of : List Kept → List Frame
frames_of [] = []
frames_of (k ∷ ks) = record { blocks = opens_of ks; room = room_as (room_in k) } ∷ frames_of ks

abbrev pub kept_room : List Kept → Option Room
kept_room [] = None
kept_room (k ∷ ks) = Some (room_in k)

abbrev pub depth_of : Option ℕ → ℕ
depth_of None = 0
depth_of (Some n) = n

abbrev pub label_depth : List ℕ → List Kept → ℕ
label_depth l [] = 0
label_depth l (kept.Branch room ∷ ks) = label_depth l ks
label_depth l (kept.Within m outer room ∷ ks) = if is_same l m then length ks + 1 else label_depth l ks
label_depth l (kept.Held outer room ∷ ks) = label_depth l ks

abbrev pub held_depth : List Kept → ℕ
held_depth [] = 0
held_depth (kept.Branch room ∷ ks) = held_depth ks
held_depth (kept.Within l outer room ∷ ks) = held_depth ks
held_depth (kept.Held outer room ∷ ks) = length ks + 1

-- each block keeps the depth that counts behind it
abbrev pub AreOuter : List Kept → Type 0
AreOuter [] = Unit {0}
AreOuter (kept.Branch room ∷ ks) = AreOuter ks
AreOuter (kept.Within l outer room ∷ ks) = (outer ≡ label_depth l ks) × AreOuter ks
AreOuter (kept.Held outer room ∷ ks) = (outer ≡ held_depth ks) × AreOuter ks

-- the depths that are kept are those of the blocks
pub record AreDepths (depths : List (List ℕ × ℕ)) (held : ℕ) (ks : List Kept) : Type 0 where
  pub labels : (l : List ℕ) → depth_of (lookup (is_same l) depths) ≡ label_depth l ks
  pub innermost : held ≡ held_depth ks
  pub outer : AreOuter ks

abbrev pub IsOpen : Blocks → Type 0
IsOpen b = AreDepths b.depths b.held b.kept
