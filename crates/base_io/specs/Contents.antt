-- What files hold, a finite map from names to bytes, and what a read and a write do to it.
use Rattle.std.specs.Prelude.{◌≡◌, ◌≢◌, ℕ, List, Option, Result, Some, None, Ok, Err}
use Rattle.std.specs.Ordering.{nat_cmp}
use Rattle.std.specs.Cmp.Lexicographic.{slice_cmp}
use Rattle.std.specs.FinMap.{FinMap, get, insert}
use Rattle.base_io.specs.declared.files.Found.{Found}
use Rattle.base_io.specs.declared.files.Found.TheVariants.{Yes, No}
use Rattle.base_io.specs.declared.files.FileErr.{FileErr}

abbrev pub Bytes : Type 0
Bytes = List ℕ

-- what each name has
abbrev pub Contents : Type 0
Contents = FinMap (slice_cmp nat_cmp) Bytes

-- each name but one has what it had
abbrev pub SameBut : Bytes → Contents → Contents → Type 0
SameBut name old new = (other : Bytes) → other ≢ name → get new other ≡ get old other

-- where the files tell, an Ok of a read says whether the name is there, and gives what it has
abbrev pub Reads : Option Contents → Bytes → Bytes → Result Found FileErr → Type 0
Reads None name into result = Unit {0}
Reads (Some files) name into (Ok Yes) = get files name ≡ Some into
Reads (Some files) name into (Ok No) = get files name ≡ None
Reads (Some files) name into (Err e) = Unit {0}

-- the files still tell, and each name but one has what it had
abbrev pub KeepsOthers : Bytes → Contents → Option Contents → Type 0
KeepsOthers name files None = ⊥
KeepsOthers name files (Some after) = SameBut name files after

-- where the files tell, an Ok of a write says that the name has the bytes and all else stays, an Err that all else stays
abbrev pub Writes : {E : Type 0} → Option Contents → Option Contents → Bytes → Bytes → Result (Unit {0}) E → Type 0
Writes None new name bytes result = Unit {0}
Writes (Some files) new name bytes (Ok done) = new ≡ Some (insert files name bytes)
Writes (Some files) new name bytes (Err e) = KeepsOthers name files new
