-- What is written to a sink that tells what was written.
use Rattle.std.specs.Prelude.{◌≡◌, ◌++◌, Option, Some, None, Result, Ok, Err}
use Rattle.base_io.specs.Contents.{Bytes}

-- all bytes were written, or a part of them
abbrev pub PutAll : {E : Type 0} → Option Bytes → Option Bytes → Bytes → Result (Unit {0}) E → Type 0
PutAll None new bytes result = Unit {0}
PutAll (Some old) new bytes (Ok done) = new ≡ Some (old ++ bytes)
PutAll (Some old) new bytes (Err e) = (added : Bytes) × ((rest : Bytes) × (bytes ≡ added ++ rest) × (new ≡ Some (old ++ added)))
