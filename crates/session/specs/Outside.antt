-- What one step on a handed-in object does, where it tells what it holds.
use Rattle.std.specs.Prelude.{◌≡◌, List, [], map, unwrap_or, find, is_none, Option, Some, None, Result, Ok, Err, Contains}
use Rattle.std.specs.FinMap.{get, insert}
use Rattle.base_io.specs.Contents.{Bytes, Contents, KeepsOthers}
use Rattle.session.specs.declared.errors.ReadErr.{ReadErr}
use Rattle.session.specs.declared.errors.ReadErr.TheVariants as read
use Rattle.session.specs.declared.errors.WriteErr.{WriteErr}
use Rattle.session.specs.declared.errors.WriteErr.TheVariants as write

-- the first name that isn't there
abbrev pub missing : Contents → List Bytes → Option Bytes
missing files names = find (λ name. is_none (get files name)) names

-- a name was read, isn't there, or may not have been read
abbrev pub ReadOne : Option Contents → Bytes → Result Bytes ReadErr → Type 0
ReadOne None name result = Unit {0}
ReadOne (Some files) name (Ok bytes) = get files name ≡ Some bytes
ReadOne (Some files) name (Err (read.NoFile n)) = (n ≡ name) × (get files name ≡ None)
ReadOne (Some files) name (Err (read.FileFault n)) = n ≡ name
ReadOne (Some files) name (Err read.Memory) = Unit {0}

-- a name was written, or may have lost what it had
abbrev pub WroteOne : Option Contents → Option Contents → Bytes → Bytes → Result (Unit {0}) WriteErr → Type 0
WroteOne None new name bytes result = Unit {0}
WroteOne (Some files) new name bytes (Ok done) = new ≡ Some (insert files name bytes)
WroteOne (Some files) new name bytes (Err (write.FileFault n)) = (n ≡ name) × KeepsOthers name files new
WroteOne (Some files) new name bytes (Err write.Memory) = KeepsOthers name files new

-- all names are there and were read, or the first that isn't there is this one
abbrev pub ReadAll : Option Contents → List Bytes → Result (List Bytes) ReadErr → Type 0
ReadAll None names result = Unit {0}
ReadAll (Some files) names (Ok texts) = (missing files names ≡ None) × (texts ≡ map (λ n. unwrap_or (get files n) []) names)
ReadAll (Some files) names (Err (read.NoFile n)) = missing files names ≡ Some n
ReadAll (Some files) names (Err (read.FileFault n)) = Contains names n
ReadAll (Some files) names (Err read.Memory) = Unit {0}
