-- What a source, a sink and files in memory are.
use Rattle.std.specs.Prelude.{ℕ, ◌+◌, ◌-◌, ◌^◌, List, Result, Ok, Err, min, refl}
use Rattle.std.specs.Coded.{Coded, code_by, coded×, coded_list, coded_ℕ}
use Rattle.std.specs.FinMap as map
use Rattle.base_io.specs.Contents.{Bytes, Contents}
use Rattle.base_io.specs.declared.files.FileErr.{FileErr}
use Rattle.base_io.specs.declared.files.FileErr.TheVariants.{Failed, Memory}

-- the number of the next call or fault, which stays at its last value
abbrev pub next : ℕ → ℕ
next n = min (n + 1) (2 ^ 64 - 1)

-- the bytes left, the number of the last call, the calls that are to fail, and how many faults there were
pub record SourceState : Type 0 where
  pub left : Bytes
  pub calls : ℕ
  pub fails : List ℕ
  pub faults : ℕ

-- the bytes written, for how many more there is room, and calls and faults as in a source
pub record SinkState : Type 0 where
  pub written : Bytes
  pub room : ℕ
  pub calls : ℕ
  pub fails : List ℕ
  pub faults : ℕ

-- what each name has, and calls and faults as in a source
pub record FilesState : Type 0 where
  pub contents : Contents
  pub calls : ℕ
  pub fails : List ℕ
  pub faults : ℕ

-- files in memory are stored as the tuple of their fields
abbrev pub coded_files : Coded FilesState
coded_files =
    code_by (Contents × (ℕ × (List ℕ × ℕ))) (coded× (map.code (coded_list coded_ℕ) (coded_list coded_ℕ)) (coded× coded_ℕ (coded× (coded_list coded_ℕ) coded_ℕ))) (λ f. (f.contents, (f.calls, (f.fails, f.faults)))) (λ p. record { contents = p.0; calls = p.1.0; fails = p.1.1.0; faults = p.1.1.1 }) (λ _. refl)

-- the faults of files after a call that gave this
abbrev pub file_faults : {T : Type 0} → Result T FileErr → ℕ → ℕ
file_faults (Ok x) n = n
file_faults (Err Failed) n = next n
file_faults (Err Memory) n = n
