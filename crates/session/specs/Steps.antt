-- What the last step of a line does.
use Rattle.std.specs.Prelude.{◌≡◌, List, [], ◌∷◌, ◌++◌, Option, Result, Ok, Err}
use Rattle.base_io.specs.Contents.{Contents}
use Rattle.base_io.specs.declared.end.End.{End}
use Rattle.session.specs.declared.answer.Effect.{Effect}
use Rattle.session.specs.declared.answer.Effect.TheVariants.{Nothing, Wrote, Ran}
use Rattle.session.specs.declared.errors.WriteErr.{WriteErr}
use Rattle.session.specs.declared.errors.WriteErr.TheVariants.{Memory}
use Rattle.session.specs.Outside.{WroteOne}

-- what an effect does to files and ends
abbrev pub Finished : Option Contents → Option Contents → List End → List End → Effect → Result (Unit {0}) WriteErr → Type 0
Finished files after old new Nothing (Ok done) = (new ≡ old) × (after ≡ files)
Finished files after old new Nothing (Err e) = ⊥
Finished files after old new (Wrote name bytes) result = (new ≡ old) × WroteOne files after name bytes result
Finished files after old new (Ran end) (Ok done) = (new ≡ old ++ end ∷ []) × (after ≡ files)
Finished files after old new (Ran end) (Err e) = (e ≡ Memory) × (after ≡ files)
