-- What an earlier declaration of a function said, as far as its parameters were met.
use Rattle.std.specs.Prelude.{ℕ, List, ◌++◌, drop, Bool, true, Option, Some, None}
use Rattle.c_tree.specs.declared.tree.CTy.{CTy}
use Rattle.c_meaning.specs.declared.breach.BadCause.{BadCause}
use Rattle.c_meaning.specs.declared.breach.BadCause.TheVariants.{Clash, Shape}
use Rattle.c_meaning.specs.Plain.{same_type, Role}
use Rattle.c_meaning.specs.Breaches.{unless}
use Rattle.c_meaning.specs.Checked.{result_fits}
use Rattle.c_check.specs.declared.heads.Before.{Before}
use Rattle.c_check.specs.declared.heads.Before.TheVariants as before

abbrev pub gives_before : Before → Option CTy
gives_before before.Nothing = None
gives_before (before.Types shape) = Some shape.now.gives

abbrev pub takes_before : Before → Option (List CTy)
takes_before before.Nothing = None
takes_before (before.Types shape) = Some shape.now.params

abbrev pub dropped : ℕ → Option (List CTy) → Option (List CTy)
dropped n None = None
dropped n (Some types) = Some (drop n types)

abbrev pub result_before : Option CTy → CTy → Bool
result_before None t = true
result_before (Some u) t = same_type u t

abbrev pub result_wrong : Role → Option CTy → CTy → List BadCause
result_wrong role earlier t = unless Clash (result_before earlier t) ++ unless Shape (result_fits role t)
