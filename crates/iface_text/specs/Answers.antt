-- What reading an interface's text answers.
use Rattle.std.specs.Prelude.{◌≡◌, ℕ, List, Result, Ok, Err}
use Rattle.scheme_data.specs.declared.datum.Place.{Place}
use Rattle.iface_text.specs.declared.interface.Iface.{Iface}
use Rattle.iface_text.specs.declared.interface.IfaceErr.{IfaceErr}
use Rattle.iface_text.specs.declared.interface.IfaceErr.TheVariants.{NotInterface, Memory}
use Rattle.iface_text.specs.Format.{IfaceTree, iface_tree, HasSpelling, spelling}
use Rattle.iface_text.specs.Refusal.{FirstBad}

-- the bytes are the text of this interface
pub record IsText (bytes : List ℕ) (i : IfaceTree) : Type 0 where
  pub has_spelling : HasSpelling i
  pub are : bytes ≡ spelling i

-- the place is where the first bad line begins
pub record IsRefusal (bytes : List ℕ) (at : Place) : Type 0 where
  pub line : FirstBad bytes at.line
  pub column : at.column ≡ 1

abbrev pub ReadsIface : List ℕ → Result Iface IfaceErr → Type 0
ReadsIface bytes (Ok i) = IsText bytes (iface_tree i)
ReadsIface bytes (Err (NotInterface at)) = IsRefusal bytes at
ReadsIface bytes (Err Memory) = Unit {0}

-- unless memory runs out
abbrev pub GivesIface : IfaceTree → Result Iface IfaceErr → Type 0
GivesIface i (Ok r) = iface_tree r ≡ i
GivesIface i (Err (NotInterface at)) = ⊥
GivesIface i (Err Memory) = Unit {0}
