-- One test after another.
use Rattle.std.proofs.Common.{◌≡◌, Bool, true, false, if◌then◌else◌, refl}

pub found : {A : Type 0} (b : Bool) (a o : A) → true ≡ b → a ≡ (if b then a else o)
found true a o h = refl
found false a o h = absurd (cc)

pub passed : {A : Type 0} (b : Bool) (a o r : A) → false ≡ b → r ≡ o → r ≡ (if b then a else o)
passed true a o r h e = absurd (cc)
passed false a o r h e = e
