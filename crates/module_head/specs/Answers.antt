-- What reading a head answers.
use Rattle.std.specs.Prelude.{◌≡◌, ℕ, List, Result, Ok, Err}
use Rattle.scheme_data.specs.declared.datum.Place.{Place}
use Rattle.module_head.specs.declared.head.Head.{Head}
use Rattle.module_head.specs.declared.error.HeadErr.{HeadErr}
use Rattle.module_head.specs.declared.error.HeadErr.TheVariants.{Header, Duplicate, Memory}
use Rattle.module_head.specs.Heads.{Breach, header, duplicate}

abbrev pub IfHeader : {A : Type 0} → Result A HeadErr → (Place → Type 0) → Type 0
IfHeader (Ok a) P = Unit {0}
IfHeader (Err (Header at)) P = P at
IfHeader (Err (Duplicate x)) P = Unit {0}
IfHeader (Err Memory) P = Unit {0}

abbrev pub IfDuplicate : {A : Type 0} → Result A HeadErr → (List ℕ → Type 0) → Type 0
IfDuplicate (Ok a) P = Unit {0}
IfDuplicate (Err (Header at)) P = Unit {0}
IfDuplicate (Err (Duplicate x)) P = P x
IfDuplicate (Err Memory) P = Unit {0}

-- this head is answered, unless memory runs out
abbrev pub GivesHead : Head → Result Head HeadErr → Type 0
GivesHead h (Ok g) = g ≡ h
GivesHead h (Err (Header at)) = ⊥
GivesHead h (Err (Duplicate x)) = ⊥
GivesHead h (Err Memory) = Unit {0}

-- the refusal for this breach is answered, unless memory runs out
abbrev pub Refuses : Breach → Result Head HeadErr → Type 0
Refuses b (Ok h) = ⊥
Refuses b (Err (Header at)) = header at ≡ b
Refuses b (Err (Duplicate x)) = duplicate x ≡ b
Refuses b (Err Memory) = Unit {0}
