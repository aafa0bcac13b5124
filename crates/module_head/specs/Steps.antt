-- A head that is read part by part, until the first breach.
use Rattle.std.specs.Prelude.{◌≡◌, ℕ, Bool, true, false, if◌then◌else◌, List, [], ◌∷◌, ◌++◌, codes, Option, Some, None, Result, Ok, Err}
use Rattle.scheme_data.specs.Forms.{Form, form_says}
use Rattle.scheme_data.specs.Names.{is_same}
use Rattle.name_table.specs.Names.{has_name}
use Rattle.module_head.specs.declared.head.Head.{Head}
use Rattle.module_head.specs.declared.error.HeadErr.{HeadErr}
use Rattle.module_head.specs.declared.error.HeadErr.TheVariants.{Header, Duplicate, Memory}
use Rattle.module_head.specs.declared.reading.Reading.{Reading}
use Rattle.module_head.specs.declared.reading.ItemKind.{ItemKind}
use Rattle.module_head.specs.declared.reading.ItemKind.TheVariants.{Import, Export, Static, Extern}
use Rattle.module_head.specs.Heads.{Part, imported, exported, kept, foreign, main, wrong, import_part, export_part, static_part, extern_part, Breach, header, duplicate, has_main, Outcome, right, wrong_at_first}

pub data Step : Type 0 where
  on : Reading → Step
  off : Breach → Step

abbrev pub after : Step → (Reading → Step) → Step
after (off b) F = off b
after (on r) F = F r

abbrev pub unless : Bool → Breach → Reading → Step
unless true b r = off b
unless false b r = on r

abbrev pub with_declared : Reading → List ℕ → Reading
with_declared r x = record r { declared = r.declared ++ x ∷ [] }

-- a name that is declared once more
abbrev pub declare : Reading → List ℕ → Step
declare r x = unless (has_name r.declared x) (duplicate x) (with_declared r x)

abbrev pub take : Reading → Part → Step
take r (imported i) = unless (is_same i.module_name r.head.name) (header i.at) (record r { head = record r.head { imports = r.head.imports ++ i ∷ [] } })
take r (exported e) = after (declare r e.name) (λ s. on (record s { head = record s.head { exports = s.head.exports ++ e ∷ [] } }))
take r (kept e) = after (declare r e.name) (λ s. on (record s { head = record s.head { statics = s.head.statics ++ e ∷ [] } }))
take r (foreign e) = after (declare r e.name) (λ s. on (record s { head = record s.head { externs = s.head.externs ++ e ∷ [] } }))
take r (main m) = unless (has_main r.head.main) (header m.at) (record r { head = record r.head { main = Some m } })
take r (wrong at) = off (header at)

abbrev pub take_all : List Part → Reading → Step
take_all [] r = on r
take_all (p ∷ ps) r = after (take r p) (take_all ps)

-- the clause with this word, of those that have items
abbrev pub kind_of : Form → Option ItemKind
kind_of word =
    if form_says word (codes "import") then Some Import
    else (if form_says word (codes "export") then Some Export
    else (if form_says word (codes "static") then Some Static
    else (if form_says word (codes "extern") then Some Extern
    else None)))

abbrev pub item_part : ItemKind → Form → Part
item_part Import = import_part
item_part Export = export_part
item_part Static = static_part
item_part Extern = extern_part

-- what is answered is so, and this is how far the reading has come
abbrev pub Follows : {A : Type 0} → Step → Result A HeadErr → Reading → Type 0
Follows o (Ok a) r = o ≡ on r
Follows o (Err (Header at)) r = o ≡ off (header at)
Follows o (Err (Duplicate x)) r = o ≡ off (duplicate x)
Follows o (Err Memory) r = Unit {0}

abbrev pub bare : List ℕ → Reading
bare name = record { head = record { name = name; imports = []; exports = []; statics = []; externs = []; main = None }; declared = [] }

abbrev pub finished : Step → Outcome
finished (on r) = right r.head
finished (off b) = wrong_at_first b

-- what is answered is the outcome
abbrev pub Answers : Outcome → Result Head HeadErr → Type 0
Answers o (Ok h) = o ≡ right h
Answers o (Err (Header at)) = o ≡ wrong_at_first (header at)
Answers o (Err (Duplicate x)) = o ≡ wrong_at_first (duplicate x)
Answers o (Err Memory) = Unit {0}
