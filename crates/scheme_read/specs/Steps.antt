-- What each step of the reader does.
use Rattle.std.specs.Prelude.{◌≡◌, ◌<◌, Bool, true, false, if◌then◌else◌, List, [], ◌∷◌, ◌++◌, length, Option, Some, None, Result, Ok, Err}
use Rattle.scheme_data.specs.declared.datum.Place.{Place}
use Rattle.scheme_data.specs.declared.datum.LimitKind.TheVariants.{Bytes, Depth, Expansions, Filled}
use Rattle.scheme_data.specs.declared.datum.Datum.{Datum}
use Rattle.scheme_data.specs.declared.datum.Datum.TheVariants as datum
use Rattle.scheme_tokens.specs.declared.token.Token.{Token}
use Rattle.scheme_tokens.specs.declared.token.Word.{Word}
use Rattle.scheme_tokens.specs.declared.token.Word.TheVariants as word
use Rattle.scheme_read.specs.declared.reader.Frame.{Frame}
use Rattle.scheme_read.specs.declared.reader.Frame.TheVariants.{InList, AfterDot, AfterTail, InVector, AfterQuote}
use Rattle.scheme_read.specs.declared.reader.Reader.{Reader}
use Rattle.scheme_read.specs.declared.error.ReadErr.{ReadErr}
use Rattle.scheme_read.specs.declared.error.ReadErr.TheVariants.{Syntax, Limit, Memory}
use Rattle.scheme_read.specs.Grammar.{simple, quoted, joined}

abbrev pub reader : List Frame → List Datum → Reader
reader stack done = record { stack = stack; done = done }

-- a datum is read whole
abbrev pub feed : List Frame → List Datum → Datum → Reader
feed [] done d = reader [] (done ++ d ∷ [])
feed (InList at items ∷ stack) done d = reader (InList at (items ++ d ∷ []) ∷ stack) done
feed (AfterDot at items ∷ stack) done d = reader (AfterTail at items d ∷ stack) done
feed (AfterTail at items tail ∷ stack) done d = reader (AfterTail at items tail ∷ stack) done
feed (InVector at items ∷ stack) done d = reader (InVector at (items ++ d ∷ []) ∷ stack) done
feed (AfterQuote at ∷ stack) done d = feed stack done (quoted at d)

-- whether a datum may begin
abbrev pub takes_datum : List Frame → Bool
takes_datum [] = true
takes_datum (AfterTail at items tail ∷ stack) = false
takes_datum (_ ∷ stack) = true

abbrev pub close : List Frame → List Datum → Option Reader
close [] done = None
close (InList at items ∷ stack) done = Some (feed stack done (datum.List at items))
close (AfterDot at items ∷ stack) done = None
close (AfterTail at items tail ∷ stack) done = Some (feed stack done (joined at items tail))
close (InVector at items ∷ stack) done = Some (feed stack done (datum.Vector at items))
close (AfterQuote at ∷ stack) done = None

abbrev pub point : List Frame → List Datum → Option Reader
point (InList at (i ∷ items) ∷ stack) done = Some (reader (AfterDot at (i ∷ items) ∷ stack) done)
point _ done = None

abbrev pub when : Bool → Reader → Option Reader
when b r = if b then Some r else None

abbrev pub step : List Frame → List Datum → Place → Word → Option Reader
step stack done at word.Open = when (takes_datum stack) (reader (InList at [] ∷ stack) done)
step stack done at word.OpenVector = when (takes_datum stack) (reader (InVector at [] ∷ stack) done)
step stack done at word.Close = close stack done
step stack done at word.Quote = when (takes_datum stack) (reader (AfterQuote at ∷ stack) done)
step stack done at word.Dot = point stack done
step stack done at (word.Atom a) = when (takes_datum stack) (feed stack done (simple at a))
step stack done at word.Bad = None

-- there is a next state, and more is open in it than may be
pub record IsTooDeep (next : Option Reader) : Type 0 where
  pub reached : Reader
  pub next_is : next ≡ Some reached
  pub begun : takes_datum reached.stack ≡ true
  pub deep : 200 < length reached.stack

-- the next state; or there is none, or it is too deep, and the place is that of the token
abbrev pub Answers : Option Reader → Place → Result (Unit {0}) ReadErr → Reader → Type 0
Answers next at (Ok u) new = next ≡ Some new
Answers next at (Err (Syntax p)) new = (next ≡ None) × (p ≡ at)
Answers next at (Err (Limit Bytes p)) new = ⊥
Answers next at (Err (Limit Depth p)) new = IsTooDeep next × (p ≡ at)
Answers next at (Err (Limit Expansions p)) new = ⊥
Answers next at (Err (Limit Filled p)) new = ⊥
Answers next at (Err Memory) new = Unit {0}

abbrev pub Began : Reader → Place → Frame → Result (Unit {0}) ReadErr → Reader → Type 0
Began old at f result new = Answers (when (takes_datum old.stack) (reader (f ∷ old.stack) old.done)) at result new

abbrev pub Closed : Reader → Place → Result (Unit {0}) ReadErr → Reader → Type 0
Closed old at result new = Answers (close old.stack old.done) at result new

abbrev pub Points : Reader → Place → Result (Unit {0}) ReadErr → Reader → Type 0
Points old at result new = Answers (point old.stack old.done) at result new

abbrev pub Fed : Reader → Place → Datum → Result (Unit {0}) ReadErr → Reader → Type 0
Fed old at d result new = Answers (when (takes_datum old.stack) (feed old.stack old.done d)) at result new

abbrev pub Took : Reader → Token → Result (Unit {0}) ReadErr → Reader → Type 0
Took old t result new = Answers (step old.stack old.done t.at t.word) t.at result new
