-- What is pending while data are read, and which lists of tokens complete it.
use Rattle.std.proofs.Common.{◌≡◌, ℕ, ◌+◌, ◌≤◌, true, List, [], ◌∷◌, ◌++◌, length, ◌↔◌, ◌⊎◌}
use Rattle.scheme_data.specs.declared.datum.Place.{Place}
use Rattle.scheme_data.specs.declared.datum.Datum.{Datum}
use Rattle.scheme_data.specs.declared.datum.Datum.TheVariants as datum
use Rattle.scheme_tokens.specs.declared.token.Token.{Token}
use Rattle.scheme_tokens.specs.declared.token.Word.TheVariants as word
use Rattle.scheme_tokens.specs.Tokens.{token}
use Rattle.scheme_read.specs.declared.reader.Frame.{Frame}
use Rattle.scheme_read.specs.declared.reader.Frame.TheVariants.{InList, AfterDot, AfterTail, InVector, AfterQuote}
use Rattle.scheme_read.specs.declared.reader.Reader.{Reader}
use Rattle.scheme_read.specs.Grammar.{Phrase, Phrases, quoted, joined, spell, spells, value, values, nest, nests, SpelledIn}
use Rattle.scheme_read.specs.Steps.{takes_datum}

-- Below, most is the nesting that is allowed, and deep how many constructs are open.

-- the tokens complete a text of which these data are read
abbrev pub AtTop : ℕ → List Datum → List Datum → List Token → Type 0
AtTop most done ds ts = (ps : Phrases) × (ts ≡ spells ps []) × (ds ≡ done ++ values ps) × (nests ps ≤ most)

-- a datum is closed, and then what is around it
abbrev pub Shut : Datum → (Datum → List Token → Type 0) → List Token → Type 0
Shut d Around ts = (end : Place) × (rest : List Token) × (ts ≡ token end word.Close ∷ rest) × Around d rest

-- a datum, which is the tail of a list, and then what is around that
abbrev pub TailOf : ℕ → ℕ → Place → List Datum → (Datum → List Token → Type 0) → List Token → Type 0
TailOf most deep at items Around ts = (q : Phrase) × (more : List Token) × (ts ≡ spell q more) × (nest q + deep ≤ most) × Shut (joined at items (value q)) Around more

-- the end of a list of these items
abbrev pub Ends : ℕ → ℕ → Place → List Datum → (Datum → List Token → Type 0) → List Token → Type 0
Ends most deep at items Around ts = Shut (datum.List at items) Around ts
    ⊎ ((items ≡ [] → ⊥) × (dot : Place) × (more : List Token) × (ts ≡ token dot word.Dot ∷ more) × TailOf most deep at items Around more)

-- more items, and then what Last says of all of them
abbrev pub More : ℕ → ℕ → List Datum → (List Datum → List Token → Type 0) → List Token → Type 0
More most deep items Last ts = (ps : Phrases) × (more : List Token) × (ts ≡ spells ps more) × (nests ps + deep ≤ most) × Last (items ++ values ps) more

-- the rest of a construct that is open, and then what is around it
abbrev pub Rest : ℕ → ℕ → Frame → (Datum → List Token → Type 0) → List Token → Type 0
Rest most deep (InList at items) Around ts = More most deep items (λ xs more. Ends most deep at xs Around more) ts
Rest most deep (AfterDot at items) Around ts = TailOf most deep at items Around ts
Rest most deep (AfterTail at items tail) Around ts = Shut (joined at items tail) Around ts
Rest most deep (InVector at items) Around ts = More most deep items (λ xs more. Shut (datum.Vector at xs) Around more) ts
Rest most deep (AfterQuote at) Around ts = (p : Phrase) × (rest : List Token) × (ts ≡ spell p rest) × (nest p + deep ≤ most) × Around (quoted at (value p)) rest

-- the same once a datum is read in it
abbrev pub Fed : ℕ → ℕ → Frame → Datum → (Datum → List Token → Type 0) → List Token → Type 0
Fed most deep (InList at items) d Around ts = Rest most deep (InList at (items ++ d ∷ [])) Around ts
Fed most deep (AfterDot at items) d Around ts = Rest most deep (AfterTail at items d) Around ts
Fed most deep (AfterTail at items tail) d Around ts = ⊥
Fed most deep (InVector at items) d Around ts = Rest most deep (InVector at (items ++ d ∷ [])) Around ts
Fed most deep (AfterQuote at) d Around ts = Around (quoted at d) ts

-- the tokens complete what is pending once a datum is read
abbrev pub After : ℕ → List Frame → List Datum → List Datum → Datum → List Token → Type 0
After most [] done ds d ts = AtTop most (done ++ d ∷ []) ds ts
After most (f ∷ stack) done ds d ts = Fed most (length stack + 1) f d (After most stack done ds) ts

-- they complete what is pending to a text of the data ds
abbrev pub Completes : ℕ → List Frame → List Datum → List Datum → List Token → Type 0
Completes most [] done ds ts = AtTop most done ds ts
Completes most (f ∷ stack) done ds ts = Rest most (length stack + 1) f (After most stack done ds) ts

-- below the top no list waits for its end alone
abbrev pub IsSound : List Frame → Type 0
IsSound [] = Unit {0}
IsSound (f ∷ stack) = (takes_datum stack ≡ true) × IsSound stack

-- what is pending after the tokens so far: what completes the one completes the other; so many openings were in each other at most
pub record IsPending (front : List Token) (peak : ℕ) (r : Reader) : Type 0 where
  pub sound : IsSound r.stack
  pub low : length r.stack ≤ peak
  pub same : (most : ℕ) → peak ≤ most → (others : List Token) (ds : List Datum) → Completes most r.stack r.done ds others ↔ SpelledIn most (front ++ others) ds
