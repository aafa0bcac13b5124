-- What reading a source answers.
use Rattle.std.specs.Prelude.{◌≡◌, ℕ, ◌<◌, ◌≤◌, List, length, Result, Ok, Err}
use Rattle.scheme_data.specs.declared.datum.Datum.{Datum}
use Rattle.scheme_data.specs.declared.datum.LimitKind.TheVariants.{Bytes, Depth, Expansions, Filled}
use Rattle.scheme_data.specs.Places.{start, end}
use Rattle.scheme_tokens.specs.Tokens.{tokens}
use Rattle.scheme_read.specs.declared.error.ReadErr.{ReadErr}
use Rattle.scheme_read.specs.declared.error.ReadErr.TheVariants.{Syntax, Limit, Memory}
use Rattle.scheme_read.specs.Grammar.{SpelledIn, IsBadAt, IsDeepAt}

-- the bytes are a source of these data
pub record IsSource (bytes : List ℕ) (ds : List Datum) : Type 0 where
  pub short : length bytes ≤ 1048576
  pub spelled : SpelledIn 200 (tokens bytes) ds

-- the bytes are no source, for this cause and at this place; where there are too many, it is the place of the first
abbrev pub IsFault : List ℕ → ReadErr → Type 0
IsFault bytes (Syntax at) = (length bytes ≤ 1048576) × IsBadAt 200 (tokens bytes) (end bytes) at
IsFault bytes (Limit Bytes at) = (1048576 < length bytes) × (at ≡ start)
IsFault bytes (Limit Depth at) = (length bytes ≤ 1048576) × IsDeepAt 200 (tokens bytes) at
IsFault bytes (Limit Expansions at) = ⊥
IsFault bytes (Limit Filled at) = ⊥
IsFault bytes Memory = ⊥

-- what is read is a source of the data, and what is refused has that fault
abbrev pub Reads : List ℕ → Result (List Datum) ReadErr → Type 0
Reads bytes (Ok ds) = IsSource bytes ds
Reads bytes (Err (Syntax at)) = IsFault bytes (Syntax at)
Reads bytes (Err (Limit kind at)) = IsFault bytes (Limit kind at)
Reads bytes (Err Memory) = Unit {0}

-- unless memory runs out
abbrev pub Gives : List Datum → Result (List Datum) ReadErr → Type 0
Gives ds (Ok es) = es ≡ ds
Gives ds (Err (Syntax at)) = ⊥
Gives ds (Err (Limit kind at)) = ⊥
Gives ds (Err Memory) = Unit {0}

-- unless memory runs out
abbrev pub Refuses : ReadErr → Result (List Datum) ReadErr → Type 0
Refuses e (Ok ds) = ⊥
Refuses e (Err (Syntax at)) = Syntax at ≡ e
Refuses e (Err (Limit kind at)) = Limit kind at ≡ e
Refuses e (Err Memory) = Unit {0}
