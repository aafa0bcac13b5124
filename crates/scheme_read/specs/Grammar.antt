-- How data are spelled by tokens: one case for each row of the data grammar (R5RS section 7.1.2), and where a text is at fault.
use Rattle.std.specs.Prelude.{◌≡◌, ℕ, ◌+◌, ◌≤◌, max, List, [], ◌∷◌, ◌++◌, ◌⊎◌, codes}
use Rattle.scheme_data.specs.declared.datum.Place.{Place}
use Rattle.scheme_data.specs.declared.datum.Datum.{Datum, out-Datum}
use Rattle.scheme_data.specs.declared.datum.Datum.TheOpen.{Datum-F}
use Rattle.scheme_data.specs.declared.datum.Datum.TheVariants as datum
use Rattle.scheme_tokens.specs.declared.token.Atom.{Atom}
use Rattle.scheme_tokens.specs.declared.token.Atom.TheVariants as atom
use Rattle.scheme_tokens.specs.declared.token.Token.{Token}
use Rattle.scheme_tokens.specs.declared.token.Word.TheVariants as word
use Rattle.scheme_tokens.specs.Tokens.{token}

-- a phrase is a datum as it is written, with the places of its tokens
mutual
  pub data Phrase : Type 0 where
    Simple : Place → Atom → Phrase
    -- ( data )
    Parens : Place → Phrases → Place → Phrase
    -- ( one or more data . datum )
    DottedParens : Place → Phrase → Phrases → Place → Phrase → Place → Phrase
    -- #( data )
    HashParens : Place → Phrases → Place → Phrase
    -- ' datum
    Quoted : Place → Phrase → Phrase

  pub data Phrases : Type 0 where
    Nothing : Phrases
    Then : Phrase → Phrases → Phrases

-- the tokens of a phrase, and then these
abbrev mutual
  pub spell : Phrase → List Token → List Token
  spell (Simple at a) rest = token at (word.Atom a) ∷ rest
  spell (Parens at ps close) rest = token at word.Open ∷ spells ps (token close word.Close ∷ rest)
  spell (DottedParens at p ps dot q close) rest = token at word.Open ∷ spell p (spells ps (token dot word.Dot ∷ spell q (token close word.Close ∷ rest)))
  spell (HashParens at ps close) rest = token at word.OpenVector ∷ spells ps (token close word.Close ∷ rest)
  spell (Quoted at p) rest = token at word.Quote ∷ spell p rest

  pub spells : Phrases → List Token → List Token
  spells Nothing rest = rest
  spells (Then p ps) rest = spell p (spells ps rest)

-- the datum that is one token
abbrev pub simple : Place → Atom → Datum
simple at (atom.Int n) = datum.Int at n
simple at (atom.Chr b) = datum.Chr at b
simple at (atom.Bool t) = datum.Bool at t
simple at atom.Unspec = datum.Unspec at
simple at (atom.Str text) = datum.Str at text
simple at (atom.Sym name) = datum.Sym at name 0

-- the list of `quote` and a datum, with both places those of the mark
abbrev pub quoted : Place → Datum → Datum
quoted at d = datum.List at (datum.Sym at (codes "quote") 0 ∷ d ∷ [])

-- where the tail after a dot is a list, the two are one list
abbrev pub joined_layer : Place → List Datum → Datum → Datum-F Datum → Datum
joined_layer at items tail (Datum-F.List o more) = datum.List at (items ++ more)
joined_layer at items tail (Datum-F.Dotted o more last) = datum.Dotted at (items ++ more) last
joined_layer at items tail _ = datum.Dotted at items tail

abbrev pub joined : Place → List Datum → Datum → Datum
joined at items tail = joined_layer at items tail (out-Datum tail)

-- the datum that a phrase is; its place is that of its first token
abbrev mutual
  pub value : Phrase → Datum
  value (Simple at a) = simple at a
  value (Parens at ps close) = datum.List at (values ps)
  value (DottedParens at p ps dot q close) = joined at (value p ∷ values ps) (value q)
  value (HashParens at ps close) = datum.Vector at (values ps)
  value (Quoted at p) = quoted at (value p)

  pub values : Phrases → List Datum
  values Nothing = []
  values (Then p ps) = value p ∷ values ps

-- how many openings stand in each other
abbrev mutual
  pub nest : Phrase → ℕ
  nest (Simple at a) = 0
  nest (Parens at ps close) = nests ps + 1
  nest (DottedParens at p ps dot q close) = max (max (nest p) (nests ps)) (nest q) + 1
  nest (HashParens at ps close) = nests ps + 1
  nest (Quoted at p) = nest p + 1

  pub nests : Phrases → ℕ
  nests Nothing = 0
  nests (Then p ps) = max (nest p) (nests ps)

-- the tokens spell the data
pub record Spelled (ts : List Token) (ds : List Datum) : Type 0 where
  pub phrases : Phrases
  pub tokens_are : ts ≡ spells phrases []
  pub data_are : ds ≡ values phrases

-- they spell them with so many openings in each other at most
pub record SpelledIn (most : ℕ) (ts : List Token) (ds : List Datum) : Type 0 where
  pub phrases : Phrases
  pub tokens_are : ts ≡ spells phrases []
  pub data_are : ds ≡ values phrases
  pub low : nests phrases ≤ most

-- Faults ------------------------------------------------------------------------------------

-- some list of tokens completes these
pub record IsViable (ts : List Token) : Type 0 where
  pub others : List Token
  pub values : List Datum
  pub spelled : Spelled (ts ++ others) values

-- some list of tokens completes these, with so many openings in each other at most
pub record IsViableIn (most : ℕ) (ts : List Token) : Type 0 where
  pub others : List Token
  pub values : List Datum
  pub spelled : SpelledIn most (ts ++ others) values

-- here stands the first token that leaves no list of tokens that completes the tokens so far
pub record IsWrongAt (most : ℕ) (ts : List Token) (at : Place) : Type 0 where
  pub front : List Token
  pub wrong : Token
  pub rest : List Token
  pub split : ts ≡ front ++ wrong ∷ rest
  pub viable : IsViableIn most front
  pub stuck : IsViable (front ++ wrong ∷ []) → ⊥
  pub place : at ≡ wrong.at

-- here stands the first opening with which there are too many in each other
pub record IsDeepAt (most : ℕ) (ts : List Token) (at : Place) : Type 0 where
  pub front : List Token
  pub opening : Token
  pub rest : List Token
  pub split : ts ≡ front ++ opening ∷ rest
  pub viable : IsViableIn most front
  pub deep : IsViableIn most (front ++ opening ∷ []) → ⊥
  pub completed : IsViable (front ++ opening ∷ [])
  pub place : at ≡ opening.at

-- tokens that spell no data, and that others complete
pub record IsShort (most : ℕ) (ts : List Token) : Type 0 where
  pub viable : IsViableIn most ts
  pub unread : (ds : List Datum) → Spelled ts ds → ⊥

-- a text of these tokens is at fault here: at the first wrong token, or at its end
abbrev pub IsBadAt : ℕ → List Token → Place → Place → Type 0
IsBadAt most ts end at = IsWrongAt most ts at ⊎ (IsShort most ts × (at ≡ end))
