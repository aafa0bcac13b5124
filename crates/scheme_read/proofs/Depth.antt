-- The data of a phrase nest no deeper than its openings.
use Rattle.std.proofs.Common.{◌≡◌, ℕ, ◌+◌, ◌≤◌, max, List, [], ◌∷◌, Result, Ok, Err, IfOk, ap, ◌∙◌, codes, arith}
use Rattle.scheme_data.specs.Data.{plain, plain_all, nesting, deepest}
use Rattle.scheme_data.specs.declared.datum.Place.{Place}
use Rattle.scheme_data.specs.declared.datum.Datum.{Datum}
use Rattle.scheme_data.specs.declared.datum.Datum.TheVariants as datum
use Rattle.scheme_read.specs.declared.error.ReadErr.{ReadErr}
use Rattle.scheme_read.specs.Answers.{IsSource, Reads}
use Rattle.scheme_read.specs.Grammar.{Phrase, Phrases, Simple, Parens, DottedParens, HashParens, Quoted, Nothing, Then, quoted, value, values, nest, nests}
use Rattle.scheme_read.proofs.Views.{plain_list, plain_vector, plain_symbol, plain_simple, plain_joined, nesting_joined, nesting_simple}

nesting_quoted : (at : Place) (d : Datum) → nesting (plain (quoted at d)) ≡ 1 + nesting (plain d)
nesting_quoted at d =
    let name = datum.Sym at (codes "quote") 0 in
    let list : nesting (plain (quoted at d)) ≡ 1 + max (nesting (plain name)) (max (nesting (plain d)) 0) = ap nesting (plain_list at (name ∷ d ∷ [])) in
    let flat : nesting (plain name) ≡ 0 = ap nesting (plain_symbol at (codes "quote") 0) in
    omega arith

mutual
  value_low : (p : Phrase) → nesting (plain (value p)) ≤ nest p
  value_low (Simple at a) = let e = ap nesting (plain_simple at a) ∙ nesting_simple a in omega arith
  value_low (Parens at ps close) =
      let h = values_low ps in
      let e = ap nesting (plain_list at (values ps)) in
      omega arith
  value_low (DottedParens at p ps dot q close) =
      let h = value_low p in
      let i = values_low ps in
      let j = value_low q in
      let e = ap nesting (plain_joined at (value p ∷ values ps) (value q)) in
      let k = nesting_joined (plain_all (value p ∷ values ps)) (plain (value q)) in
      omega arith
  value_low (HashParens at ps close) =
      let h = values_low ps in
      let e = ap nesting (plain_vector at (values ps)) in
      omega arith
  value_low (Quoted at p) =
      let h = value_low p in
      let e = nesting_quoted at (value p) in
      omega arith

  values_low : (ps : Phrases) → deepest (plain_all (values ps)) ≤ nests ps
  values_low Nothing = omega arith
  values_low (Then p ps) =
      let h = value_low p in
      let i = values_low ps in
      omega arith

source_low : (bytes : List ℕ) (ds : List Datum) → IsSource bytes ds → deepest (plain_all ds) ≤ 200
source_low bytes ds h =
    let e = ap (λ ds. deepest (plain_all ds)) h.spelled.data_are in
    let i = values_low h.spelled.phrases in
    omega (arith, h.spelled.low)

pub read_low : (bytes : List ℕ) (a : Result (List Datum) ReadErr) → Reads bytes a → IfOk a (λ ds. deepest (plain_all ds) ≤ 200)
read_low bytes (Ok ds) h = source_low bytes ds h
read_low bytes (Err e) h = tt
