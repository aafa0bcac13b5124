-- Worked rows: data as they are spelled.
use Rattle.std.proofs.Common.{◌≡◌, ℕ, pos, List, [], ◌∷◌, refl, ap, ◌∙◌, codes, arith}
use Rattle.scheme_data.specs.Data.{Plain, Symbol, Listed, none, more, plain, plain_all}
use Rattle.scheme_data.specs.declared.datum.Place.{Place}
use Rattle.scheme_data.specs.declared.datum.Datum.{Datum}
use Rattle.scheme_data.specs.declared.datum.Datum.TheVariants as datum
use Rattle.scheme_tokens.specs.declared.token.Atom.TheVariants as atom
use Rattle.scheme_tokens.specs.Hashes.{hash_lexeme}
use Rattle.scheme_tokens.specs.Lexemes.{lexeme}
use Rattle.scheme_tokens.specs.Words.{word_of}
use Rattle.scheme_read.specs.Answers.{IsSource}
use Rattle.scheme_read.specs.Grammar.{Phrase, Phrases, Simple, Parens, DottedParens, HashParens, Quoted, Nothing, Then, value, values, nests}
use Rattle.scheme_read.proofs.Views.{plain_list, plain_symbol, plain_joined, joined_plain}

abbrev at : ℕ → Place
at column = record { line = 1; column = column }

abbrev name : ℕ → List ℕ → Phrase
name column text = Simple (at column) (atom.Sym text)

-- `(b c)`
abbrev tail : Phrase
tail = Parens (at 6) (Then (name 7 (codes "b")) (Then (name 9 (codes "c")) Nothing)) (at 10)

-- `(a . (b c))`
abbrev pointed : Phrases
pointed = Then (DottedParens (at 1) (name 2 (codes "a")) Nothing (at 4) tail (at 11)) Nothing

pointed_source : IsSource (codes "(a . (b c))") (values pointed)
unfolding lexeme word_of
pointed_source = record { short = omega arith; spelled = record { phrases = pointed; tokens_are = refl; data_are = refl; low = omega arith } }

abbrev a_b_c : Plain
a_b_c = Listed (more (Symbol (codes "a") 0) (more (Symbol (codes "b") 0) (more (Symbol (codes "c") 0) none)))

abbrev symbol : ℕ → List ℕ → Datum
symbol column text = datum.Sym (at column) text 0

symbols : (i j : ℕ) (x y : List ℕ) → plain_all (symbol i x ∷ symbol j y ∷ []) ≡ more (Symbol x 0) (more (Symbol y 0) none)
symbols i j x y =
    ap (λ d. more d (more (plain (symbol j y)) none)) (plain_symbol (at i) x 0) ∙ ap (λ d. more (Symbol x 0) (more d none)) (plain_symbol (at j) y 0)

-- it is `(a b c)`
pointed_is_one_list : plain_all (values pointed) ≡ more a_b_c none
pointed_is_one_list =
    let b_c : plain (value tail) ≡ Listed (more (Symbol (codes "b") 0) (more (Symbol (codes "c") 0) none)) =
    plain_list (at 6) (symbol 7 (codes "b") ∷ symbol 9 (codes "c") ∷ []) ∙ ap Listed (symbols 7 9 (codes "b") (codes "c")) in
    ap (λ d. more d none) (plain_joined (at 1) (symbol 2 (codes "a") ∷ []) (value tail)
    ∙ ap (λ d. joined_plain (more d none) (plain (value tail))) (plain_symbol (at 2) (codes "a") 0) ∙ ap (joined_plain (more (Symbol (codes "a") 0) none)) b_c)

-- `'#(1)`
abbrev quoted_vector : Phrases
quoted_vector = Then (Quoted (at 1) (HashParens (at 2) (Then (Simple (at 4) (atom.Int (pos 1))) Nothing) (at 5))) Nothing

quoted_vector_source : IsSource (codes "'#(1)") (datum.List (at 1) (symbol 1 (codes "quote") ∷ datum.Vector (at 2) (datum.Int (at 4) (pos 1) ∷ []) ∷ []) ∷ [])
unfolding lexeme hash_lexeme word_of
quoted_vector_source = record { short = omega arith; spelled = record { phrases = quoted_vector; tokens_are = refl; data_are = refl; low = omega arith } }

quotation_counts : nests quoted_vector ≡ 2
quotation_counts = refl
