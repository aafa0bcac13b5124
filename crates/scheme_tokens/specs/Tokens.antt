-- The tokens of a text, with their places.
use Rattle.std.specs.Prelude.{ℕ, zero, suc, List, [], ◌∷◌}
use Rattle.scheme_data.specs.declared.datum.Place.{Place}
use Rattle.scheme_tokens.specs.declared.lex.Lexeme.{Lexeme}
use Rattle.scheme_tokens.specs.declared.lex.Lexeme.TheVariants as lexed
use Rattle.scheme_tokens.specs.declared.token.Token.{Token}
use Rattle.scheme_tokens.specs.declared.token.Word.{Word}
use Rattle.scheme_tokens.specs.Lexemes.{lexeme}
use Rattle.scheme_data.specs.Places.{after, start}

abbrev pub token : Place → Word → Token
token at w = record { at = at; word = w }

abbrev pub emit : Place → Lexeme → (ℕ → List Token) → List Token
emit at (lexed.Gap size) next = next size
emit at (lexed.Token w size) next = token at w ∷ next size

-- the tokens of the bytes, of which the first to skip belong to what began before
abbrev pub tokens_from : ℕ → Place → List ℕ → List Token
tokens_from skip at [] = []
tokens_from (suc skip) at (b ∷ bs) = tokens_from skip (after at b) bs
tokens_from zero at (b ∷ bs) = emit at (lexeme (b ∷ bs)) (λ skip. tokens_from skip (after at b) bs)

abbrev pub tokens : List ℕ → List Token
tokens bytes = tokens_from 0 start bytes
