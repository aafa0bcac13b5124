-- Tokens as code keeps them.
use Rattle.std.specs.Prelude.{◌≡◌, ℕ, zero, suc, List, [], ◌∷◌, Option, Some, None, refl}
use Rattle.std.specs.Coded.{Coded, code_by, coded_list, coded_ℕ}
use Rattle.c_tree.specs.Lexical.{Token, Word, Mark, Str, Bad, Quoted, quoted_from, tokens}
use Rattle.c_read.specs.declared.token.Part.{Part}
use Rattle.c_read.specs.declared.token.Part.TheVariants as part

abbrev pub bytes_in : Option Quoted → List ℕ
bytes_in None = []
bytes_in (Some q) = q.bytes

-- the bytes of the string of which this is the text behind the opening quote
abbrev pub unquoted : List ℕ → List ℕ
unquoted text = bytes_in (quoted_from 0 text)

abbrev pub token_of : Part → Token
token_of (part.Word w) = Word w
token_of (part.Mark m) = Mark m
token_of (part.Str text) = Str (unquoted text.now)
token_of part.Bad = Bad

-- a token, if there is one, and those of a text behind it
abbrev pub ahead : Option Token → List ℕ → List Token
ahead None text = []
ahead (Some t) text = t ∷ tokens text

-- a token as a list of numbers, and back
abbrev pub numbers_of : Token → List ℕ
numbers_of (Word w) = 0 ∷ w
numbers_of (Mark m) = 1 ∷ m ∷ []
numbers_of (Str text) = 2 ∷ text
numbers_of Bad = []

abbrev pub token_by : ℕ → List ℕ → Token
token_by zero ns = Word ns
token_by (suc zero) [] = Bad
token_by (suc zero) (m ∷ ns) = Mark m
token_by (suc (suc k)) ns = Str ns

abbrev pub token_with : List ℕ → Token
token_with [] = Bad
token_with (n ∷ ns) = token_by n ns

abbrev pub same_token : (t : Token) → token_with (numbers_of t) ≡ t
same_token (Word w) = refl
same_token (Mark m) = refl
same_token (Str text) = refl
same_token Bad = refl

abbrev pub coded_token : Coded Token
coded_token = code_by (List ℕ) (coded_list coded_ℕ) numbers_of token_with same_token
