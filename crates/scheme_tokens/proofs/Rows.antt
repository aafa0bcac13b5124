-- Worked rows: what stands at the front of a text, and the tokens of one.
use Rattle.std.proofs.Common.{◌≡◌, ℕ, pos, negsuc, false, [], ◌∷◌, ◌++◌, refl, codes}
use Rattle.scheme_data.specs.declared.datum.Place.{Place}
use Rattle.scheme_tokens.specs.declared.lex.Lexeme.TheVariants as lexed
use Rattle.scheme_tokens.specs.declared.token.Atom.TheVariants as atom
use Rattle.scheme_tokens.specs.declared.token.Word.TheVariants as word
use Rattle.scheme_tokens.specs.Hashes.{hash_lexeme, character_lexeme}
use Rattle.scheme_tokens.specs.Lexemes.{lexeme}
use Rattle.scheme_data.specs.Places.{after, end}
use Rattle.scheme_tokens.specs.Strings.{string_lexeme}
use Rattle.scheme_tokens.specs.Tokens.{token, tokens}
use Rattle.scheme_tokens.specs.Words.{word_of}

-- `"` and `\`
abbrev quote_byte : ℕ
quote_byte = 34

abbrev backslash : ℕ
backslash = 92

abbrev at : ℕ → ℕ → Place
at line column = record { line = line; column = column }

-- Words.

least_fixnum : word_of (codes "-1152921504606846976") ≡ word.Atom (atom.Int (negsuc 1152921504606846975))
unfolding word_of
least_fixnum = refl

beyond_fixnums : word_of (codes "1152921504606846976") ≡ word.Bad
unfolding word_of
beyond_fixnums = refl

signed_zeros : word_of (codes "+0042") ≡ word.Atom (atom.Int (pos 42))
unfolding word_of
signed_zeros = refl

dot_alone : word_of (codes ".") ≡ word.Dot
unfolding word_of
dot_alone = refl

dot_digit : word_of (codes ".5") ≡ word.Bad
unfolding word_of
dot_digit = refl

sign_digit : word_of (codes "+5a") ≡ word.Bad
unfolding word_of
sign_digit = refl

sign_alone : word_of (codes "-") ≡ word.Atom (atom.Sym (codes "-"))
unfolding word_of
sign_alone = refl

three_dots : word_of (codes "...") ≡ word.Atom (atom.Sym (codes "..."))
unfolding word_of
three_dots = refl

-- Lexemes.

constant : lexeme (codes "#f)") ≡ lexed.Token (word.Atom (atom.Bool false)) 1
unfolding lexeme hash_lexeme
constant = refl

no_constant : lexeme (codes "#true") ≡ lexed.Token word.Bad 4
unfolding lexeme hash_lexeme
no_constant = refl

named_character : lexeme (35 ∷ backslash ∷ codes "space)") ≡ lexed.Token (word.Atom (atom.Chr 32)) 6
unfolding lexeme hash_lexeme character_lexeme
named_character = refl

any_byte : lexeme (35 ∷ backslash ∷ codes "()") ≡ lexed.Token (word.Atom (atom.Chr 40)) 2
unfolding lexeme hash_lexeme character_lexeme
any_byte = refl

no_character : lexeme (35 ∷ backslash ∷ codes "ab") ≡ lexed.Token word.Bad 3
unfolding lexeme hash_lexeme character_lexeme
no_character = refl

escapes : lexeme (quote_byte ∷ 97 ∷ backslash ∷ codes "n" ++ quote_byte ∷ codes "b") ≡ lexed.Token (word.Atom (atom.Str (97 ∷ 10 ∷ []))) 4
unfolding lexeme string_lexeme
escapes = refl

no_escape : lexeme (quote_byte ∷ backslash ∷ codes "x" ++ quote_byte ∷ []) ≡ lexed.Token word.Bad 0
unfolding lexeme string_lexeme
no_escape = refl

unended_string : lexeme (quote_byte ∷ codes "ab") ≡ lexed.Token word.Bad 0
unfolding lexeme string_lexeme
unended_string = refl

nested_comment : lexeme (codes "#|a#|b|#c|#d") ≡ lexed.Gap 10
unfolding lexeme hash_lexeme
nested_comment = refl

-- the `|` of `#|` ends nothing
comment_of_one_bar : lexeme (codes "#|#") ≡ lexed.Token word.Bad 0
unfolding lexeme hash_lexeme
comment_of_one_bar = refl

unended_comment : lexeme (codes "#|a#|b|#") ≡ lexed.Token word.Bad 0
unfolding lexeme hash_lexeme
unended_comment = refl

line_comment : lexeme (codes ";a" ++ 10 ∷ codes "b") ≡ lexed.Gap 1
unfolding lexeme
line_comment = refl

-- Tokens and places.

two_lines : tokens (codes "(a;b" ++ 10 ∷ codes " 'c)") ≡ token (at 1 1) word.Open ∷ token (at 1 2) (word.Atom (atom.Sym (codes "a")))
    ∷ token (at 2 2) word.Quote ∷ token (at 2 3) (word.Atom (atom.Sym (codes "c"))) ∷ token (at 2 4) word.Close ∷ []
unfolding lexeme word_of
two_lines = refl

end_of_text : end (codes "(a" ++ 10 ∷ codes " b") ≡ at 2 3
end_of_text = refl

last_line : after (at 4294967295 7) 10 ≡ at 4294967295 1
last_line = refl

last_column : after (at 3 4294967295) 97 ≡ at 3 4294967295
last_column = refl
