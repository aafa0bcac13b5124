-- One byte on in the walk that finds what is wrong.
use Rattle.std.specs.Prelude.{ℕ, ◌-◌, List, [], ◌∷◌, nat_eq, if◌then◌else◌, Option, Some}
use Rattle.std.specs.Option.{option_map}
use Rattle.scheme_data.specs.Places.{after}
use Rattle.c_tree.specs.Lexical.{Lexeme, Gap, Lexed, lexeme}
use Rattle.c_read.specs.declared.kinds.Kind.{Kind}
use Rattle.c_read.specs.declared.dues.Due.{Due}
use Rattle.c_read.specs.declared.fault.Reach.{Reach}
use Rattle.c_read.specs.Kinds.{token_kind}
use Rattle.c_read.specs.Dues.{advance}

abbrev pub passed : Reach → ℕ → ℕ → List Due → Reach
passed r b skip dues = record { at = after r.at b; skip = skip; dues = dues }

abbrev pub over_kind : Reach → ℕ → Kind → ℕ → Option Reach
over_kind r b k more = option_map (passed r b more) (advance r.dues k)

abbrev pub over_lexeme : Reach → ℕ → Lexeme → Option Reach
over_lexeme r b (Gap more) = Some (passed r b more r.dues)
over_lexeme r b (Lexed t more) = over_kind r b (token_kind t) more

-- none where a token begins that can't stand here
abbrev pub over_byte : Reach → ℕ → List ℕ → Option Reach
over_byte r b bs = if nat_eq r.skip 0 then over_lexeme r b (lexeme b bs) else Some (passed r b (r.skip - 1) r.dues)

-- over the first byte of a text
abbrev pub over_front : Reach → List ℕ → Option Reach
over_front r [] = Some r
over_front r (b ∷ bs) = over_byte r b bs
