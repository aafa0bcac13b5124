-- How the constants are spelled, and printed.
use Rattle.std.specs.Prelude.{ℕ, List, codes}

abbrev pub false_text : List ℕ
false_text = codes "#f"

abbrev pub true_text : List ℕ
true_text = codes "#t"

abbrev pub empty_text : List ℕ
empty_text = codes "()"

abbrev pub unspecified_text : List ℕ
unspecified_text = codes "#unspecified"

-- what is read at the end of the input
abbrev pub eof_text : List ℕ
eof_text = codes "#eof-object"
