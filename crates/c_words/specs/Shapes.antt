-- What makes the bytes so far a symbol.
use Rattle.std.specs.Prelude.{ℕ, List, [], ◌∷◌, length, nat_le, Bool, true, false, not, ◌&&◌}
use Rattle.std.specs.List.{list_all}
use Rattle.scheme_data.specs.Decimal.{is_digit}
use Rattle.scheme_data.specs.Symbols.{is_symbol_byte, begins_with_digit, begins_as_symbol}
use Rattle.c_words.specs.declared.symbols.Shape.{Shape}
use Rattle.c_words.specs.declared.symbols.Shape.TheVariants as shape
use Rattle.c_words.specs.declared.symbols.SymbolBytes.{SymbolBytes}

-- whether bytes of a shape and what comes behind them begin as a symbol does
abbrev pub goes_on : Shape → List ℕ → Bool
goes_on shape.Nothing rest = begins_as_symbol rest
goes_on shape.Sign rest = not (begins_with_digit rest)
goes_on shape.Dot [] = false
goes_on shape.Dot (b ∷ bs) = not (is_digit b)
goes_on shape.Symbol rest = true
goes_on shape.Wrong rest = false

-- whether the bytes so far and what comes behind them are a symbol
abbrev pub completes : SymbolBytes → List ℕ → Bool
completes bytes rest = (nat_le (length rest) bytes.room && goes_on bytes.shape rest) && list_all is_symbol_byte rest
