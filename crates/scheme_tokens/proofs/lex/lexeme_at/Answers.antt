use Rattle.std.proofs.Common.{◌≡◌, ℕ, List, false, nat_eq, get_or, IfOk, ◌∙◌, ap, sym, subst, arith}
use Rattle.std.proofs.lemmas.Bool.Decides.{nat_tests}
use Rattle.std.specs.List.{prefix_len}
use Rattle.scheme_data.specs.Symbols.{is_symbol_byte}
use Rattle.scheme_tokens.specs.Comments.{not_newline}
use Rattle.scheme_tokens.specs.Hashes.{hash_lexeme}
use Rattle.scheme_tokens.specs.Strings.{string_lexeme}
use Rattle.scheme_tokens.proofs.Fronts.{rest_is, lexeme_none, lexeme_space, lexeme_word, lexeme_line, lexeme_string, lexeme_hash, lexeme_mark}
use Rattle.scheme_tokens.proofs.lex.lexeme_at.Goals as goal

pub returns-in_default : goal.returns-in_default
returns-in_default c = lexeme_none c.args.tail.now c.in_default.len_below

pub returns-then-space : goal.returns-then-space
returns-then-space c = lexeme_space c.args.tail.now c.in-len1-up.len_at_least (sym c.space.ensures ∙ c.if-space.true)

pub returns-then-is_symbol_byte : goal.returns-then-is_symbol_byte
returns-then-is_symbol_byte c =
    lexeme_word c.args.tail.now c.symbol_len-more.result c.in_ok-read_word.field-0 c.in-len1-up.len_at_least
    (sym c.space.ensures ∙ c.if-space.false) (sym c.is_symbol_byte.ensures ∙ c.if-is_symbol_byte.true)
    (c.symbol_len-more.ensures.value ∙ ap (prefix_len is_symbol_byte) (rest_is 1 c.args.tail.now)) c.in_ok-read_word.ensures

pub returns-in-59 : goal.returns-in-59
returns-in-59 c =
    lexeme_line c.args.tail.now c.line_len.result c.in-len1-up.len_at_least c.in-59.is (c.line_len.ensures ∙ ap (prefix_len not_newline) (rest_is 1 c.args.tail.now))

pub returns-in-34 : goal.returns-in-34
returns-in-34 c =
    lexeme_string c.args.tail.now _ c.in-len1-up.len_at_least c.in-34.is
    (subst (λ (rest : List ℕ). IfOk c.string_at.result (λ l. l ≡ string_lexeme rest)) (rest_is 1 c.args.tail.now) c.string_at.ensures)

pub returns-in-35 : goal.returns-in-35
returns-in-35 c =
    lexeme_hash c.args.tail.now c.hash_at.result c.in-len1-up.len_at_least c.in-35.is (c.hash_at.ensures ∙ ap hash_lexeme (rest_is 1 c.args.tail.now))

pub returns-in_default-first : goal.returns-in_default-first
returns-in_default-first c =
    let b : ℕ = get_or c.args.tail.now 0 0 in
    let line : nat_eq b 59 ≡ false = grind (arith, nat_tests) in
    let quote : nat_eq b 34 ≡ false = grind (arith, nat_tests) in
    let hash : nat_eq b 35 ≡ false = grind (arith, nat_tests) in
    lexeme_mark c.args.tail.now c.mark.result c.in-len1-up.len_at_least
    (sym c.space.ensures ∙ c.if-space.false) (sym c.is_symbol_byte.ensures ∙ c.if-is_symbol_byte.false) line quote hash c.mark.ensures
