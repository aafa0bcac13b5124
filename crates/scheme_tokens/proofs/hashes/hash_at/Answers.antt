use Rattle.std.proofs.Common.{◌≡◌, ℕ, false, nat_eq, get_or, ◌∙◌, ap, arith}
use Rattle.std.proofs.lemmas.Bool.Decides.{nat_tests}
use Rattle.scheme_tokens.specs.Hashes.{block_lexeme, character_lexeme}
use Rattle.scheme_tokens.proofs.Fronts.{rest_is, no_hash, hash_open, hash_block, hash_character, hash_constant}
use Rattle.scheme_tokens.proofs.hashes.hash_at.Goals as goal

pub returns-in_default : goal.returns-in_default
returns-in_default c = no_hash c.args.rest.now c.in_default.len_below

pub returns-in-40 : goal.returns-in-40
returns-in-40 c = hash_open c.args.rest.now c.in-len1-up.len_at_least c.in-40.is

pub returns-in-124 : goal.returns-in-124
returns-in-124 c =
    hash_block c.args.rest.now c.block_at.result c.in-len1-up.len_at_least c.in-124.is (c.block_at.ensures ∙ ap block_lexeme (rest_is 1 c.args.rest.now))

pub returns-in-92 : goal.returns-in-92
returns-in-92 c =
    hash_character c.args.rest.now c.character_at.result c.in-len1-up.len_at_least c.in-92.is (c.character_at.ensures ∙ ap character_lexeme (rest_is 1 c.args.rest.now))

pub returns-in_default-first : goal.returns-in_default-first
returns-in_default-first c =
    let b : ℕ = get_or c.args.rest.now 0 0 in
    let vector : nat_eq b 40 ≡ false = grind (arith, nat_tests) in
    let block : nat_eq b 124 ≡ false = grind (arith, nat_tests) in
    let character : nat_eq b 92 ≡ false = grind (arith, nat_tests) in
    hash_constant c.args.rest.now c.symbol_len-n.result c.constant.result c.in-len1-up.len_at_least vector block character c.symbol_len-n.ensures.value c.constant.ensures
