use Rattle.std.proofs.Common.{◌∷◌, Some, None, ◌∙◌}
use Rattle.c_words.specs.Search.{with_rest}
use Rattle.c_words.proofs.FixedWords.{word_of, words_order, by_word}
use Rattle.c_words.proofs.fixed.reserved_kind.Goals as goal

pub narrow-requires-after_bounds : goal.narrow-requires-after_bounds
narrow-requires-after_bounds c _ = rw (c.new-search.ensures.depth, c.new-search.ensures.rows) (words_order c.reserved_words.result.now c.reserved_words.ensures)

pub returns-in-Some-clause-kind : goal.returns-in-Some-clause-kind
returns-in-Some-clause-kind c =
    let word = c.args.first ∷ c.args.cursor.now.left in
    let found = c.in-Some.ensures.row ∙ c.narrow.ensures.rest c.args.cursor.now.left ∙ (λ i. with_rest word_of (c.new-search.ensures.depth i) word (c.new-search.ensures.rows i)) in
    by_word word c.reserved_words.result.now (Some c.in-Some.reserved) c.reserved_words.ensures found

pub returns-in-None-clause-kind : goal.returns-in-None-clause-kind
returns-in-None-clause-kind c =
    let word = c.args.first ∷ c.args.cursor.now.left in
    let found = c.in-None.ensures.row ∙ c.narrow.ensures.rest c.args.cursor.now.left ∙ (λ i. with_rest word_of (c.new-search.ensures.depth i) word (c.new-search.ensures.rows i)) in
    by_word word c.reserved_words.result.now None c.reserved_words.ensures found
