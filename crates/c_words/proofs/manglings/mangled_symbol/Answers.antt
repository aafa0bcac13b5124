use Rattle.std.proofs.Common.{refl, ◌∙◌, rules}
use Rattle.c_words.proofs.MangledWalks.{at_start, over_byte, wrong_next}
use Rattle.c_words.proofs.manglings.mangled_symbol.Goals as goal

pub loop-byte-init : goal.loop-byte-init
loop-byte-init c = record { behind = at_start c.new-symbol.result c.new-symbol.ensures c.args.cursor.now.left; whole = refl }

pub loop-byte-preserved : goal.loop-byte-preserved
loop-byte-preserved c =
    record {
      behind = over_byte c.args.cursor.now.left c.loop-byte.symbol c.step.new.self c.loop-byte.cursor.left c.next_spelled.new.cursor.left c.in-Byte.byte (search rules) c.in-Byte.ensures.0 c.step.ensures c.loop-byte.invariant.behind;
      whole = c.in-Byte.ensures.1 ∙ c.loop-byte.invariant.whole;
    }

pub returns-in-Wrong : goal.returns-in-Wrong
returns-in-Wrong c = wrong_next c.args.cursor.now c.loop-byte.cursor c.next_spelled.new.cursor c.finish-in-Wrong.new.self c.loop-byte.symbol c.loop-byte.invariant.behind c.loop-byte.invariant.whole c.finish-in-Wrong.ensures c.in-Wrong.ensures
