use Rattle.std.proofs.Common.{◌≡◌, [], ◌∷◌, ◌++◌, length, sym, ap, ◌∙◌, arith}
use Rattle.std.proofs.lemmas.List.{length-append}
use Rattle.std.proofs.lemmas.Result.{err_from_is_err_and}
use Rattle.c_read.specs.Sequences.{after_mark}
use Rattle.c_read.specs.Productions.{next_type}
use Rattle.c_read.proofs.Many.{starts_from, goes_on, stops, going_ended, spelled_on}
use Rattle.c_tree.specs.declared.tree.CTy.{CTy}
use Rattle.c_tree.specs.Lexical.{Word, Mark}
use Rattle.c_tree.specs.Spelling.{type_text, type_tokens}
use Rattle.c_read.proofs.Loops.{types_more, fewer_by_two}
use Rattle.c_read.proofs.items.read_types.Goals as goal

pub loop-tokens-init : goal.loop-tokens-init
loop-tokens-init c =
    let is : c.push.new.self ≡ c.args.first ∷ [] = c.in_ok-push.ensures.ok ∙ ap (λ xs. xs ++ c.args.first ∷ []) c.new-types.ensures in
    record {
      going = starts_from next_type (after_mark 41) c.push.new.self (c.args.first ∷ []) c.args.tokens.now is;
      spelled = sym (ap (λ xs. type_tokens xs c.args.tokens.now) is);
      some = omega (arith, ap length is);
    }

pub loop-tokens-preserved : goal.loop-tokens-preserved
loop-tokens-preserved c =
    let is : c.push-in-loop-tokens.new.self ≡ c.loop-tokens.types ++ c.in_ok-ty.ty ∷ [] = c.in_ok-push-2.ensures.ok in
    let none = c.loop-tokens-test.ensures in
    record {
      going = goes_on c.loop-tokens.invariant.going c.take_mark.new.self c.read_next_type.new.tokens c.in_ok-ty.ty c.push-in-loop-tokens.new.self none.1 none.0 c.in_ok-ty.ensures.read
          (fewer_by_two c.take_mark.new.self c.read_next_type.new.tokens (Mark 44) (Word (type_text c.in_ok-ty.ty)) c.in_ok-ty.ensures.spelled) is;
      spelled = spelled_on type_tokens (Word (type_text c.args.first) ∷ c.args.tokens.now) c.loop-tokens.tokens c.take_mark.new.self (Mark 44 ∷ Word (type_text c.in_ok-ty.ty) ∷ c.read_next_type.new.tokens) c.read_next_type.new.tokens c.loop-tokens.types c.push-in-loop-tokens.new.self c.in_ok-ty.ty
          c.loop-tokens.invariant.spelled none.1 c.in_ok-ty.ensures.spelled (types_more c.loop-tokens.types c.in_ok-ty.ty c.read_next_type.new.tokens c.loop-tokens.invariant.some) is;
      some = omega (arith, ap length is, length-append {A = CTy});
    }

pub returns-in_err-ty-clause-read : goal.returns-in_err-ty-clause-read
returns-in_err-ty-clause-read c =
    let none = c.loop-tokens-test.ensures in
    let p = err_from_is_err_and c.from_residual-in_err-ty.result c.from_residual-in_err-ty.ensures.1 in
    rw (p.1, p.2) (stops c.loop-tokens.invariant.going c.take_mark.new.self c.read_next_type.new.tokens c.read_next_type.new.tokens c.in_err-ty.field-0.0 none.1 none.0 c.in_err-ty.ensures.read)

pub returns-clause-read : goal.returns-clause-read
returns-clause-read c = going_ended c.loop-tokens.invariant.going c.take_mark.new.self c.loop-tokens-test.ensures.0
