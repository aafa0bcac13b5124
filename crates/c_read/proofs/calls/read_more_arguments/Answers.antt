use Rattle.std.proofs.Common.{◌≡◌, [], ◌∷◌, ◌++◌, length, sym, ap, subst, ◌∙◌, arith}
use Rattle.std.proofs.lemmas.List.{length-append}
use Rattle.std.proofs.lemmas.Result.{err_from_is_err_and}
use Rattle.c_read.specs.Sequences.{after_mark}
use Rattle.c_read.specs.Productions.{next_argument}
use Rattle.c_read.proofs.Many.{starts_from, goes_on, stops, going_ended, spelled_on}
use Rattle.c_tree.specs.declared.tree.CArg.{CArg}
use Rattle.c_tree.specs.Lexical.{Mark}
use Rattle.c_tree.specs.Spelling.{argument_tokens_of, argument_tokens, NamedArguments}
use Rattle.c_read.proofs.Loops.{arguments_more, named_arguments_more, argument_fewer}
use Rattle.c_read.proofs.calls.read_more_arguments.Goals as goal

pub loop-alloc-init : goal.loop-alloc-init
loop-alloc-init c =
    let is : c.push.new.self ≡ c.args.first ∷ [] = c.in_ok-push.ensures.ok ∙ ap (λ xs. xs ++ c.args.first ∷ []) c.new-args.ensures in
    record {
      going = starts_from next_argument (after_mark 41) c.push.new.self (c.args.first ∷ []) c.args.tokens.now is;
      spelled = sym (ap (λ xs. argument_tokens xs c.args.tokens.now) is);
      named = λ h. subst NamedArguments (sym is) (h, tt);
      some = omega (arith, ap length is);
    }

pub loop-alloc-preserved : goal.loop-alloc-preserved
loop-alloc-preserved c =
    let is : c.push-in-loop-alloc.new.self ≡ c.loop-alloc.args ++ c.in_ok-arg.arg ∷ [] = c.in_ok-push-2.ensures.ok in
    let none = c.loop-alloc-test.ensures in
    record {
      going = goes_on c.loop-alloc.invariant.going c.take_mark.new.self c.read_next_argument.new.tokens c.in_ok-arg.arg c.push-in-loop-alloc.new.self none.1 none.0 c.in_ok-arg.ensures.read
          (argument_fewer c.take_mark.new.self c.read_next_argument.new.tokens c.in_ok-arg.arg c.in_ok-arg.ensures.spelled.0) is;
      spelled = spelled_on argument_tokens (argument_tokens_of c.args.first c.args.tokens.now) c.loop-alloc.tokens c.take_mark.new.self (Mark 44 ∷ argument_tokens_of c.in_ok-arg.arg c.read_next_argument.new.tokens) c.read_next_argument.new.tokens c.loop-alloc.args c.push-in-loop-alloc.new.self c.in_ok-arg.arg
          c.loop-alloc.invariant.spelled none.1 c.in_ok-arg.ensures.spelled.0 (arguments_more c.loop-alloc.args c.in_ok-arg.arg c.read_next_argument.new.tokens c.loop-alloc.invariant.some) is;
      named = λ h. subst NamedArguments (sym is) (named_arguments_more c.loop-alloc.args c.in_ok-arg.arg (c.loop-alloc.invariant.named h) c.in_ok-arg.ensures.spelled.1);
      some = omega (arith, ap length is, length-append {A = CArg});
    }

pub returns-in_err-arg-clause-read : goal.returns-in_err-arg-clause-read
returns-in_err-arg-clause-read c =
    let none = c.loop-alloc-test.ensures in
    let p = err_from_is_err_and c.from_residual-in_err-arg.result c.from_residual-in_err-arg.ensures.1 in
    rw (p.1, p.2) (stops c.loop-alloc.invariant.going c.take_mark.new.self c.read_next_argument.new.tokens c.read_next_argument.new.tokens c.in_err-arg.field-0.0 none.1 none.0 c.in_err-arg.ensures.read)

pub returns-clause-read : goal.returns-clause-read
returns-clause-read c = going_ended c.loop-alloc.invariant.going c.take_mark.new.self c.loop-alloc-test.ensures.0
