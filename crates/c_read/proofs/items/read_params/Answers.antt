use Rattle.std.proofs.Common.{◌≡◌, [], ◌∷◌, ◌++◌, length, sym, ap, subst, ◌∙◌, arith}
use Rattle.std.proofs.lemmas.List.{length-append}
use Rattle.std.proofs.lemmas.Result.{err_from_is_err_and}
use Rattle.c_read.specs.Sequences.{after_mark}
use Rattle.c_read.specs.Productions.{next_variable}
use Rattle.c_read.proofs.Many.{starts_from, goes_on, stops, going_ended, spelled_on}
use Rattle.c_tree.specs.declared.tree.CVar.{CVar}
use Rattle.c_tree.specs.Lexical.{Word, Mark}
use Rattle.c_tree.specs.Spelling.{type_text, param_tokens, NamedVars}
use Rattle.c_read.proofs.Loops.{params_more, named_vars_more, fewer_by_three}
use Rattle.c_read.proofs.items.read_params.Goals as goal

pub loop-alloc-init : goal.loop-alloc-init
loop-alloc-init c =
    let is : c.push.new.self ≡ c.args.first ∷ [] = c.in_ok-push.ensures.ok ∙ ap (λ xs. xs ++ c.args.first ∷ []) c.new-params.ensures in
    record {
      going = starts_from next_variable (after_mark 41) c.push.new.self (c.args.first ∷ []) c.args.tokens.now is;
      spelled = sym (ap (λ xs. param_tokens xs c.args.tokens.now) is);
      named = λ h. subst NamedVars (sym is) (h, tt);
      some = omega (arith, ap length is);
    }

pub loop-alloc-preserved : goal.loop-alloc-preserved
loop-alloc-preserved c =
    let is : c.push-in-loop-alloc.new.self ≡ c.loop-alloc.params ++ c.in_ok-param.param ∷ [] = c.in_ok-push-2.ensures.ok in
    let none = c.loop-alloc-test.ensures in
    record {
      going = goes_on c.loop-alloc.invariant.going c.take_mark.new.self c.read_next_variable.new.tokens c.in_ok-param.param c.push-in-loop-alloc.new.self none.1 none.0 c.in_ok-param.ensures.read
          (fewer_by_three c.take_mark.new.self c.read_next_variable.new.tokens (Mark 44) (Word (type_text c.in_ok-param.param.ty)) (Word c.in_ok-param.param.name) c.in_ok-param.ensures.spelled.0) is;
      spelled = spelled_on param_tokens (Word (type_text c.args.first.ty) ∷ Word c.args.first.name ∷ c.args.tokens.now) c.loop-alloc.tokens c.take_mark.new.self (Mark 44 ∷ Word (type_text c.in_ok-param.param.ty) ∷ Word c.in_ok-param.param.name ∷ c.read_next_variable.new.tokens) c.read_next_variable.new.tokens c.loop-alloc.params c.push-in-loop-alloc.new.self c.in_ok-param.param
          c.loop-alloc.invariant.spelled none.1 c.in_ok-param.ensures.spelled.0 (params_more c.loop-alloc.params c.in_ok-param.param c.read_next_variable.new.tokens c.loop-alloc.invariant.some) is;
      named = λ h. subst NamedVars (sym is) (named_vars_more c.loop-alloc.params c.in_ok-param.param (c.loop-alloc.invariant.named h) c.in_ok-param.ensures.spelled.1);
      some = omega (arith, ap length is, length-append {A = CVar});
    }

pub returns-in_err-param-clause-read : goal.returns-in_err-param-clause-read
returns-in_err-param-clause-read c =
    let none = c.loop-alloc-test.ensures in
    let p = err_from_is_err_and c.from_residual-in_err-param.result c.from_residual-in_err-param.ensures.1 in
    rw (p.1, p.2) (stops c.loop-alloc.invariant.going c.take_mark.new.self c.read_next_variable.new.tokens c.read_next_variable.new.tokens c.in_err-param.field-0.0 none.1 none.0 c.in_err-param.ensures.read)

pub returns-clause-read : goal.returns-clause-read
returns-clause-read c = going_ended c.loop-alloc.invariant.going c.take_mark.new.self c.loop-alloc-test.ensures.0
