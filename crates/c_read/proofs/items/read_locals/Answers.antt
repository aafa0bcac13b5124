use Rattle.std.proofs.Common.{◌≡◌, None, Some, if◌then◌else◌, [], ◌∷◌, ◌++◌, refl, sym, ap, subst, ◌∙◌}
use Rattle.std.proofs.lemmas.Result.{err_from_is_err_and}
use Rattle.c_read.proofs.Many.{starts, goes_on, stops, going_ended, spelled_on}
use Rattle.c_tree.specs.Lexical.{Word, Mark}
use Rattle.c_tree.specs.Spelling.{type_text, local_tokens, NamedVars}
use Rattle.c_read.specs.Productions.{local, no_type}
use Rattle.c_read.proofs.Loops.{locals_more, named_vars_more, fewer_by_three}
use Rattle.c_read.proofs.items.read_locals.Goals as goal

pub loop-alloc-init : goal.loop-alloc-init
loop-alloc-init c =
    let is : c.new-locals.result ≡ [] = c.new-locals.ensures in
    record {
      going = starts local no_type c.new-locals.result c.args.tokens.now is;
      spelled = sym (ap (λ xs. local_tokens xs c.args.tokens.now) is);
      named = subst NamedVars (sym is) tt;
    }

pub loop-alloc-preserved : goal.loop-alloc-preserved
loop-alloc-preserved c =
    let is : c.push.new.self ≡ c.loop-alloc.locals ++ c.in_ok-local.local ∷ [] = c.in_ok-push.ensures.ok in
    let none : no_type c.loop-alloc.tokens ≡ None = ap (λ b. if b then None else Some c.loop-alloc.tokens) (sym c.is_type_next.ensures ∙ c.loop-alloc-test.true) in
    let spelled = c.in_ok-local.ensures.spelled in
    record {
      going = goes_on c.loop-alloc.invariant.going c.loop-alloc.tokens c.read_local.new.tokens c.in_ok-local.local c.push.new.self refl none c.in_ok-local.ensures.read
          (fewer_by_three c.loop-alloc.tokens c.read_local.new.tokens (Word (type_text c.in_ok-local.local.ty)) (Word c.in_ok-local.local.name) (Mark 59) spelled.0) is;
      spelled = spelled_on local_tokens c.args.tokens.now c.loop-alloc.tokens c.loop-alloc.tokens (Word (type_text c.in_ok-local.local.ty) ∷ Word c.in_ok-local.local.name ∷ Mark 59 ∷ c.read_local.new.tokens) c.read_local.new.tokens c.loop-alloc.locals c.push.new.self c.in_ok-local.local
          c.loop-alloc.invariant.spelled refl spelled.0 (locals_more c.loop-alloc.locals c.in_ok-local.local c.read_local.new.tokens) is;
      named = subst NamedVars (sym is) (named_vars_more c.loop-alloc.locals c.in_ok-local.local c.loop-alloc.invariant.named spelled.1);
    }

pub returns-in_err-local-clause-read : goal.returns-in_err-local-clause-read
returns-in_err-local-clause-read c =
    let none : no_type c.loop-alloc.tokens ≡ None = ap (λ b. if b then None else Some c.loop-alloc.tokens) (sym c.is_type_next.ensures ∙ c.loop-alloc-test.true) in
    let p = err_from_is_err_and c.from_residual.result c.from_residual.ensures.1 in
    rw (p.1, p.2) (stops c.loop-alloc.invariant.going c.loop-alloc.tokens c.read_local.new.tokens c.read_local.new.tokens c.in_err-local.field-0.0 refl none c.in_err-local.ensures.read)

pub returns-clause-read : goal.returns-clause-read
returns-clause-read c = going_ended c.loop-alloc.invariant.going c.loop-alloc.tokens (ap (λ b. if b then None else Some c.loop-alloc.tokens) (sym c.is_type_next.ensures ∙ c.loop-alloc-test.false))
