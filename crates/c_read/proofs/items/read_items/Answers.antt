use Rattle.std.proofs.Common.{◌≡◌, None, [], ◌∷◌, ◌++◌, refl, sym, ap, subst}
use Rattle.std.proofs.lemmas.Result.{err_from_is_err_and}
use Rattle.std.proofs.lemmas.Bool.{both_ways}
use Rattle.c_read.proofs.Many.{starts, goes_on, stops, going_ended, spelled_on}
use Rattle.c_tree.specs.Functions.{item_of, items_of}
use Rattle.c_tree.specs.Spelling.{item_tokens}
use Rattle.c_read.specs.Productions.{item, at_end}
use Rattle.c_read.proofs.Loops.{items_more, named_items_more, items_of_more, item_fewer, spelled_items, NamedList, not_at_end, is_at_end}
use Rattle.c_read.proofs.items.read_items.Goals as goal

pub loop-alloc-init : goal.loop-alloc-init
loop-alloc-init c =
    let is : c.new-items.result ≡ [] = c.new-items.ensures in
    record {
      going = starts item at_end (items_of c.new-items.result) c.args.tokens.now (ap items_of is);
      spelled = sym (ap (λ xs. spelled_items xs c.args.tokens.now) is);
      named = subst NamedList (sym is) tt;
    }

pub loop-alloc-preserved : goal.loop-alloc-preserved
loop-alloc-preserved c =
    let is : c.push.new.self ≡ c.loop-alloc.items ++ c.in_ok-item.item ∷ [] = c.in_ok-push.ensures.ok in
    let none : at_end c.loop-alloc.tokens ≡ None = not_at_end c.loop-alloc.tokens (λ e. both_ways c.is_empty.result c.loop-alloc-test.true (c.is_empty.ensures.1 e)) in
    let spelled = c.in_ok-item.ensures.spelled in
    record {
      going = goes_on c.loop-alloc.invariant.going c.loop-alloc.tokens c.read_item.new.tokens (item_of c.in_ok-item.item) (items_of c.push.new.self) refl none c.in_ok-item.ensures.read
          (item_fewer c.loop-alloc.tokens c.read_item.new.tokens (item_of c.in_ok-item.item) spelled.0) (items_of_more c.loop-alloc.items c.push.new.self c.in_ok-item.item is);
      spelled = spelled_on spelled_items c.args.tokens.now c.loop-alloc.tokens c.loop-alloc.tokens (item_tokens (item_of c.in_ok-item.item) c.read_item.new.tokens) c.read_item.new.tokens c.loop-alloc.items c.push.new.self c.in_ok-item.item
          c.loop-alloc.invariant.spelled refl spelled.0 (items_more c.loop-alloc.items c.in_ok-item.item c.read_item.new.tokens) is;
      named = subst NamedList (sym is) (named_items_more c.loop-alloc.items c.in_ok-item.item c.loop-alloc.invariant.named spelled.1);
    }

pub returns-in_err-item-clause-read : goal.returns-in_err-item-clause-read
returns-in_err-item-clause-read c =
    let none : at_end c.loop-alloc.tokens ≡ None = not_at_end c.loop-alloc.tokens (λ e. both_ways c.is_empty.result c.loop-alloc-test.true (c.is_empty.ensures.1 e)) in
    let p = err_from_is_err_and c.from_residual.result c.from_residual.ensures.1 in
    rw (p.1, p.2) (stops c.loop-alloc.invariant.going c.loop-alloc.tokens c.read_item.new.tokens c.read_item.new.tokens c.in_err-item.field-0.0 refl none c.in_err-item.ensures.read)

pub returns-clause-read : goal.returns-clause-read
returns-clause-read c = going_ended c.loop-alloc.invariant.going c.loop-alloc.tokens (is_at_end c.loop-alloc.tokens (c.is_empty.ensures.0 c.loop-alloc-test.false))

pub loop-alloc-smaller : goal.loop-alloc-smaller
loop-alloc-smaller c = item_fewer c.loop-alloc.tokens c.read_item.new.tokens (item_of c.in_ok-item.item) c.in_ok-item.ensures.spelled.0
