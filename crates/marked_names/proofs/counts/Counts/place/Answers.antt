use Rattle.std.proofs.Common.{◌∙◌, sym, ap, arith, length, ◌∷◌, [], Some}
use Rattle.std.proofs.lemmas.List.{length-append}
use Rattle.marked_names.proofs.CountLemmas.{new_key, new_place}
use Rattle.marked_names.proofs.counts.Counts.place.Goals as goal

pub invariant_of-self-2 : goal.invariant_of-self-2
invariant_of-self-2 c =
    let keys = new_key c.args.key.now c.args.self.now.keys c.insert.new.self c.in_ok-insert.field-0 (sym c.position.ensures ∙ c.in_default.is) c.in_ok-insert.ensures.added c.in_ok-insert.ensures.ok in
    let more = ap length keys ∙ length-append c.args.self.now.keys (c.args.key.now ∷ []) in
    let long = c.args.self.now.as_long in
    let kept = ap length c.in_ok-reserve.ensures.items in
    record { as_long = omega (arith, more, long, kept, c.push_reserved.ensures.len) }

pub returns-clause-place : goal.returns-clause-place
returns-clause-place c =
    let none = sym c.position.ensures ∙ c.in_default.is in
    let keys = new_key c.args.key.now c.args.self.now.keys c.insert.new.self c.in_ok-insert.field-0 none c.in_ok-insert.ensures.added c.in_ok-insert.ensures.ok in
    let long = c.args.self.now.as_long in
    let kept = ap length c.in_ok-reserve.ensures.items in
    new_place c.args.key.now c.args.self.now.keys c.insert.new.self none keys ∙ ap Some (omega (arith, long, kept, c.len-place.ensures))
