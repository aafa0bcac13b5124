use Rattle.std.proofs.Common.{◌≡◌, ◌∙◌, sym, ap, cond, ◌+◌, ◌++◌, ◌∷◌, [], subst, List, ℕ}
use Rattle.scheme_data.specs.Names.{is_same}
use Rattle.marked_names.specs.Keys.{AreKeys, occurrences, count_of}
use Rattle.marked_names.proofs.CountLemmas.{counted_fewer, last_held, keys_fewer}
use Rattle.marked_names.proofs.scope.Scope.leave_one.Goals as goal

pub invariant_of-self-2 : goal.invariant_of-self-2
invariant_of-self-2 c =
    let left = c.pop.new.self.items in
    let last = c.in-Some.key in
    let whole : c.self.inside.bound.items ≡ left ++ last ∷ [] = c.in-Some.ensures.items in
    let held : (k : List ℕ) → count_of c.self.inside.counts.keys c.self.inside.counts.counts.items k ≡ occurrences k (left ++ last ∷ []) =
    λ k. c.self.invariant.counted k ∙ ap (occurrences k) whole in
    let same = c.as_bytes.ensures in
    record {
      are_keys = keys_fewer left last (subst AreKeys whole c.self.invariant.are_keys);
      counted = λ k. counted_fewer k last left _ _ (held k)
          (c.remove.ensures k (last_held c.as_bytes.result.now left _ (held c.as_bytes.result.now ∙ ap (λ l. occurrences c.as_bytes.result.now (left ++ l ∷ [])) (sym same)))
          ∙ ap (λ l. cond (is_same k l) 1 0 + count_of c.remove.new.self.keys c.remove.new.self.counts.items k) same);
    }
