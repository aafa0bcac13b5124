use Rattle.std.proofs.Common.{◌≡◌, ◌∙◌, sym, ap, arith, cond, ◌+◌, ◌++◌, ◌∷◌, [], subst}
use Rattle.scheme_data.specs.Names.{is_same}
use Rattle.marked_names.specs.Keys.{AreKeys, occurrences}
use Rattle.marked_names.proofs.CountLemmas.{occurrences_more}
use Rattle.marked_names.proofs.KeyLemmas.{keys_more}
use Rattle.marked_names.proofs.scope.Scope.enter.Goals as goal

pub invariant_of-self-2 : goal.invariant_of-self-2
invariant_of-self-2 c =
    let bound = c.self.inside.bound.items in
    let now : c.push_reserved.new.self.items ≡ bound ++ c.in_ok-key.key ∷ [] = c.push_reserved.ensures.items ∙ ap (λ n. n ++ c.in_ok-key.key ∷ []) c.in_ok-reserve.ensures.items in
    record {
      are_keys = subst AreKeys (sym (now ∙ ap (λ k. bound ++ k ∷ []) c.in_ok-key.ensures))
          (keys_more c.args.name.now c.args.mark bound (omega (arith, c.ranges.mark.fits)) c.self.invariant.are_keys);
      counted = λ k.
          c.in_ok-add.ensures.ok k
          ∙ ap (λ n. cond (is_same k c.as_bytes.result.now) 1 0 + n) (c.self.invariant.counted k)
          ∙ ap (λ n. cond (is_same k n) 1 0 + occurrences k bound) c.as_bytes.ensures
          ∙ sym (occurrences_more k c.in_ok-key.key bound) ∙ ap (occurrences k) (sym now);
    }
