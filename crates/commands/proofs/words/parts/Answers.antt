use Rattle.std.proofs.Common.{◌≡◌, ◌++◌, ◌∷◌, ◌+◌, ◌<◌, List, ℕ, drop, get_or, length, ap, sym, ◌∙◌, add-one, drop-cons}
use Rattle.commands.specs.Commands.{parts_of}
use Rattle.commands.proofs.Joins.{onto, onto-nil, closed_part, longer_part}
use Rattle.commands.proofs.words.parts.Goals as goal
use Rattle.commands.proofs.words.parts.Goals.{then-byte-at+in_ok-push, else-byte-at+in_ok-push-2}

pub loop-byte-init : goal.loop-byte-init
loop-byte-init c = (λ i. c.new-list.ensures i ++ onto (c.new-part.ensures i) (parts_of c.args.at c.args.bytes.now)) ∙ onto-nil c.args.at c.args.bytes.now

step_on : (at i : ℕ) (bytes part : List ℕ) (list : List (List ℕ)) → i < length bytes → list ++ onto part (parts_of at (drop i bytes)) ≡ parts_of at bytes → list ++ onto part (parts_of at (get_or bytes i 0 ∷ drop (i + 1) bytes)) ≡ parts_of at bytes
step_on at i bytes part list below inv = rw add-one (ap (λ (l : List ℕ). list ++ onto part (parts_of at l)) (sym (drop-cons bytes i 0 below)) ∙ inv)

pub loop-byte-preserved : goal.loop-byte-preserved
loop-byte-preserved c =
    let here = step_on c.args.at c.loop-byte.byte-index c.args.bytes.now c.loop-byte.part c.loop-byte.list c.loop-byte-test.true c.loop-byte.invariant in
    elim c.if-byte-at.branch [
      | then-byte-at+in_ok-push w ↦ closed_part c.args.at _ c.loop-byte.list c.loop-byte.part _ _ c.if-byte-at.list c.if-byte-at.part (w.list-is ∙ w.in_ok-push.ensures.ok) (w.part-is ∙ w.new-part-then-byte-at.ensures) w.if-byte-at.true here
      | else-byte-at+in_ok-push-2 w ↦ longer_part c.args.at _ c.loop-byte.list c.loop-byte.part _ _ c.if-byte-at.list c.if-byte-at.part w.list-is (w.part-is ∙ w.in_ok-push-2.ensures.ok) w.if-byte-at.false here
    ]
