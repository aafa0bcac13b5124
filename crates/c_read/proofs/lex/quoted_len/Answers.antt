use Rattle.std.proofs.Common.{◌≡◌, ◌+◌, ◌<◌, Some, length, drop, get_or, ap, ◌∙◌, arith, List, ℕ}
use Rattle.std.proofs.lemmas.List.{take_rest}
use Rattle.std.proofs.lemmas.Bool.{ne_eqb}
use Rattle.c_tree.specs.Lexical.{spelled_at, quoted_from}
use Rattle.c_read.specs.Scans.{size_onto, spelled_of}
use Rattle.c_read.proofs.Lexing.{size_starts, size_skipped, size_coded}
use Rattle.c_read.proofs.lex.quoted_len.Goals as goal
use Rattle.c_read.proofs.lex.quoted_len.Goals.{then-skip-gt0, else-skip-gt0+else-rest-i-eq34+in-Some}

pub loop-i-init : goal.loop-i-init
loop-i-init c = size_starts (quoted_from 0 c.args.rest.now)

pub loop-i-preserved : goal.loop-i-preserved
loop-i-preserved c =
    let rest : List ℕ = c.args.rest.now in
    let i : ℕ = c.loop-i.i in
    let within : i < length rest = c.loop-i-test.true in
    elim c.if-skip-gt0.branch [
      | then-skip-gt0 w ↦
          ap (λ k. size_onto (i + 1 + k) (quoted_from k (drop (i + 1) rest))) w.skip-is
          ∙ size_skipped rest i c.loop-i.skip within w.if-skip-gt0.true
          ∙ c.loop-i.invariant
      | else-skip-gt0+else-rest-i-eq34+in-Some w ↦
          let none : c.loop-i.skip ≡ 0 = omega arith in
          let is : spelled_of (Some w.in-Some.coded) ≡ spelled_at (get_or rest i 0) (drop (i + 1) rest) = w.in-Some.ensures ∙ ap (spelled_at (get_or rest i 0)) (take_rest rest (i + 1)) in
          ap (λ k. size_onto (i + 1 + k) (quoted_from k (drop (i + 1) rest))) w.skip-is
          ∙ size_coded rest i c.loop-i.skip w.in-Some.coded within none (ne_eqb (get_or rest i 0) 34 w.if-rest-i-eq34.false) is
          ∙ c.loop-i.invariant
    ]
