use Rattle.std.proofs.Common.{◌≡◌, ◌+◌, ◌<◌, ◌++◌, [], ◌∷◌, Some, length, drop, get_or, ap, ◌∙◌, arith, List, ℕ}
use Rattle.std.proofs.lemmas.List.{take_rest}
use Rattle.std.proofs.lemmas.Bool.{ne_eqb}
use Rattle.c_tree.specs.Lexical.{spelled_at, quoted_from}
use Rattle.c_read.specs.Scans.{quoted_onto, spelled_of}
use Rattle.c_read.proofs.Lexing.{quote_skipped, quote_coded}
use Rattle.c_read.proofs.lex.quoted.Goals as goal
use Rattle.c_read.proofs.lex.quoted.Goals.{then-skip-gt0, else-skip-gt0+else-rest-i-eq34+in-Some+in_ok-push}

pub loop-i-preserved : goal.loop-i-preserved
loop-i-preserved c =
    let rest : List ℕ = c.args.rest.now in
    let i : ℕ = c.loop-i.i in
    let within : i < length rest = c.loop-i-test.true in
    let skip : ℕ = c.if-skip-gt0.skip in
    elim c.if-skip-gt0.branch [
      | then-skip-gt0 w ↦
          ap (λ (b : List ℕ). quoted_onto b (i + 1 + skip) (quoted_from skip (drop (i + 1) rest))) w.bytes-is
          ∙ ap (λ k. quoted_onto c.loop-i.bytes (i + 1 + k) (quoted_from k (drop (i + 1) rest))) w.skip-is
          ∙ quote_skipped rest c.loop-i.bytes i c.loop-i.skip within w.if-skip-gt0.true
          ∙ c.loop-i.invariant
      | else-skip-gt0+else-rest-i-eq34+in-Some+in_ok-push w ↦
          let none : c.loop-i.skip ≡ 0 = omega arith in
          let is : spelled_of (Some w.in-Some.coded) ≡ spelled_at (get_or rest i 0) (drop (i + 1) rest) = w.in-Some.ensures ∙ ap (spelled_at (get_or rest i 0)) (take_rest rest (i + 1)) in
          ap (λ (b : List ℕ). quoted_onto b (i + 1 + skip) (quoted_from skip (drop (i + 1) rest))) (w.bytes-is ∙ w.in_ok-push.ensures.ok)
          ∙ ap (λ k. quoted_onto (c.loop-i.bytes ++ w.in-Some.coded.byte ∷ []) (i + 1 + k) (quoted_from k (drop (i + 1) rest))) w.skip-is
          ∙ quote_coded rest c.loop-i.bytes i c.loop-i.skip w.in-Some.coded within none (ne_eqb (get_or rest i 0) 34 w.if-rest-i-eq34.false) is
          ∙ c.loop-i.invariant
    ]
