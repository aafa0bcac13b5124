use Rattle.std.proofs.Common.{◌≡◌, ℕ, false, ◌+◌, ◌<◌, ◌≤◌, List, length, drop, get_or, refl, sym, ap, ◌∙◌, arith}
use Rattle.std.proofs.lemmas.Result.{err_from_is_err_and}
use Rattle.scheme_tokens.specs.declared.lex.Lexeme.TheVariants as lexed
use Rattle.scheme_tokens.specs.Lexemes.{lexeme}
use Rattle.scheme_data.specs.Places.{after, end_from}
use Rattle.scheme_tokens.specs.Tokens.{token, tokens_from}
use Rattle.scheme_read.proofs.Middle.{moved, rest_is, skipped, scanned, end_on, middle_low, middle_start, middle_step, took_not, ended_well, ended_short, none_left, end_left}
use Rattle.scheme_read.proofs.read.read.Goals as goal
use Rattle.scheme_read.proofs.read.read.Goals.{then-skip-gt0, else-skip-gt0+in_ok-size+in-Gap, else-skip-gt0+in_ok-size+in-Token+in_ok-step-in-Token}

pub loop-i-init : goal.loop-i-init
loop-i-init c = record { middle = middle_start c.args.bytes.now _ _ c.new.ensures c.new-2.ensures; place = refl }

pub loop-i-preserved : goal.loop-i-preserved
loop-i-preserved c =
    let bytes : List ℕ = c.args.bytes.now in
    let i : ℕ = c.loop-i.i in
    let within : i < length bytes = c.loop-i-test.true in
    let next : ℕ → _ = λ k. tokens_from k (after c.loop-i.place (get_or bytes i 0)) (drop (i + 1) bytes) in
    let on : next c.if-skip-gt0.skip ≡ tokens_from c.if-skip-gt0.skip c.place_after-place.result (drop (i + 1) bytes) =
    ap (λ at. tokens_from c.if-skip-gt0.skip at (drop (i + 1) bytes)) (sym c.place_after-place.ensures) in
    record {
      middle = elim c.if-skip-gt0.branch [
        | then-skip-gt0 w ↦
            moved bytes _ _ c.loop-i.reader c.if-skip-gt0.reader c.loop-i.invariant.middle
            (skipped bytes i c.loop-i.skip c.loop-i.place within w.if-skip-gt0.true ∙ ap next (sym w.skip-is) ∙ on)
            (sym w.reader-is)
        | else-skip-gt0+in_ok-size+in-Gap w ↦
            let none : c.loop-i.skip ≡ 0 = omega arith in
            let is : lexed.Gap w.in-Gap.size ≡ lexeme (drop i bytes) = sym w.in-Gap.is ∙ w.in_ok-size.ensures ∙ ap lexeme (rest_is i bytes) in
            moved bytes _ _ c.loop-i.reader c.if-skip-gt0.reader c.loop-i.invariant.middle
            (scanned bytes i c.loop-i.skip c.loop-i.place (lexed.Gap w.in-Gap.size) within none is ∙ ap next (sym w.skip-is) ∙ on)
            (sym w.reader-is)
        | else-skip-gt0+in_ok-size+in-Token+in_ok-step-in-Token w ↦
            let none : c.loop-i.skip ≡ 0 = omega arith in
            let is : lexed.Token w.in-Token.word w.in-Token.size ≡ lexeme (drop i bytes) = sym w.in-Token.is ∙ w.in_ok-size.ensures ∙ ap lexeme (rest_is i bytes) in
            let here = moved bytes _ _ c.loop-i.reader c.loop-i.reader c.loop-i.invariant.middle
            (scanned bytes i c.loop-i.skip c.loop-i.place (lexed.Token w.in-Token.word w.in-Token.size) within none is) refl in
            moved bytes _ _ w.step.new.self c.if-skip-gt0.reader
            (middle_step bytes (next w.in-Token.size) (token c.loop-i.place w.in-Token.word) c.loop-i.reader w.step.new.self here w.in_ok-step-in-Token.ensures.value (w.in_ok-step-in-Token.ensures.low (middle_low bytes _ c.loop-i.reader here)))
            (ap next (sym w.skip-is) ∙ on) (sym w.reader-is)
      ];
      place = ap (λ at. end_from at (drop (i + 1) bytes)) c.place_after-place.ensures ∙ sym (end_on bytes i c.loop-i.place within) ∙ c.loop-i.invariant.place;
    }

pub returns-in_err-step-in-Token : goal.returns-in_err-step-in-Token
returns-in_err-step-in-Token c =
    let bytes : List ℕ = c.args.bytes.now in
    let i : ℕ = c.loop-i.i in
    let within : i < length bytes = c.loop-i-test.true in
    let next : ℕ → _ = λ k. tokens_from k (after c.loop-i.place (get_or bytes i 0)) (drop (i + 1) bytes) in
    let none : c.loop-i.skip ≡ 0 = omega arith in
    let is : lexed.Token c.in-Token.word c.in-Token.size ≡ lexeme (drop i bytes) = sym c.in-Token.is ∙ c.in_ok-size.ensures ∙ ap lexeme (rest_is i bytes) in
    let here = moved bytes _ _ c.loop-i.reader c.loop-i.reader c.loop-i.invariant.middle
    (scanned bytes i c.loop-i.skip c.loop-i.place (lexed.Token c.in-Token.word c.in-Token.size) within none is) refl in
    let p = err_from_is_err_and c.from_residual-in_err-step-in-Token.result c.from_residual-in_err-step-in-Token.ensures.1 in
    rw (p.1, p.2) (took_not bytes (next c.in-Token.size) (token c.loop-i.place c.in-Token.word) c.loop-i.reader c.step.new.self _ c.requires here c.in_err-step-in-Token.ensures.value)

pub returns-then-is_empty : goal.returns-then-is_empty
returns-then-is_empty c =
    let bytes : List ℕ = c.args.bytes.now in
    let all : length bytes ≤ c.loop-i.i = omega arith in
    ended_well bytes _ c.loop-i.reader c.requires c.loop-i.invariant.middle (none_left bytes c.loop-i.i c.loop-i.skip c.loop-i.place all)
    (c.is_empty.ensures.0 c.if-is_empty.true)

pub returns : goal.returns
returns c =
    let bytes : List ℕ = c.args.bytes.now in
    let all : length bytes ≤ c.loop-i.i = omega arith in
    ended_short bytes _ c.loop-i.reader c.loop-i.place c.requires c.loop-i.invariant.middle (none_left bytes c.loop-i.i c.loop-i.skip c.loop-i.place all)
    (λ e. let h = c.is_empty.ensures.1 e in let n : c.is_empty.result ≡ false = c.if-is_empty.false in cc)
    (sym (end_left bytes c.loop-i.i c.loop-i.place all) ∙ c.loop-i.invariant.place)
