use Rattle.std.proofs.Common.{map, ap, ◌≡◌, ◌∙◌, ◌∷◌, ◌+◌, List, ℕ, suc, length, drop, arith}
use Rattle.std.proofs.lemmas.Result.{IfOk-weaker}
use Rattle.c_tree.specs.Pieces.{piece_of}
use Rattle.c_tree.specs.Functions.{fun_of}
use Rattle.c_machine.specs.declared.program.Line.{Line}
use Rattle.c_machine.specs.declared.program.Instr.TheVariants.{Give}
use Rattle.c_machine.specs.Decoded.{line, code_of}
use Rattle.c_machine.specs.Decoding.{started, decoded_all}
use Rattle.c_machine.proofs.Folding.{pieces_decoded}
use Rattle.c_machine.proofs.decoding.code_of_pieces.Goals as goal

pub returns : goal.returns
returns c =
    let f = c.args.f.now in
    let names = c.args.names.now in
    let funs = c.args.funs.now in
    let ps = c.args.parts.now in
    let end = length c.as_slice.result.now + 1 in
    let long : end ≡ suc (length f.stmts) = (let e = ap length c.as_slice.ensures in omega arith) in
    let all : c.loop-i.decoding ≡ decoded_all names funs (map piece_of ps) (started end c.last.result) =
    (let none : c.loop-i.i ≡ 0 = omega arith in
    c.loop-i.invariant ∙ ap (λ (n : ℕ). decoded_all names funs (map piece_of (drop n ps)) c.in_ok-decoding.decoding) none ∙ ap (decoded_all names funs (map piece_of ps)) (c.in_ok-decoding.ensures {u = tt})) in
    let same : line Give 1 ∷ c.loop-i.decoding.lines ≡ code_of names funs (fun_of f).code =
    pieces_decoded names funs (fun_of f).code f.stmts (map piece_of ps) end c.last.result c.loop-i.decoding f.laid.1 c.requires long c.last.ensures all in
    IfOk-weaker c.code.result (λ (x : List Line). x ≡ line Give 1 ∷ c.loop-i.decoding.lines) (λ (x : List Line). x ≡ code_of names funs (fun_of f).code) (λ x e. e ∙ same) c.code.ensures
