use Rattle.std.proofs.Common.{◌∙◌, ap, map}
use Rattle.c_tree.specs.Functions.{fun_of}
use Rattle.c_tree.specs.Pieces.{piece_of}
use Rattle.c_meaning.specs.Checked.{used_in}
use Rattle.c_check.specs.Used.{used_pieces}
use Rattle.c_check.proofs.Using.{used-as, used-so}
use Rattle.c_check.proofs.used.note_body.Goals as goal

pub returns : goal.returns
returns c =
    used-as c.args.used.now (used_pieces (map piece_of c.as_slice.result.now)) (used_in (fun_of c.args.f.now).code) c.note_pieces.new.used
    (ap (λ ps. used_pieces (map piece_of ps)) c.as_slice.ensures ∙ ap used_pieces c.in_ok-pieces.ensures ∙ used-so (fun_of c.args.f.now).code)
    c.in_ok-note_pieces.ensures
