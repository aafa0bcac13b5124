use Rattle.c_write.proofs.Words.{end_label_word}
use Rattle.c_write.proofs.Adding.{adds_both, from_anything}
use Rattle.c_write.proofs.piece.put_ended.Goals as goal

pub put_name-requires : goal.put_name-requires
put_name-requires c = end_label_word c.args.label.now c.requires

pub returns : goal.returns
returns c =
    from_anything (adds_both c.in_ok-put_mark.ensures (adds_both (from_anything c.in_ok-put_space.ensures) (adds_both c.in_ok-put_name.ensures (adds_both c.in_ok-put_mark-2.ensures (from_anything c.in_ok-put_end.ensures)))))
