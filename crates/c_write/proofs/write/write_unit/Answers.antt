use Rattle.c_write.proofs.Lists.{whole_text}
use Rattle.c_write.proofs.write.write_unit.Goals as goal

pub returns : goal.returns
returns c = record {
  spelled = whole_text c.new-text.result c.put_items.new.out c.as_slice.result.now c.args.u.now.items c.new-text.ensures c.as_slice.ensures c.in_ok-put_items.ensures;
  named = c.requires;
}
