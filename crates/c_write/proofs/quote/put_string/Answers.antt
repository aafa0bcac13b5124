use Rattle.c_write.specs.Escapes.{escaped}
use Rattle.c_write.proofs.Adding.{adds_apart, from_anything}
use Rattle.c_write.proofs.Strings.{string_adds, quoted_whole, below_256}
use Rattle.c_write.proofs.quote.put_string.Goals as goal

pub returns : goal.returns
returns c =
    let bytes = c.args.bytes.now in
    let out = c.args.out.now in
    let text = c.push-2.new.self in
    adds_apart (from_anything (string_adds out text bytes (λ i. below_256 _ (c.type_inv.bytes i))
    (quoted_whole out c.push.new.self (escaped bytes) c.put_escaped.new.out text c.in_ok-push.ensures.ok c.in_ok-put_escaped.ensures c.in_ok-push-2.ensures.ok)))
