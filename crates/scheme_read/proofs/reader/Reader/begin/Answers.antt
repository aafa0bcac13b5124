use Rattle.std.proofs.Common.{◌≡◌, ◌<◌, ◌∷◌, length, true, refl, sym, ◌∙◌, arith}
use Rattle.scheme_read.specs.Steps.{reader, takes_datum}
use Rattle.scheme_read.proofs.Kept.{takes_top}
use Rattle.scheme_read.proofs.Steps.{when_true}
use Rattle.scheme_read.proofs.reader.Reader.begin.Goals as goal

pub returns-then-len-ge-DEEPEST : goal.returns-then-len-ge-DEEPEST
returns-then-len-ge-DEEPEST c =
    let stack = c.args.self.now.stack in
    let free : takes_datum stack ≡ true = sym c.takes_datum.ensures ∙ c.if-not-takes_datum.false in
    let deep : 200 < length (c.args.frame ∷ stack) = omega arith in
    record {
      value = (
        record {
          reached = reader (c.args.frame ∷ stack) c.args.self.now.done;
          next_is = when_true stack _ free;
          begun = takes_top c.args.frame stack c.requires;
          deep = deep;
        },
        refl,
      );
      low = tt;
    }
