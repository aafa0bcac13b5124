use Rattle.std.proofs.Common.{◌≡◌, ◌≤◌, map}
use Rattle.commands.specs.Commands.{parsed}
use Rattle.session.proofs.Folding.{ScriptSoFar}
use Rattle.session.proofs.script.do_lines.Given as goal

abbrev pub invariant-loop-line : goal.invariant-loop-line
invariant-loop-line g l =
    let contents = g.F.Files.contents in
    let written = g.K.Sink.written in
    record {
      count : l.number ≡ l.line-index;
      files_later : g.F.Files.faults l.fn.files ≤ g.F.Files.faults l.files;
      out_later : g.K.Sink.faults l.fn.out ≤ g.K.Sink.faults l.out;
      told : ScriptSoFar (map parsed l.lines) (contents l.fn.files) (written l.fn.out) l.line-index (contents l.files) (written l.out) l.ends;
    }
