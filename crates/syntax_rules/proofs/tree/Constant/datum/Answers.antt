use Rattle.std.proofs.Common.{◌∙◌, ap, rules}
use Rattle.std.proofs.lemmas.Result.{err_from_is_err_and}
use Rattle.scheme_data.specs.Forms.{atom, text}
use Rattle.syntax_rules.proofs.Atoms.{form-Int, form-Chr, form-Bool, form-Unspec, form-Str}
use Rattle.syntax_rules.proofs.tree.Constant.datum.Goals.{in-Int, in-Chr, in-Bool, in-Unspec, in-Str+in_ok-copy-in-Str}
use Rattle.syntax_rules.proofs.tree.Constant.datum.Goals as goal

pub returns-in_err-copy-in-Str : goal.returns-in_err-copy-in-Str
returns-in_err-copy-in-Str c = let p = err_from_is_err_and c.from_residual.result c.from_residual.ensures.1 in rw p.1 tt

pub returns : goal.returns
returns c = elim c.match-self.branch [
  | in-Int w ↦ rw (w.in-Int.is, w.result-is, form-Int) (search rules)
  | in-Chr w ↦ rw (w.in-Chr.is, w.result-is) (form-Chr c.args.at w.in-Chr.b)
  | in-Bool w ↦ rw (w.in-Bool.is, w.result-is) (form-Bool c.args.at w.in-Bool.t)
  | in-Unspec w ↦ rw (w.in-Unspec.is, w.result-is) (form-Unspec c.args.at)
  | in-Str+in_ok-copy-in-Str w ↦ rw (w.in-Str.is, w.result-is) (form-Str c.args.at _ ∙ ap (λ s. atom c.args.at (text s)) w.in_ok-copy-in-Str.ensures)
]
