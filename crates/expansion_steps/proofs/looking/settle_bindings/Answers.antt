use Rattle.scheme_data.specs.Forms.{next, listed}
use Rattle.core_forms.specs.Code.{data_of, spelling}
use Rattle.core_forms.specs.Working.{open_of}
use Rattle.core_forms.specs.Table.{core, derived}
use Rattle.core_forms.specs.declared.words.Keyword.TheVariants as key
use Rattle.expansion_steps.proofs.Decisions.{settled_core_row, wrong_now, means_now}
use Rattle.expansion_steps.proofs.looking.settle_bindings.Goals as goal

pub returns-in-Ok : goal.returns-in-Ok
returns-in-Ok c = λ ks s n. means_now ks s n n (core c.args.at (spelling key.LetStar) (next (listed c.args.at (data_of c.args.bindings)) (data_of c.args.body))) (open_of c.in-Ok.other) c.args.at key.LetStar (derived n c.args.at key.LetStar (next (listed c.args.at (data_of c.args.bindings)) (data_of c.args.body))) (settled_core_row ks s n c.args.at key.LetStar (next (listed c.args.at (data_of c.args.bindings)) (data_of c.args.body))) (c.in-Ok.ensures n c.args.at)

pub returns-in-Err : goal.returns-in-Err
returns-in-Err c = λ ks s n. wrong_now ks s n n (core c.args.at (spelling key.LetStar) (next (listed c.args.at (data_of c.args.bindings)) (data_of c.args.body))) c.args.at key.LetStar (derived n c.args.at key.LetStar (next (listed c.args.at (data_of c.args.bindings)) (data_of c.args.body))) c.in-Err.e (settled_core_row ks s n c.args.at key.LetStar (next (listed c.args.at (data_of c.args.bindings)) (data_of c.args.body))) (c.in-Err.ensures n c.args.at)
