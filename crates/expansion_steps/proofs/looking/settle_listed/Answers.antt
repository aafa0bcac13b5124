use Rattle.std.proofs.Common.{Ok, subst}
use Rattle.scheme_data.specs.Forms.{form, next, listed}
use Rattle.derived_forms.specs.Rows.{DerivedAs}
use Rattle.derived_forms.specs.declared.derived.Derived.{Derived}
use Rattle.core_forms.specs.Code.{data_of}
use Rattle.core_forms.specs.Working.{open_of}
use Rattle.core_forms.specs.Table.{derived}
use Rattle.expansion_steps.proofs.Decisions.{settled_special, wrong_now, means_now, core_whole}
use Rattle.expansion_steps.proofs.looking.settle_listed.Goals as goal

pub returns-in-Ok-Means : goal.returns-in-Ok-Means
returns-in-Ok-Means c = λ ks s h. means_now ks s c.args.n.now c.row_of.new.n (listed c.args.at (next (form c.args.word) (data_of c.args.others))) (open_of c.in-Ok-Means.other) c.args.at c.args.keyword (derived c.args.n.now c.args.at c.args.keyword (data_of c.args.others)) (settled_special ks s c.args.n.now (listed c.args.at (next (form c.args.word) (data_of c.args.others))) c.args.keyword h) (subst (λ (d : Derived). DerivedAs (derived c.args.n.now c.args.at c.args.keyword (data_of c.args.others)) c.args.at c.args.others c.args.n.now (Ok d) c.row_of.new.n) c.in-Ok-Means.field-0-is c.in-Ok-Means.ensures)

pub returns-in-Ok-Core : goal.returns-in-Ok-Core
returns-in-Ok-Core c = λ ks s h. core_whole ks s c.args.n.now c.row_of.new.n c.args.at c.args.keyword c.args.word c.args.others c.in-Ok-Core.forms c.settled_core.result (subst (λ (d : Derived). DerivedAs (derived c.args.n.now c.args.at c.args.keyword (data_of c.args.others)) c.args.at c.args.others c.args.n.now (Ok d) c.row_of.new.n) c.in-Ok-Core.field-0-is c.in-Ok-Core.ensures) h (c.settled_core.ensures ks s)

pub returns-in-Err : goal.returns-in-Err
returns-in-Err c = λ ks s h. wrong_now ks s c.args.n.now c.row_of.new.n (listed c.args.at (next (form c.args.word) (data_of c.args.others))) c.args.at c.args.keyword (derived c.args.n.now c.args.at c.args.keyword (data_of c.args.others)) c.in-Err.e (settled_special ks s c.args.n.now (listed c.args.at (next (form c.args.word) (data_of c.args.others))) c.args.keyword h) c.in-Err.ensures
