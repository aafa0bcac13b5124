use Rattle.scheme_data.specs.Forms.{form}
use Rattle.expansion_steps.proofs.Values.{function_shown, variable_shown, left_kept}
use Rattle.expansion_steps.proofs.looking.look_at_value.Goals as goal

pub returns-in-Lambda : goal.returns-in-Lambda
returns-in-Lambda c = λ ks s n m d e h p i t.
    function_shown ks s n m d c.args.at c.args.binder (form c.args.word) (form c.args.symbol) e c.args.others c.in-Lambda.place c.in-Lambda.behind c.args.settled h p i c.requires c.in-Lambda.is t

pub returns-in-Other : goal.returns-in-Other
returns-in-Other c = λ ks s n m d e h p i t.
    variable_shown ks s n m d c.args.at c.args.binder (form c.args.word) (form c.args.symbol) e c.args.others c.in-Other.value c.args.settled h p i c.requires c.in-Other.is t

pub returns-in_ok-form-in-Stuck : goal.returns-in_ok-form-in-Stuck
returns-in_ok-form-in-Stuck c = λ ks s n m d e h p i t.
    left_kept ks s n m d c.args.at c.args.binder (form c.args.word) (form c.args.symbol) e c.args.others c.in-Stuck.value c.in-Stuck.e (form c.in_ok-form-in-Stuck.form) c.args.settled h p i c.requires c.in-Stuck.is c.in_ok-form-in-Stuck.ensures t
