use Rattle.core_forms.proofs.words.is_same.Goals as goal

pub returns : goal.returns
returns c = c.eq.ensures
