use Rattle.session.proofs.report.refusal_text.Goals as goal

pub returns-in-MissingModule : goal.returns-in-MissingModule
returns-in-MissingModule c = rw c.in-MissingModule.is c.missing_text.ensures
