use Rattle.ex_scopes.proofs.declarations.Declarations.attribute.Goals as goal

pub returns : goal.returns
returns c = rw (← c.self.view_is) c.meaning.ensures
