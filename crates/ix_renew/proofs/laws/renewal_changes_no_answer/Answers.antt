use Rattle.ix_renew.proofs.Alike.{fits_of, alike}
use Rattle.ix_renew.proofs.laws.renewal_changes_no_answer.Goals as goal

pub returns : goal.returns
returns c = λ x limit history word later formed carried. alike x (fits_of x formed) limit history word later carried
