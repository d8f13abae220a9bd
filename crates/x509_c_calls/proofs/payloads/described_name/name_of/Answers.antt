use Rattle.std.proofs.Common.{sym, ◌∙◌}
use Rattle.x509_c_calls.proofs.DescribedNames.{found, good, refused}
use Rattle.x509_c_calls.proofs.payloads.described_name.name_of.Goals as goal

pub returns-in-Ok-clause-found : goal.returns-in-Ok-clause-found
returns-in-Ok-clause-found c = found _ _ _ (sym c.name_tag.ensures.tag ∙ c.in-Some.is) c.in-Some.ensures.kind _ c.in-Ok.ensures.exact

pub returns-in-Ok-clause-good : goal.returns-in-Ok-clause-good
returns-in-Ok-clause-good c = good _ _ _ (sym c.name_tag.ensures.tag ∙ c.in-Some.is) c.in-Some.ensures.kind _ c.in-Ok.ensures.exact

pub returns-in-Err-clause-found : goal.returns-in-Err-clause-found
returns-in-Err-clause-found c = rw c.kind.ensures (refused _ _ _ (sym c.name_tag.ensures.tag ∙ c.in-Some.is) c.in-Some.ensures.kind _ c.in-Err.ensures.exact)
