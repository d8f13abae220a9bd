use Rattle.std.proofs.Common.{◌≡◌, refl, ap, ◌∙◌}
use Rattle.x509_der.specs.SpellingLaws.{values}
use Rattle.x509_der.specs.Form.{spelling}
use Rattle.x509_der.specs.Writing.{writes}
use Rattle.x509_der.proofs.laws.writing_again_gives_the_same.Goals as goal

-- the value that is read is the one that was written
pub returns : goal.returns
returns g c = λ stable v w good free spells.
    let form = g.T.Grammar.form in
    let writing = g.T.Encode.writing in
    let written = (writes writing v).value in
    let same : w ≡ written = values form g.met.T.Grammar.lawful w written (spelling form written) spells (stable.kept v good free, refl, spells.2) in
    let again = ap (writes writing) same ∙ stable.again v good free in
    (ap (λ r. r.refusal) again, ap (λ r. spelling form r.value) again)
