use Rattle.std.proofs.Common.{refl}
use Rattle.x509_c_lint.proofs.FindingPlaces.{told-found, told-stands}
use Rattle.x509_c_lint.proofs.finding.finding_next.Goals as goal

pub returns-in-Some-clause-told : goal.returns-in-Some-clause-told
returns-in-Some-clause-told c = λ word seen more rule unquoted e.
    (refl, told-found _ _ _ _ _ _ c.in-Some.ensures.2 word seen more rule unquoted e)

pub returns-in-None-clause-told : goal.returns-in-None-clause-told
returns-in-None-clause-told c = λ word seen more rule unquoted e.
    absurd (told-stands c.args.lines.now c.args.at.now c.in-None.ensures word seen more rule unquoted e)
