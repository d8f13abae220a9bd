use Rattle.std.proofs.Common.{Bool, true, false, refl, subst, sym}
use Rattle.std.specs.List.{All}
use Rattle.x509_revocation.specs.Crls.{HasList, entries_of}
use Rattle.x509_revocation.specs.Entries.{IsUsable}
use Rattle.x509_revocation.specs.Points.{is_indirect}
use Rattle.x509_revocation.proofs.Faulty.{by_list}
use Rattle.x509_revocation.proofs.Signed.{never}
use Rattle.x509_revocation.proofs.steps.Asked.has_usable_entries.Goals as goal

pub returns-in-Ok-Some : goal.returns-in-Ok-Some
returns-in-Ok-Some g c = λ certificate all given lends lent.
    let listed : HasList given.crl c.in-Some.list = rw c.in-Some.is at (c.in_ok-listed.ensures given.crl lent) in
    let looked = rw c.in-Ok-Some.field-0-is at (c.in-Ok-Some.ensures certificate given.crl lends lent) in
    by_list given.crl (λ list. All (IsUsable (is_indirect list)) (entries_of given.crl)) c.in-Some.list true listed
    ((λ is. subst (λ (b : Bool). All (IsUsable b) (entries_of given.crl)) c.is_indirect.ensures looked.0), (λ usable. refl))

pub returns-in-Ok-None : goal.returns-in-Ok-None
returns-in-Ok-None g c = λ certificate all given lends lent.
    let listed : HasList given.crl c.in-Some.list = rw c.in-Some.is at (c.in_ok-listed.ensures given.crl lent) in
    let none = rw c.in-Ok-None.field-0-is at (c.in-Ok-None.ensures certificate given.crl lends lent) in
    by_list given.crl (λ list. All (IsUsable (is_indirect list)) (entries_of given.crl)) c.in-Some.list false listed
    (never (λ usable. none (subst (λ (b : Bool). All (IsUsable b) (entries_of given.crl)) (sym c.is_indirect.ensures) usable)))
