use Rattle.std.proofs.Common.{◌↔◌, ◌∙◌, ap, not, [], List, Some, subst, sym}
use Rattle.std.proofs.lemmas.Bool.{true≢false}
use Rattle.std.specs.Bool.{IsTrue}
use Rattle.x509_base.specs.Profiles.{rfc5280_serial_number}
use Rattle.x509_base.specs.declared.profile.Rfc5280.{Rfc5280}
use Rattle.x509_check.specs.CrlRefs.{FindsInList, entries_in, lent_entry}
use Rattle.x509_ext.specs.LookUp.{members}
use Rattle.x509_ext.specs.declared.extension.Extension.{Extension}
use Rattle.x509_path.proofs.Lent as certificates
use Rattle.x509_revocation.specs.Crls.{Entry, entries_of}
use Rattle.x509_revocation.specs.Entries.{FindsAmong, IsIssuer, IsUsable, listed_behind}
use Rattle.x509_revocation.specs.LentEntries.{Settles}
use Rattle.x509_revocation.proofs.Looks.{breaks, passes, whole_for}
use Rattle.x509_revocation.proofs.Parts.{issuer_spells}
use Rattle.x509_revocation.proofs.Plain.{all_usable, finds_none, finds_plain, none_is}
use Rattle.x509_revocation.proofs.Settled.{of_entry}
use Rattle.x509_revocation.proofs.Seeks.{another, first, kept, starts}
use Rattle.x509_revocation.proofs.entries.find_entry.Goals as goal
use Rattle.x509_revocation.proofs.entries.find_entry.Goals.{else-is_none-via-then-is_none+else-is_of, else-is_none-via-else-is_none}

pub returns-then-not-is_issuer : goal.returns-then-not-is_issuer
returns-then-not-is_issuer c = λ certificate list lends spells.
    let none = none_is _ _ (c.has_plain_entries.ensures list spells) c.if-has_plain_entries.true in
    let name = certificates.issuer_spells certificate c.args.certificate.now.bytes.now lends c.issuer-2.result.now (c.issuer-2.ensures certificate lends) in
    let own = issuer_spells list c.args.crl.now.bytes.now spells c.issuer.result.now (c.issuer.ensures list spells) in
    let same = c.in_ok-is_issuer.ensures list.tbs_cert_list.issuer certificate.tbs_certificate.issuer own name in
    (all_usable c.args.is_indirect (entries_of list) none, finds_none certificate list (entries_of list) none (λ issuer. true≢false (sym (same.1 issuer) ∙ c.if-not-is_issuer.true)))

pub returns-then-has_plain_entries : goal.returns-then-has_plain_entries
returns-then-has_plain_entries c = λ certificate list lends spells.
    let none = none_is _ _ (c.has_plain_entries.ensures list spells) c.if-has_plain_entries.true in
    let name = certificates.issuer_spells certificate c.args.certificate.now.bytes.now lends c.issuer-2.result.now (c.issuer-2.ensures certificate lends) in
    let own = issuer_spells list c.args.crl.now.bytes.now spells c.issuer.result.now (c.issuer.ensures list spells) in
    let same = c.in_ok-is_issuer.ensures list.tbs_cert_list.issuer certificate.tbs_certificate.issuer own name in
    let found = subst (λ number. FindsInList number list c.find.result) (c.serial_number-serial_number.ensures certificate lends) (c.find.ensures list spells) in
    (all_usable c.args.is_indirect (entries_of list) none, finds_plain certificate list (entries_of list) c.find.result none (same.0 c.if-not-is_issuer.false) found)

pub loop-entry-init : goal.loop-entry-init
loop-entry-init c = λ certificate list lends spells.
    let all = c.entries-entries.ensures list spells in
    let name = certificates.issuer_spells certificate c.args.certificate.now.bytes.now lends c.issuer-2.result.now (c.issuer-2.ensures certificate lends) in
    let own = issuer_spells list c.args.crl.now.bytes.now spells c.issuer.result.now (c.issuer.ensures list spells) in
    let left = entries_in {P = Rfc5280} rfc5280_serial_number c.entries-entries.result.rest.now in (
      whole_for (IsUsable c.args.is_indirect) left (entries_of list) all,
      starts certificate list c.in_ok-is_issuer.is_issuer left (c.in_ok-is_issuer.ensures list.tbs_cert_list.issuer certificate.tbs_certificate.issuer own name)
          (λ answer finds. subst (λ (entries : List Entry). FindsAmong certificate list (listed_behind [] entries) answer) all finds),
    )

pub returns-in_default-here : goal.returns-in_default-here
returns-in_default-here c = λ certificate list lends spells.
    let left = entries_in {P = Rfc5280} rfc5280_serial_number c.loop-entry.entries.rest.now in
    let rest = entries_in {P = Rfc5280} rfc5280_serial_number c.next_undated.new.self.rest.now in
    let before = c.loop-entry.invariant certificate list lends spells in
    let front = c.in-Some.ensures in
    let told = of_entry c.args.is_indirect list.tbs_cert_list.issuer certificate.tbs_certificate.issuer before.1.0 _ _ _ front.2.extensions_are (c.in_ok-here.ensures certificate list.tbs_cert_list.issuer before.1.0 lends before.1.1) in
    breaks (IsUsable c.args.is_indirect) front.0 left rest (entries_of list) front.1 (rw c.in_default-here.is at told) before.0

pub loop-entry-preserved-then-is_of : goal.loop-entry-preserved-then-is_of
loop-entry-preserved-then-is_of c = λ certificate list lends spells.
    let left = entries_in {P = Rfc5280} rfc5280_serial_number c.loop-entry.entries.rest.now in
    let rest = entries_in {P = Rfc5280} rfc5280_serial_number c.next_undated.new.self.rest.now in
    let before = c.loop-entry.invariant certificate list lends spells in
    let front = c.in-Some.ensures in
    let settled = λ (issuers : List Extension) (same : IsTrue c.loop-entry.is_issuer ↔ IsIssuer list.tbs_cert_list.issuer certificate.tbs_certificate.issuer issuers).
    (let told = of_entry c.args.is_indirect list.tbs_cert_list.issuer certificate.tbs_certificate.issuer issuers _ _ _ front.2.extensions_are (c.in_ok-here.ensures certificate list.tbs_cert_list.issuer issuers lends same) in
    let is : Settles c.args.is_indirect list.tbs_cert_list.issuer certificate.tbs_certificate.issuer issuers (members front.0.crl_entry_extensions) (Some c.in-Some-here.is_here) = rw c.in-Some-here.is at told in
    is) in
    let of = c.is_of.ensures.0 c.if-is_of.true in (
      passes (IsUsable c.args.is_indirect) front.0 left rest (entries_of list) front.1 (settled before.1.0 before.1.1).0 before.0,
      rw (c.dated.ensures front.0 front.2.read) (first certificate list lent_entry c.loop-entry.is_issuer c.in-Some-here.is_here front.0 left rest front.1
          (λ issuers same. (settled issuers same).1)
          c.loop-entry.found (c.is_none.ensures ∙ ap not c.if-is_none.true) (of.0, sym front.2.number_is ∙ of.1 ∙ c.serial_number-serial_number.ensures certificate lends) before.1),
    )

pub loop-entry-preserved : goal.loop-entry-preserved
loop-entry-preserved c = λ certificate list lends spells.
    let left = entries_in {P = Rfc5280} rfc5280_serial_number c.loop-entry.entries.rest.now in
    let rest = entries_in {P = Rfc5280} rfc5280_serial_number c.next_undated.new.self.rest.now in
    let before = c.loop-entry.invariant certificate list lends spells in
    let front = c.in-Some.ensures in
    let settled = λ (issuers : List Extension) (same : IsTrue c.loop-entry.is_issuer ↔ IsIssuer list.tbs_cert_list.issuer certificate.tbs_certificate.issuer issuers).
    (let told = of_entry c.args.is_indirect list.tbs_cert_list.issuer certificate.tbs_certificate.issuer issuers _ _ _ front.2.extensions_are (c.in_ok-here.ensures certificate list.tbs_cert_list.issuer issuers lends same) in
    let is : Settles c.args.is_indirect list.tbs_cert_list.issuer certificate.tbs_certificate.issuer issuers (members front.0.crl_entry_extensions) (Some c.in-Some-here.is_here) = rw c.in-Some-here.is at told in
    is) in (
      passes (IsUsable c.args.is_indirect) front.0 left rest (entries_of list) front.1 (settled before.1.0 before.1.1).0 before.0,
      elim c.else-is_none.branch [
        | else-is_none-via-then-is_none+else-is_of w ↦ another certificate list lent_entry c.loop-entry.is_issuer c.in-Some-here.is_here front.0 left rest front.1
            (λ issuers same. (settled issuers same).1)
            c.loop-entry.found (c.is_none.ensures ∙ ap not w.if-is_none.true)
            (λ of. true≢false (sym (w.is_of.ensures.1 (of.0, front.2.number_is ∙ of.1 ∙ sym (c.serial_number-serial_number.ensures certificate lends))) ∙ w.if-is_of.false)) before.1
        | else-is_none-via-else-is_none w ↦ kept certificate list lent_entry c.loop-entry.is_issuer c.in-Some-here.is_here front.0 left rest front.1
            (λ issuers same. (settled issuers same).1)
            c.loop-entry.found (c.is_none.ensures ∙ ap not w.if-is_none.false) before.1
      ],
    )
