use Rattle.std.proofs.Common.{length, refl, ap, inl, inr, ◌∙◌, arith, length-append}
use Rattle.x509_base.specs.Checked.{CheckRefuses}
use Rattle.x509_base.specs.Profiles.{rfc5280_serial_number}
use Rattle.x509_base.specs.declared.profile.Rfc5280.{Rfc5280}
use Rattle.x509_c_calls.proofs.EntryCounts.{entry_form}
use Rattle.x509_c_calls.proofs.FoundEntries.{good_in, later, nowhere, octets_are, read_is, refused_entry}
use Rattle.x509_c_calls.proofs.Walks.{left_fits, stands}
use Rattle.x509_c_calls.proofs.crl.find.find_entry.Goals as goal
use Rattle.x509_c_calls.specs.FoundEntry.{FindsEntry}
use Rattle.x509_cert.specs.RevokedCert.{revoked_cert_lawful}
use Rattle.x509_der.specs.FrameLaws.{field_sound}

pub returns-in-Err : goal.returns-in-Err
unfolding FindsEntry
returns-in-Err c = (nowhere (CheckRefuses rfc5280_serial_number) _ _ c.in-Err.ensures.err, refl)

pub returns-in-Ok-None : goal.returns-in-Ok-None
unfolding FindsEntry
returns-in-Ok-None c =
    let e = rw c.in-Ok-None.field-0-is at c.in-Ok-None.ensures in
    (λ values spells. e.found values (octets_are _ _ c.in-Ok.ensures.ok values spells), refl)

pub returns-in-Err-find_octets : goal.returns-in-Err-find_octets
unfolding FindsEntry
returns-in-Err-find_octets c =
    let e = c.in-Err-find_octets.ensures in
    let l = c.in-Ok.ensures.ok in
    rw c.into.ensures (inr (inr (l.within, inl e.err, λ values spells. e.found values (octets_are _ _ l values spells))), refl)

pub overflow_sub-place : goal.overflow_sub-place
overflow_sub-place c =
    let w = (rw c.in-Ok-Some.field-0-is at c.in-Ok-Some.ensures).within in
    omega (arith, left_fits _ _ _ _ c.in-Ok.ensures.ok, ap length w.1, length-append w.0 c.in-Ok-Some.rest.now)

pub returns-in-Ok-read_field : goal.returns-in-Ok-read_field
unfolding FindsEntry
returns-in-Ok-read_field c =
    let l = c.in-Ok.ensures.ok in
    let e = rw c.in-Ok-Some.field-0-is at c.in-Ok-Some.ensures in
    let rest = c.in-Ok-Some.rest.now in
    let entry = c.in-Ok-read_field.entry in
    let more = c.read_field.new.rest.now in
    let read = c.in-Ok-read_field.ensures.exact in
    let lawful = revoked_cert_lawful {P = Rfc5280} rfc5280_serial_number in
    let place = stands _ _ _ _ (later _ _ l e.within.0 rest e.within.1) in (
      entry,
      more,
      c.view.ensures more (place ∙ (field_sound entry_form lawful rest entry more read).1),
      λ values spells.
          let (before, first, others, split, is_first, here) = e.found values (octets_are _ _ l values spells) in
          let good = good_in before first others (rw split at spells.0) in
          rw (read_is lawful first entry others rest more good here read) at is_first,
    )

pub returns-in-Err-read_field : goal.returns-in-Err-read_field
unfolding FindsEntry
returns-in-Err-read_field c =
    let l = c.in-Ok.ensures.ok in
    let e = rw c.in-Ok-Some.field-0-is at c.in-Ok-Some.ensures in
    let lawful = revoked_cert_lawful {P = Rfc5280} rfc5280_serial_number in
    rw c.into-in-Err-read_field.ensures (
    elim (refused_entry lawful c.in-Ok-Some.rest.now c.in-Err-read_field.e.kind c.in-Err-read_field.ensures.exact) [
      | inl memory ↦ (inl memory, refl)
      | inr other ↦ (
        inr (inr (
          l.within,
          other.0,
          λ values spells.
              let (before, first, others, split, is_first, here) = e.found values (octets_are _ _ l values spells) in
              other.1 first others (good_in before first others (rw split at spells.0)) here,
        )),
        refl,
      )
    ]
    )
