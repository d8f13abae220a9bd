use Rattle.std.proofs.Common.{length, refl, inl, inr, ◌∙◌, ◌++◌, sym, ap, arith, length-drop, take}
use Rattle.std.proofs.lemmas.List.{take-append-drop}
use Rattle.x509_base.specs.Checked.{CheckRefuses}
use Rattle.x509_base.specs.Profiles.{rfc5280_serial_number}
use Rattle.x509_base.specs.declared.profile.Rfc5280.{Rfc5280}
use Rattle.x509_c_calls.proofs.CrlIndexes.{first_indexed, index_is, none_indexed, nowhere_indexed, number_is, some_indexed, unread}
use Rattle.x509_c_calls.proofs.EntryCounts.{entry_form}
use Rattle.x509_c_calls.proofs.FoundEntries.{later}
use Rattle.x509_c_calls.proofs.Walks.{left_fits, stands}
use Rattle.x509_c_calls.specs.CrlIndexes.{FindsByIndex}
use Rattle.x509_cert.specs.RevokedCert.{revoked_cert_lawful}
use Rattle.x509_der.specs.FrameLaws.{field_sound}
use Rattle.x509_der.specs.Frames.{field_at}
use Rattle.x509_c_calls.proofs.crl.index.find_by_index.Goals as goal

pub returns-in-Err : goal.returns-in-Err
unfolding FindsByIndex
returns-in-Err c = (nowhere_indexed (CheckRefuses rfc5280_serial_number) _ _ _ c.in-Err.ensures.err, refl)

pub returns-in_default : goal.returns-in_default
unfolding FindsByIndex
returns-in_default c =
    let l = c.in-Ok.ensures.ok in
    (λ values indexed. none_indexed _ _ l _ values indexed _ (c.in_default.ensures.first (index_is _ _ l _ values indexed)), refl)

pub overflow_sub-place : goal.overflow_sub-place
overflow_sub-place c =
    omega (arith, left_fits _ _ _ _ c.in-Ok.ensures.ok, ap length c.octets_at-rest.ensures, length-drop c.in-Some.place c.in-Ok.octets.now)

pub returns-in-Ok-read_field : goal.returns-in-Ok-read_field
unfolding FindsByIndex
returns-in-Ok-read_field c =
    let l = c.in-Ok.ensures.ok in
    let octets = c.in-Ok.octets.now in
    let at = c.in-Some.place in
    let rest = c.octets_at-rest.result.now in
    let entry = c.in-Ok-read_field.entry in
    let more = c.read_field.new.rest.now in
    let read = c.in-Ok-read_field.ensures.exact in
    let here = ap (field_at entry_form.reading) (sym c.octets_at-rest.ensures) ∙ read in
    let passed = sym (take-append-drop at octets) ∙ ap (λ x. take at octets ++ x) (sym c.octets_at-rest.ensures) in
    let place = stands _ _ _ _ (later _ _ l (take at octets) rest passed) in (
      entry,
      more,
      c.view.ensures more (place ∙ (field_sound entry_form (revoked_cert_lawful {P = Rfc5280} rfc5280_serial_number) rest entry more read).1),
      number_is octets _ more at entry c.in-Some.ensures.number here,
      λ values indexed. first_indexed _ _ l _ values indexed _ at (c.in-Some.ensures.first (index_is _ _ l _ values indexed)) entry more here,
    )

pub returns-in-Err-read_field : goal.returns-in-Err-read_field
unfolding FindsByIndex
returns-in-Err-read_field c =
    let l = c.in-Ok.ensures.ok in
    rw c.into.ensures (
    elim (unread c.octets_at-rest.result.now c.in-Err-read_field.e.kind c.in-Err-read_field.ensures.exact) [
      | inl memory ↦ (inl memory, refl)
      | inr other ↦ (
        inr (inr (
          l.within,
          other.0,
          λ values indexed.
              some_indexed _ _ l _ values indexed _ c.in-Some.place (c.in-Some.ensures.first (index_is _ _ l _ values indexed)) _
              (ap (field_at entry_form.reading) (sym c.octets_at-rest.ensures) ∙ other.1),
        )),
        refl,
      )
    ]
    )
