use Rattle.std.proofs.Common.{◌≡◌, ◌∙◌, inl, inr, Bool, [], ◌∷◌, ap, subst, sym}
use Rattle.std.proofs.lemmas.Slice.Eq.{bytes_eq-Decides}
use Rattle.x509_der.specs.Form.{Spells}
use Rattle.x509_ext.specs.Identifiers.{id_ce}
use Rattle.x509_ext.specs.LookUp.{members, with_oid}
use Rattle.x509_ext.specs.SubjectKeyIdentifier.{subject_key_identifier}
use Rattle.x509_ext.specs.declared.pkix.subject_key_identifier.SubjectKeyIdentifier.{SubjectKeyIdentifier}
use Rattle.x509_path_steps.proofs.Values.{same_value, value_of}
use Rattle.x509_path_steps.proofs.trusted_buf.has_key_id.Goals as goal

pub returns-in-Ok-Some : goal.returns-in-Ok-Some
returns-in-Ok-Some c =
    let es = with_oid (id_ce 14) (members c.args.signed.now.extensions) in
    let found = c.in-Ok-Some.found in
    let pair : Bool × SubjectKeyIdentifier = (c.in-Ok-Some.field-0-0-0, found) in
    let there = value_of subject_key_identifier _ _ es c.in-Ok-Some.field-0 pair c.in-Ok-Some.field-0-is c.in-Ok-Some.ensures in
    let equal = bytes_eq-Decides found.0 c.args.key_id.now in
    rw c.eq.ensures (
      (λ yes. inr (there.0, there.1, subst (λ k. Spells subject_key_identifier (record { 0 = k }) there.0.extn_value) (equal.0 yes) there.2)),
      (λ has. elim has [
        | inl none ↦ absurd (let e : there.0 ∷ [] ≡ [] = sym there.1 ∙ none in cc)
        | inr some ↦ equal.1 (ap (λ (k : SubjectKeyIdentifier). k.0) (same_value subject_key_identifier _ _ es c.in-Ok-Some.field-0 pair _ c.in-Ok-Some.field-0-is c.in-Ok-Some.ensures some.0 some.1 some.2))
      ]),
    )
