-- The TBSCertificate of a precertificate, as a log has it and signs it (RFC 6962 3.2).
use Rattle.std.specs.Prelude.{◌≡◌, ◌≤◌, ℕ, List, [], ◌∷◌, ◌++◌, length, map, bytes_eq, Option, Some, None, option_map, ◌⊎◌, if◌then◌else◌, refl}
use Rattle.std.proofs.Common.{arith}
use Rattle.x509_cert.specs.Elements.{TbsElements, behind_octets, front_octets, tbs_elements}
use Rattle.x509_cert.specs.Without.{where_any, without_oid}
use Rattle.x509_cert.specs.declared.certificate.tbs_certificate.TbsCertificateInner.{TbsCertificateInner}
use Rattle.x509_der.specs.Element.{element}
use Rattle.x509_der.specs.Form.{Form as DerForm, spelling}
use Rattle.x509_der.specs.Frames.{optional_octets}
use Rattle.x509_ext.specs.Extension.{extension}
use Rattle.x509_ext.specs.Identifiers.{id_ce}
use Rattle.x509_ext.specs.LookUp.{members, with_oid}
use Rattle.x509_ext.specs.declared.extension.Extension.{Extension}
use Rattle.x509_log.specs.declared.error.LogError.{LogError}
use Rattle.x509_log.specs.declared.error.LogError.TheVariants.{Absent, Repeated}
use Rattle.x509_log.specs.declared.members.KeyIdentifier.{KeyIdentifier}
use Rattle.x509_log.specs.declared.members.Members.{Members}
use Rattle.x509_log.specs.declared.part.LoggedPart.{LoggedPart}
use Rattle.x509_sct.specs.Identifier.{embedded_timestamps, precertificate_poison}

-- The value without the extensions of an OID; all else is as it was. Where no extension is left the field is absent: Extensions has one member at
-- least (RFC 5280 4.1).
abbrev pub without : {P : Type 0} → List ℕ → TbsCertificateInner P → TbsCertificateInner P
without oid part = record part { extensions = where_any (without_oid oid (members part.extensions)) }

-- of a certificate, and of a precertificate
abbrev pub without_timestamps : {P : Type 0} → TbsCertificateInner P → TbsCertificateInner P
without_timestamps part = without embedded_timestamps part

abbrev pub without_poison : {P : Type 0} → TbsCertificateInner P → TbsCertificateInner P
without_poison part = without precertificate_poison part

-- The certificate and the precertificate say the same but for the SCTs and the poison: their other fields are equal, and so are their other
-- extensions, in their order.
abbrev pub AgreeButFor : {P : Type 0} → TbsCertificateInner P → TbsCertificateInner P → Type 0
AgreeButFor {P} certificate precertificate =
    (let bare : TbsCertificateInner P = record certificate { extensions = None } in bare ≡ record precertificate { extensions = None })
    × (without_oid embedded_timestamps (members certificate.extensions) ≡ without_oid precertificate_poison (members precertificate.extensions))

-- it has the extension exactly once
abbrev pub HasOne : {P : Type 0} → List ℕ → TbsCertificateInner P → Type 0
HasOne oid part = length (with_oid oid (members part.extensions)) ≡ 1

-- it hasn't the extension, or has it twice or more
abbrev pub Refuses : {P : Type 0} → List ℕ → TbsCertificateInner P → LogError → Type 0
Refuses oid part e =
    ((e ≡ Absent) × (with_oid oid (members part.extensions) ≡ []))
    ⊎ ((e ≡ Repeated) × (2 ≤ length (with_oid oid (members part.extensions))))

-- ---- under the final issuer (RFC 6962 3.1, 3.2)

-- the content octets of 2.5.29.35 (RFC 5280 4.2.1.1)
abbrev pub authority_key_identifier : List ℕ
authority_key_identifier = id_ce 35

-- an extension, with that value where it has the OID
abbrev pub valued : List ℕ → List ℕ → Extension → Extension
valued oid value e = if bytes_eq e.extn_id oid then record e { extn_value = value } else e

-- the extensions, in which those of the OID have that value
abbrev pub with_value : List ℕ → List ℕ → List Extension → List Extension
with_value oid value extensions = map (valued oid value) extensions

-- the extensions, in which the authority key identifier has the value of the first of these, where there is any
abbrev pub identified_as : List Extension → List Extension → List Extension
identified_as [] extensions = extensions
identified_as (key ∷ keys) extensions = with_value authority_key_identifier key.extn_value extensions

-- The precertificate as the final issuer would have issued it: that has the name and the key of the issuer of the precertificate signing certificate, so
-- the issuer is that certificate's, and the authority key identifier has the value that it has there. All else is as it was.
abbrev pub reissued : {P : Type 0} → TbsCertificateInner P → TbsCertificateInner P → TbsCertificateInner P
reissued signing part = record part {
  issuer = signing.issuer;
  extensions = option_map (identified_as (with_oid authority_key_identifier (members signing.extensions))) part.extensions;
}

-- The precertificate has no authority key identifier, or both have one: where the precertificate has it, the signing certificate has to have it too.
abbrev pub AreIdentified : List Extension → List Extension → Type 0
AreIdentified own above =
    (with_oid authority_key_identifier own ≡ [])
    ⊎ ((length (with_oid authority_key_identifier own) ≡ 1) × (length (with_oid authority_key_identifier above) ≡ 1))

-- It has one, and the signing certificate has none, or two or more; or it has two or more itself.
abbrev pub RefusesKeys : List Extension → List Extension → LogError → Type 0
RefusesKeys own above e =
    ((e ≡ Absent) × (length (with_oid authority_key_identifier own) ≡ 1) × (with_oid authority_key_identifier above ≡ []))
    ⊎ ((e ≡ Repeated) × ((2 ≤ length (with_oid authority_key_identifier own))
    ⊎ ((length (with_oid authority_key_identifier own) ≡ 1) × (2 ≤ length (with_oid authority_key_identifier above)))))

-- The octets are the encoding of the precertificate under the final issuer, without its poison, whatever their length.
pub record IsReissued {P : Type 0} (form : DerForm (TbsCertificateInner P)) (part signing : TbsCertificateInner P) (bytes : List ℕ) : Type 0 where
  pub one : HasOne precertificate_poison part
  pub keys : AreIdentified (members part.extensions) (members signing.extensions)
  pub good : form.good (without_poison (reissued signing part))
  pub is : bytes ≡ spelling form (without_poison (reissued signing part))

-- why there are none: no poison or two, or what is wrong with the key identifiers
abbrev pub RefusesReissue : {P : Type 0} → TbsCertificateInner P → TbsCertificateInner P → LogError → Type 0
RefusesReissue part signing e = Refuses precertificate_poison part e ⊎ (HasOne precertificate_poison part × RefusesKeys (members part.extensions) (members signing.extensions) e)

-- ---- by its octets

-- one SEQUENCE of these elements (RFC 5280 4.1.2)
abbrev pub tbs_octets : TbsElements → List ℕ
tbs_octets e = element 0x30 (front_octets e ++ behind_octets e)

-- the list of these members; none where there are none
abbrev pub list_of_members : List ℕ → Option (List ℕ)
list_of_members [] = None
list_of_members (b ∷ members) = Some (element 0x30 (b ∷ members))

-- an authority key identifier with that criticality and value
abbrev pub identifier_of : KeyIdentifier → Extension
identifier_of k = record { extn_id = authority_key_identifier; critical = k.critical; extn_value = k.value.now }

-- one that stands in the place of another, or nothing
abbrev pub changed_octets : Option KeyIdentifier → List ℕ
changed_octets changed = optional_octets (λ k. spelling extension (identifier_of k)) changed

-- the members before the first place, between the two, and behind the second one, with what stands at the places
abbrev pub member_octets : Members → List ℕ
member_octets m = m.before.now ++ (changed_octets m.first ++ (m.between.now ++ (changed_octets m.second ++ m.behind.now)))

-- the fields but for the issuer and the extensions
abbrev pub bare : TbsElements → TbsElements
bare t = record t { issuer = []; extensions = None }

-- the fields as they stand, and those members
abbrev pub part_octets : LoggedPart → List ℕ
part_octets p = tbs_octets (record (tbs_elements p.fields) { extensions = list_of_members (member_octets p.members) })

-- ---- whether there are members

pub no_list : (members : List ℕ) → length members ≡ 0 → list_of_members members ≡ None
no_list [] e = refl
no_list (b ∷ members) e = absurd (omega arith)

pub some_list : (members : List ℕ) → 1 ≤ length members → list_of_members members ≡ Some (element 0x30 members)
some_list [] e = absurd (omega arith)
some_list (b ∷ members) e = refl
