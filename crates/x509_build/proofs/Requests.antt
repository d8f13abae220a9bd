-- What a set of attributes is with one more, and what asks for extensions.
use Rattle.std.proofs.Common.{◌≡◌, ◌⊎◌, inl, inr, arith, List, [], ◌∷◌, Contains, Ok, Err, IsErrAnd, OnOk, Result, ap, sym, ◌∙◌, subst}
use Rattle.std.specs.BTreeSet.{insert_key}
use Rattle.std.specs.List.Sorted.{IsStrictlySortedBy, IsPermutation}
use Rattle.x509_build.specs.declared.error.Error.TheVariants.{Asn1, PublicKey, Signature, NonUniqueRdn, NonUniqueATV, InvalidAttribute, MissingAttributes, UnsupportedKind}
use Rattle.x509_build.specs.declared.error.Error as builder
use Rattle.x509_build.proofs.Places.{in_place}
use Rattle.x509_base.specs.declared.subject_public_key_info.SubjectPublicKeyInfo.{SubjectPublicKeyInfo}
use Rattle.x509_build.specs.RequestParts.{NameList, extension_request, next_part, part_of, RefusesRequest}
use Rattle.x509_build.specs.Answer.{Gives, IsRefused}
use Rattle.x509_build.specs.Refusals.{LacksMemory}
use Rattle.x509_cert.specs.Attributes.{HoldsAlone}
use Rattle.x509_cert.specs.Identifiers.{pkcs_9}
use Rattle.x509_cert.specs.declared.request.cert_req.CertReqInfo.{CertReqInfo}
use Rattle.x509_der.specs.Element.{limit}
use Rattle.x509_der.specs.FrontLaws.{element_is}
use Rattle.x509_der.specs.Tag.{octet_of}
use Rattle.x509_der.specs.TagReading.{same_tag}
use Rattle.x509_der.specs.declared.error.Error.{Error}
use Rattle.x509_der.specs.declared.error.ErrorKind.TheVariants.{Memory, SetDuplicate}
use Rattle.x509_der.specs.declared.tag.Tag.TheVariants.{Sequence}
use Rattle.x509_der.specs.declared.any.Any.{Any}
use Rattle.x509_der.specs.Writing.{plain, writes, IsWritable}
use Rattle.x509_der.specs.Ordered.{der_lawful}
use Rattle.x509_ext.specs.Extension.{extensions}
use Rattle.x509_ext.specs.declared.extension.Extension.{Extension}
use Rattle.x509_name.specs.Attribute.{attribute, attribute_cmp, attribute_order, attribute_ordered}
use Rattle.x509_name.specs.declared.attr.attribute.Attribute.{Attribute}

-- what a set says when it takes a member
pub added : (answer : Result Unit Error) (old new : List Attribute) (item : Attribute) → IsStrictlySortedBy attribute_cmp old → OnOk answer (IsPermutation (item ∷ old) new) → IsStrictlySortedBy attribute_cmp new → (Contains old item → IsErrAnd answer (λ e. e.kind ≡ SetDuplicate)) → OnOk answer ((¬ Contains old item) × (new ≡ insert_key attribute_cmp old item))
added (Ok u) old new item s p t d =
    let lawful = der_lawful attribute (writes plain) attribute_order attribute_ordered in
    let fresh : ¬ Contains old item = λ c. d c in
    (fresh, in_place lawful.total lawful.exact old new item s fresh p t)
added (Err e) old new item s p t d = tt

-- there is one attribute whose one value is the extensions
pub asks : (asked : List Extension) (made : Attribute) → HoldsAlone (pkcs_9 14) extensions (writes plain asked) made → made ≡ extension_request asked
asks asked made h =
    let e = element_is (octet_of h.value.tag) (octet_of Sequence) h.value.value (extensions.content asked) h.encoded in
    let tag = same_tag h.value.tag Sequence e.0 in
    let value : h.value ≡ record { tag = Sequence; value = extensions.content asked } = λ i. record { tag = tag i; value = e.1 i } in
    h.alone ∙ ap (λ (v : Any). record { oid = pkcs_9 14; values = v ∷ [] }) value

-- what can be written, and isn't there, isn't refused
pub not_refused : (old : List Attribute) (asked : List Extension) → IsWritable extensions (writes plain asked) limit → (¬ Contains old (extension_request asked)) → (e : builder.Error) × RefusesRequest old asked e → ⊥
not_refused old asked writable fresh (Asn1 e, r) = elim r [
  | inl u ↦ elim u [ inl refusal ↦ absurd (let x = refusal in cc) | inr long ↦ absurd (omega (arith, long.1, writable.1)) ]
  | inr d ↦ fresh d.1
]
not_refused old asked writable fresh (PublicKey e, r) = r
not_refused old asked writable fresh (Signature e, r) = r
not_refused old asked writable fresh (NonUniqueRdn, r) = r
not_refused old asked writable fresh (NonUniqueATV, r) = r
not_refused old asked writable fresh (InvalidAttribute oid, r) = r
not_refused old asked writable fresh (MissingAttributes, r) = r
not_refused old asked writable fresh (UnsupportedKind, r) = r

module _ (subject : NameList) (key : SubjectPublicKeyInfo) (attributes : List Attribute) (asked : List Extension) (made : Attribute) (h : HoldsAlone (pkcs_9 14) extensions (writes plain asked) made) where
  is : made ≡ extension_request asked
  is = asks asked made h

  -- a part with what was added is the next
  pub made_part : (new : List Attribute) → IsWritable extensions (writes plain asked) limit → (¬ Contains attributes made) × (new ≡ insert_key attribute_cmp attributes made) → (part_of subject key new ≡ (next_part subject attributes asked key).value) × (IsRefused (next_part subject attributes asked key) → ⊥)
  made_part new writable put = (
    ap (part_of subject key) (put.1 ∙ ap (insert_key attribute_cmp attributes) is),
    not_refused attributes asked writable (subst (λ x. ¬ Contains attributes x) is put.0),
  )

  -- where the set refuses, so is the next part refused
  pub refused_part : (refusal : Error) (answer : Result CertReqInfo builder.Error) → IsErrAnd answer (λ e. e ≡ Asn1 refusal) → (refusal.kind ≡ Memory) ⊎ ((refusal.kind ≡ SetDuplicate) × Contains attributes made) → Gives (λ part. part) (next_part subject attributes asked key) answer
  refused_part refusal (Ok part) told why = absurd told
  refused_part refusal (Err e) told why = subst (λ x. LacksMemory x ⊎ RefusesRequest attributes asked x) (sym told) (elim why [
    | inl memory ↦ inl memory
    | inr there ↦ inr (inr (there.0, subst (λ x. Contains attributes x) is there.1))
  ])
