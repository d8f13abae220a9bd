-- A precertificate under the final issuer, without its poison, by its elements.
use Rattle.std.proofs.Common.{◌≡◌, inl, inr, ℕ, true, List, [], ◌∷◌, ◌++◌, length, bytes_eq, Option, Some, None, IfSome, Result, option_map, refl, sym, ap, ◌∙◌, subst}
use Rattle.std.proofs.lemmas.Bool.{cases_Bool}
use Rattle.x509_cert.proofs.CertificateSignedPart.{stands}
use Rattle.x509_cert.specs.Certificate.{certificate}
use Rattle.x509_cert.specs.Elements.{TbsElements, tbs_elements}
use Rattle.x509_cert.specs.Spellings.{tbs_spellings}
use Rattle.x509_cert.specs.TbsCertificate.{tbs_certificate, tbs_certificate_fields}
use Rattle.x509_cert.specs.Without.{where_any, without_oid}
use Rattle.x509_cert.specs.declared.certificate.certificate.CertificateInner.{CertificateInner}
use Rattle.x509_cert.specs.declared.certificate.tbs_certificate.TbsCertificateInner.{TbsCertificateInner}
use Rattle.x509_cert.specs.declared.signed.certificate_slices.TbsCertificateSlices.{TbsCertificateSlices}
use Rattle.x509_check.specs.ExtensionRefs.{extensions_left}
use Rattle.x509_check.specs.declared.lent.extensions.ExtensionRefs.{ExtensionRefs}
use Rattle.x509_der.specs.Form.{Spells, spelling}
use Rattle.x509_der.specs.Frames.{fields_good}
use Rattle.x509_der.specs.List.{all_good, joined}
use Rattle.x509_der.specs.declared.error.ErrorKind.{ErrorKind}
use Rattle.x509_ext.specs.Extension.{extension, extension_fields, extensions}
use Rattle.x509_ext.specs.LookUp.{members, with_oid}
use Rattle.x509_ext.specs.declared.extension.Extension.{Extension}
use Rattle.x509_log.proofs.Changes.{kept_values}
use Rattle.x509_log.proofs.Cuts.{found, good_members, good_where, joined_append, left, list_is, spelling_is}
use Rattle.x509_log.specs.Around.{IsAlone}
use Rattle.x509_log.specs.Logged.{AreIdentified, HasOne, IsReissued, authority_key_identifier, bare, identified_as, list_of_members, member_octets, part_octets, reissued, tbs_octets, valued, with_value, without, without_poison}
use Rattle.x509_log.specs.declared.around.Around.{Around}
use Rattle.x509_log.specs.declared.part.LoggedPart.{LoggedPart}
use Rattle.x509_name.specs.Names.{name}
use Rattle.x509_sct.specs.Identifier.{precertificate_poison}

-- ---- good extensions stay good

good_value : (oid value : List ℕ) (e : Extension) → extension.good e → extension.good (valued oid value e)
unfolding extension_fields fields_good
good_value oid value e g =
    elim (cases_Bool (bytes_eq e.extn_id oid)) [
      | inl is ↦ rw is (g.0, (g.1.0, g.1.1))
      | inr other ↦ rw other g
    ]

good_values : (oid value : List ℕ) (xs : List Extension) → all_good extension.good xs → all_good extension.good (with_value oid value xs)
unfolding all_good
good_values oid value [] g = tt
good_values oid value (x ∷ xs) g = (good_value oid value x g.0, good_values oid value xs g.1)

good_identified : (keys : List Extension) (list : Option (List Extension)) → IfSome list extensions.good → IfSome (option_map (identified_as keys) list) extensions.good
good_identified keys None g = tt
good_identified [] (Some xs) g = g
good_identified (key ∷ keys) (Some xs) g = good_values authority_key_identifier key.extn_value xs g

good_without : (oid : List ℕ) (xs : List Extension) → all_good extension.good xs → all_good extension.good (without_oid oid xs)
unfolding all_good
good_without oid [] g = tt
good_without oid (x ∷ xs) g =
    elim (cases_Bool (bytes_eq x.extn_id oid)) [
      | inl is ↦ rw is (good_without oid xs g.1)
      | inr other ↦ rw other (g.0, good_without oid xs g.1)
    ]

-- ---- the members

members_identified : (keys : List Extension) (list : Option (List Extension)) → members (option_map (identified_as keys) list) ≡ identified_as keys (members list)
members_identified [] None = refl
members_identified (key ∷ keys) None = refl
members_identified keys (Some xs) = refl

-- none has an authority key identifier, so none gets another value
pub unidentified : (keys xs : List Extension) → with_oid authority_key_identifier xs ≡ [] → identified_as keys xs ≡ xs
unidentified [] xs none = refl
unidentified (key ∷ keys) xs none = kept_values authority_key_identifier key.extn_value xs none

pub identified : (keys xs : List Extension) (key : Extension) (value : List ℕ) → keys ≡ key ∷ [] → key.extn_value ≡ value → identified_as keys xs ≡ with_value authority_key_identifier value xs
identified keys xs key value one is = ap (λ (ks : List Extension). identified_as ks xs) one ∙ ap (λ (v : List ℕ). with_value authority_key_identifier v xs) is

pub one_of_alone : (oid : List ℕ) (all : List Extension) (around : Around) → IsAlone oid all around → length (with_oid oid all) ≡ 1
one_of_alone oid all around alone =
    let it = alone.stands in
    ap (λ (xs : List Extension). length (with_oid oid xs)) it.split
    ∙ ap length (found oid it.before it.found (extensions_left around.behind) it.first it.has
    ∙ ap (λ (l : List Extension). it.found ∷ l) alone.alone)

-- ---- the whole

-- those fields with an issuer
abbrev with_issuer : List ℕ → TbsElements → TbsElements
with_issuer issuer t = record t { issuer = issuer }

module _ {P : Type 0} (check : List ℕ → Result Unit ErrorKind) where
  good_reissued : (signing part : TbsCertificateInner P) → (tbs_certificate check).good signing → (tbs_certificate check).good part → (tbs_certificate check).good (reissued signing part)
  unfolding tbs_certificate_fields fields_good
  good_reissued signing part s g =
      let list = good_identified (with_oid authority_key_identifier (members signing.extensions)) part.extensions g.1.1.1.1.1 in
      ((g.0.0, (g.0.1.0, (g.0.1.1.0, (s.0.1.1.1.0, g.0.1.1.1.1)))), (g.1.0, (g.1.1.0, (g.1.1.1.0, (g.1.1.1.1.0, list)))))

  good_cut : (oid : List ℕ) (part : TbsCertificateInner P) → (tbs_certificate check).good part → (tbs_certificate check).good (without oid part)
  unfolding tbs_certificate_fields fields_good
  good_cut oid part g =
      let list = good_where (without_oid oid (members part.extensions)) (good_without oid (members part.extensions) (good_members part.extensions g.1.1.1.1.1)) in
      (g.0, (g.1.0, (g.1.1.0, (g.1.1.1.0, (g.1.1.1.1.0, list)))))

  octets_are : (oid : List ℕ) (part : TbsCertificateInner P) → spelling (tbs_certificate check) (without oid part)
      ≡ tbs_octets (record (tbs_spellings part) { extensions = list_of_members (joined (spelling extension) (without_oid oid (members part.extensions))) })
  octets_are oid part =
      spelling_is check (without oid part)
      ∙ ap (λ (o : Option (List ℕ)). tbs_octets (record (tbs_spellings part) { extensions = o })) (list_is (without_oid oid (members part.extensions)))

  module _ (signing part : TbsCertificateInner P) (fields : TbsCertificateSlices) (p : LoggedPart)
      (same : tbs_elements fields ≡ tbs_spellings part) (others : bare (tbs_elements p.fields) ≡ bare (tbs_elements fields))
      (issuer : p.fields.issuer.now ≡ spelling name signing.issuer)
      (pieces : member_octets p.members ≡ joined (spelling extension) (without_oid precertificate_poison (identified_as (with_oid authority_key_identifier (members signing.extensions)) (members part.extensions)))) where
    abbrev keys : List Extension
    keys = with_oid authority_key_identifier (members signing.extensions)

    fields_are : with_issuer p.fields.issuer.now (bare (tbs_elements p.fields)) ≡ with_issuer (spelling name signing.issuer) (bare (tbs_spellings part))
    fields_are = ap (with_issuer p.fields.issuer.now) (others ∙ ap bare same) ∙ ap (λ (i : List ℕ). with_issuer i (bare (tbs_spellings part))) issuer

    pieces_are : member_octets p.members ≡ joined (spelling extension) (without_oid precertificate_poison (members (reissued signing part).extensions))
    pieces_are = pieces ∙ ap (λ (xs : List Extension). joined (spelling extension) (without_oid precertificate_poison xs)) (sym (members_identified keys part.extensions))

    part_is : part_octets p ≡ spelling (tbs_certificate check) (without_poison (reissued signing part))
    part_is =
        ap (λ (t : TbsElements). tbs_octets (record t { extensions = list_of_members (member_octets p.members) })) fields_are
        ∙ ap (λ (m : List ℕ). tbs_octets (record (with_issuer (spelling name signing.issuer) (bare (tbs_spellings part))) { extensions = list_of_members m })) pieces_are
        ∙ sym (octets_are precertificate_poison (reissued signing part))

    pub is_reissued : (tbs_certificate check).good signing → (tbs_certificate check).good part → HasOne precertificate_poison part
        → AreIdentified (members part.extensions) (members signing.extensions) → IsReissued (tbs_certificate check) part signing (part_octets p)
    is_reissued s g one agree = record {
      one = one;
      keys = agree;
      good = good_cut precertificate_poison (reissued signing part) (good_reissued signing part s g);
      is = part_is;
    }

-- a certificate's signed part is good
pub part_good : {P : Type 0} (check : List ℕ → Result Unit ErrorKind) (value : CertificateInner P) (bytes : List ℕ) → Spells (certificate check) value bytes
    → (tbs_certificate check).good value.tbs_certificate
part_good check value bytes spells = (stands check value bytes spells).1.0

-- ---- by what stands around the extensions

-- Without an authority key identifier what is left is the members around the poison.
pub unidentified_members :
    (own above : List Extension) (poison : Around) → IsAlone precertificate_poison own poison → with_oid authority_key_identifier own ≡ []
    → poison.before.now ++ joined (spelling extension) (extensions_left poison.behind)
    ≡ joined (spelling extension) (without_oid precertificate_poison (identified_as (with_oid authority_key_identifier above) own))
unidentified_members own above poison alone none =
    let it = alone.stands in
    let behind = extensions_left poison.behind in
    ap (λ (x : List ℕ). x ++ joined (spelling extension) behind) it.before_is
    ∙ sym (joined_append (spelling extension) it.before behind)
    ∙ ap (joined (spelling extension)) (sym (ap (without_oid precertificate_poison) it.split ∙ left precertificate_poison it.before it.found behind it.first it.has alone.alone))
    ∙ ap (λ (xs : List Extension). joined (spelling extension) (without_oid precertificate_poison xs)) (sym (unidentified (with_oid authority_key_identifier above) own none))

-- With the one of the signing certificate they are those with its value.
pub identified_by :
    (own above : List Extension) (key : Around) → IsAlone authority_key_identifier above key
    → joined (spelling extension) (without_oid precertificate_poison (with_value authority_key_identifier key.value.now own))
    ≡ joined (spelling extension) (without_oid precertificate_poison (identified_as (with_oid authority_key_identifier above) own))
identified_by own above key alone =
    let it = alone.stands in
    let one : with_oid authority_key_identifier above ≡ it.found ∷ [] =
    ap (with_oid authority_key_identifier) it.split ∙ found authority_key_identifier it.before it.found (extensions_left key.behind) it.first it.has
    ∙ ap (λ (l : List Extension). it.found ∷ l) alone.alone in
    ap (λ (xs : List Extension). joined (spelling extension) (without_oid precertificate_poison xs)) (sym (identified (with_oid authority_key_identifier above) own it.found key.value.now one it.value))

-- the whole, by the extensions that are lent
pub reissued_by :
    {P : Type 0} (check : List ℕ → Result Unit ErrorKind) (value above : CertificateInner P) (bytes signing : List ℕ) → Spells (certificate check) value bytes → Spells (certificate check) above signing
    → (fields : TbsCertificateSlices) (p : LoggedPart) → tbs_elements fields ≡ tbs_spellings value.tbs_certificate → bare (tbs_elements p.fields) ≡ bare (tbs_elements fields)
    → p.fields.issuer.now ≡ spelling name above.tbs_certificate.issuer → (list upper : ExtensionRefs) → extensions_left list ≡ members value.tbs_certificate.extensions
    → extensions_left upper ≡ members above.tbs_certificate.extensions → (poison : Around) → IsAlone precertificate_poison (extensions_left list) poison
    → AreIdentified (extensions_left list) (extensions_left upper)
    × (member_octets p.members ≡ joined (spelling extension) (without_oid precertificate_poison (identified_as (with_oid authority_key_identifier (extensions_left upper)) (extensions_left list))))
    → IsReissued (tbs_certificate check) value.tbs_certificate above.tbs_certificate (part_octets p)
reissued_by check value above bytes signing s t fields p same others issuer list upper list_is upper_is poison alone found =
    let one = one_of_alone precertificate_poison (extensions_left list) poison alone in
    let agree = subst (λ (xs : List Extension). AreIdentified xs (members above.tbs_certificate.extensions)) list_is (subst (λ (ys : List Extension). AreIdentified (extensions_left list) ys) upper_is found.0) in
    let pieces =
    found.1
    ∙ ap (λ (ys : List Extension). joined (spelling extension) (without_oid precertificate_poison (identified_as (with_oid authority_key_identifier ys) (extensions_left list)))) upper_is
    ∙ ap (λ (xs : List Extension). joined (spelling extension) (without_oid precertificate_poison (identified_as (with_oid authority_key_identifier (members above.tbs_certificate.extensions)) xs))) list_is in
    is_reissued check above.tbs_certificate value.tbs_certificate fields p same others issuer pieces (part_good check above signing t) (part_good check value bytes s)
    (ap (λ (xs : List Extension). length (with_oid precertificate_poison xs)) (sym list_is) ∙ one) agree
