-- Any bits are accepted but those of the signatures that are listed.
use Rattle.std.proofs.Common.{◌≡◌, ◌∙◌, inl, inr, ℕ, zero, suc, Bool, true, false, not, ◌&&◌, ◌||◌, List, [], ◌∷◌, ◌++◌, refl, sym, ap, subst, arith}
use Rattle.std.proofs.lemmas.Bool.{or_cases, true≢false}
use Rattle.std.proofs.lemmas.List.Elements.{All-cons, All-nil}
use Rattle.std.specs.Cmp.Lexicographic.{bytes_decides}
use Rattle.std.specs.List.{All, AllZip, Contains, list_any}
use Rattle.x509_base.specs.AlgorithmIdentifier.{algorithm_identifier}
use Rattle.x509_base.specs.Profiles.{rfc5280_serial_number}
use Rattle.x509_base.specs.SubjectPublicKeyInfo.{subject_public_key_info}
use Rattle.x509_base.specs.declared.subject_public_key_info.SubjectPublicKeyInfo.{SubjectPublicKeyInfo}
use Rattle.x509_c_calls.specs.PathFinding.{AcceptsBut, IsBadSignature, IsLink, IsOpenedLink, is_bad, links_in, unlisted}
use Rattle.x509_c_calls.specs.declared.path.links.BadSignature.{BadSignature}
use Rattle.x509_c_calls.specs.declared.path.search.BadLink.{BadLink}
use Rattle.x509_cert.proofs.Spellings.{certificate_found}
use Rattle.x509_cert.specs.Certificate.{certificate_lawful, rfc5280_certificate}
use Rattle.x509_cert.specs.ElementPartsLaws.{is_signed}
use Rattle.x509_cert.specs.Signed.{IsSignedPart}
use Rattle.x509_cert.specs.SignedLaws.{one_part}
use Rattle.x509_cert.specs.Spellings.{certificate_spellings}
use Rattle.x509_der.specs.Element.{element}
use Rattle.x509_der.specs.Form.{Spells, spelling}
use Rattle.x509_der.specs.SpellingLaws.{values}
use Rattle.x509_path.specs.Certificates.{Certificate, IsSigned}
use Rattle.x509_prim.specs.BitString.{bit_string}

both : (a b : Bool) → (a && b) ≡ true → (a ≡ true) × (b ≡ true)
both true b is = (refl, is)
both false b is = absurd (true≢false (sym is))

all_true : (a b c d : Bool) → a ≡ true → b ≡ true → c ≡ true → d ≡ true → (a && (b && (c && d))) ≡ true
all_true a b c d one two three four = λ i. one i && (two i && (three i && four i))

or_other : (a b : Bool) → b ≡ true → (a || b) ≡ true
or_other true b is = refl
or_other false b is = is

or_one : (a b : Bool) → a ≡ true → (a || b) ≡ true
or_one a b is = ap (λ one. one || b) is

is_not : (b : Bool) → (b ≡ true → ⊥) → not b ≡ true
is_not true no_more = absurd (no_more refl)
is_not false no_more = refl

-- the bytes of a certificate are made of its signed part, its algorithm and its signature
whole : (c : Certificate) (bytes signed : List ℕ) → Spells rfc5280_certificate c bytes → IsSignedPart bytes signed
    → bytes ≡ element 0x30 (signed ++ (spelling algorithm_identifier c.signature_algorithm ++ spelling bit_string c.signature))
whole c bytes signed spells part =
    let has = certificate_found rfc5280_serial_number c bytes spells in
    has.whole ∙ ap (λ t. element 0x30 (t ++ (spelling algorithm_identifier c.signature_algorithm ++ spelling bit_string c.signature))) (one_part bytes _ signed (is_signed bytes (certificate_spellings c) has) part)

module _ (c : Certificate) (bytes signed : List ℕ) (key : SubjectPublicKeyInfo) (spells : Spells rfc5280_certificate c bytes) (part : IsSignedPart bytes signed) where
  abbrev its_link : List ℕ × List ℕ
  its_link = (bytes, spelling subject_public_key_info key)

  abbrev test : BadSignature → Bool
  test = is_bad (spelling algorithm_identifier c.signature_algorithm) (spelling subject_public_key_info key) signed (spelling bit_string c.signature)

  -- a signature that is this one is that of the link
  same_link : (other : List ℕ × List ℕ) (bad : BadSignature) → IsBadSignature other bad → test bad ≡ true → other ≡ its_link
  same_link other bad is yes_it_is =
      let (algorithm, others) = both _ _ yes_it_is in
      let (key_is, rest) = both _ _ others in
      let (message, bits) = both _ _ rest in
      let same_algorithm : spelling algorithm_identifier is.certificate.signature_algorithm ≡ spelling algorithm_identifier c.signature_algorithm = sym is.algorithm ∙ (bytes_decides _ _).0 algorithm in
      let same_message : bad.message.now ≡ signed = (bytes_decides _ _).0 message in
      let same_bits : spelling bit_string is.certificate.signature ≡ spelling bit_string c.signature = sym is.signature ∙ (bytes_decides _ _).0 bits in
      let same_key : other.1 ≡ spelling subject_public_key_info key = sym is.key ∙ (bytes_decides _ _).0 key_is in
      let same_bytes : other.0 ≡ bytes = whole is.certificate other.0 bad.message.now is.spells is.message ∙ (λ i. element 0x30 (same_message i ++ (same_algorithm i ++ same_bits i))) ∙ sym (whole c bytes signed spells part) in
      (λ i. (same_bytes i, same_key i))

  one_certificate : {bad : BadSignature} (is : IsBadSignature its_link bad) → is.certificate ≡ c
  one_certificate is = values rfc5280_certificate (certificate_lawful rfc5280_serial_number) is.certificate c bytes is.spells spells

  -- and that of the link is this one
  its_signature : (bad : BadSignature) → IsBadSignature its_link bad → test bad ≡ true
  its_signature bad is =
      let bits : bad.signature.now ≡ spelling bit_string c.signature = is.signature ∙ ap (λ (x : Certificate). spelling bit_string x.signature) (one_certificate is) in
      let algorithm : bad.algorithm.now ≡ spelling algorithm_identifier c.signature_algorithm = is.algorithm ∙ ap (λ (x : Certificate). spelling algorithm_identifier x.signature_algorithm) (one_certificate is) in
      let message : bad.message.now ≡ signed = one_part bytes bad.message.now signed is.message part in
      all_true _ _ _ _ ((bytes_decides _ _).1 algorithm) ((bytes_decides _ _).1 is.key) ((bytes_decides _ _).1 message) ((bytes_decides _ _).1 bits)

  listed : (links : List (List ℕ × List ℕ)) (bads : List BadSignature) → AllZip IsBadSignature links bads → Contains links its_link → list_any test bads ≡ true
  listed [] bads are (i, less, same) = absurd (omega (arith, less))
  listed (one ∷ links) [] never has = absurd never
  listed (one ∷ links) (bad ∷ bads) are (zero, less, same) = or_one (test bad) (list_any test bads) (its_signature bad (subst (λ l. IsBadSignature l bad) same are.0))
  listed (one ∷ links) (bad ∷ bads) are (suc i, less, same) = or_other (test bad) (list_any test bads) (listed links bads are.1 (i, omega (arith, less), same))

  found : (links : List (List ℕ × List ℕ)) (bads : List BadSignature) → AllZip IsBadSignature links bads → list_any test bads ≡ true → Contains links its_link
  found [] [] are any = absurd (true≢false (sym any))
  found [] (bad ∷ bads) never any = absurd never
  found (one ∷ links) [] never any = absurd never
  found (one ∷ links) (bad ∷ bads) are any = elim (or_cases (test bad) (list_any test bads) any) [
    | inl here ↦ (0, omega arith, same_link one bad are.0 here)
    | inr behind ↦ let (i, less, same) = found links bads are.1 behind in (suc i, omega (arith, less), same)
  ]

pub accepts_but : (links : List (List ℕ × List ℕ)) (bads : List BadSignature) → AllZip IsBadSignature links bads → AcceptsBut links (unlisted bads)
accepts_but links bads are bytes c key spells = (to, from) where
  to : IsSigned (unlisted bads) key bytes c → Contains links (bytes, spelling subject_public_key_info key) → ⊥
  to (signed, part, accepted) has = true≢false (sym accepted ∙ ap not (listed c bytes signed key spells part links bads are has))

  from : (Contains links (bytes, spelling subject_public_key_info key) → ⊥) → IsSigned (unlisted bads) key bytes c
  from none =
      let part = is_signed bytes (certificate_spellings c) (certificate_found rfc5280_serial_number c bytes spells) in
      ((certificate_spellings c).tbs_certificate, part, is_not _ (λ any. none (found c bytes _ key spells part links bads are any)))

-- what is known of the links that were opened
pub opened_bad : (bytes : List ℕ) (links : List BadLink) (bads : List BadSignature) → AllZip (IsOpenedLink bytes) links bads → AllZip IsBadSignature (links_in bytes links) bads
opened_bad bytes [] [] are = are
opened_bad bytes [] (bad ∷ bads) never = never
opened_bad bytes (link ∷ links) [] never = never
opened_bad bytes (link ∷ links) (bad ∷ bads) are = (are.0.1, opened_bad bytes links bads are.1)

pub opened_links : (bytes : List ℕ) (links : List BadLink) (bads : List BadSignature) → AllZip (IsOpenedLink bytes) links bads → All (IsLink bytes) links
opened_links bytes [] bads are = All-nil (IsLink bytes)
opened_links bytes (link ∷ links) [] never = absurd never
opened_links bytes (link ∷ links) (bad ∷ bads) are = All-cons (IsLink bytes) link links are.0.0 (opened_links bytes links bads are.1)
