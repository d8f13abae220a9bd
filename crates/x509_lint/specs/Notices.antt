-- What is wrong with user notices (RFC 5280 4.2.1.4, RFC 6818 3).
use Rattle.std.specs.Prelude.{ℕ, ◌/◌, Bool, true, false, ◌&&◌, ◌||◌, ◌==◌, not, nat_le, nat_lt, List, length, Option, Some, None, Result, Ok, Err, bytes_eq, is_some}
use Rattle.std.specs.List.{list_any}
use Rattle.std.specs.Str.{chars}
use Rattle.unicode_normalization.specs.Forms.{is_nfc}
use Rattle.x509_der.specs.Tag.{octet_of}
use Rattle.x509_der.specs.declared.any.Any.{Any}
use Rattle.x509_der.specs.declared.error.ErrorKind.{ErrorKind}
use Rattle.x509_ext.specs.Identifiers.{id_pkix}
use Rattle.x509_ext.specs.UserNotice.{user_notice}
use Rattle.x509_ext.specs.declared.pkix.certificate_policies.CertificatePolicies.{CertificatePolicies}
use Rattle.x509_ext.specs.declared.pkix.display_text.DisplayText.{DisplayText}
use Rattle.x509_ext.specs.declared.pkix.display_text.DisplayText.TheVariants.{Ia5String, VisibleString, BmpString, Utf8String}
use Rattle.x509_ext.specs.declared.pkix.policy_information.PolicyInformation.{PolicyInformation}
use Rattle.x509_ext.specs.declared.pkix.policy_information.PolicyQualifierInfo.{PolicyQualifierInfo}
use Rattle.x509_ext.specs.declared.pkix.user_notice.UserNotice.{UserNotice}
use Rattle.x509_lint.specs.Words.{passes}
use Rattle.x509_prim.specs.Bmp.{bmp_chars}
use Rattle.x509_lint.specs.declared.notices.NoticeFault.{NoticeFault}
use Rattle.x509_lint.specs.declared.notices.NoticeFault.TheVariants.{Long, NoText, OldType, Ia5Type, Control, Reference, Unnormalized, Unread}

-- how many characters a text has: one for each octet, two octets for each (X.690 8.23.8), or those of UTF-8
abbrev pub char_count : DisplayText → ℕ
char_count (Ia5String text) = length text
char_count (VisibleString text) = length text
char_count (BmpString octets) = length octets / 2
char_count (Utf8String text) = length (chars text)

-- a VisibleString or a BMPString, which authorities may write in place of a UTF8String (RFC 6818 3)
abbrev pub is_old_text : DisplayText → Bool
is_old_text (Ia5String text) = false
is_old_text (VisibleString text) = true
is_old_text (BmpString octets) = true
is_old_text (Utf8String text) = false

-- an IA5String, which they don't write
abbrev pub is_ia5_text : DisplayText → Bool
is_ia5_text (Ia5String text) = true
is_ia5_text (VisibleString text) = false
is_ia5_text (BmpString octets) = false
is_ia5_text (Utf8String text) = false

-- U+0000 to U+001F, and U+007F to U+009F
abbrev pub is_control : ℕ → Bool
is_control char = nat_lt char 32 || (nat_le 127 char && nat_lt char 160)

abbrev pub has_control : DisplayText → Bool
has_control (Ia5String text) = list_any is_control text
has_control (VisibleString text) = list_any is_control text
has_control (BmpString octets) = list_any is_control (bmp_chars octets)
has_control (Utf8String text) = list_any is_control (chars text)

-- a UTF8String that isn't in Unicode Normalization Form C
abbrev pub is_unnormalized : DisplayText → Bool
is_unnormalized (Ia5String text) = false
is_unnormalized (VisibleString text) = false
is_unnormalized (BmpString octets) = false
is_unnormalized (Utf8String text) = not (is_nfc (chars text))

-- what is wrong with an explicit text: it is outside of 1 to 200 characters, which is the size of DisplayText, of another type, has control characters, or isn't normalized
abbrev pub is_faulty_text : NoticeFault → DisplayText → Bool
is_faulty_text Long text = nat_lt 200 (char_count text)
is_faulty_text NoText text = char_count text == 0
is_faulty_text OldType text = is_old_text text
is_faulty_text Ia5Type text = is_ia5_text text
is_faulty_text Control text = has_control text
is_faulty_text Reference text = false
is_faulty_text Unnormalized text = is_unnormalized text
is_faulty_text Unread text = false

abbrev pub is_reference : NoticeFault → Bool
is_reference Reference = true
is_reference other = false

-- that, or that there is a noticeRef
abbrev pub is_faulty_notice : NoticeFault → UserNotice → Bool
is_faulty_notice fault notice = passes (is_faulty_text fault) notice.explicit_text || (is_reference fault && is_some notice.notice_ref)

abbrev pub value_read : {X : Type 0} → Result X ErrorKind → Option X
value_read (Ok x) = Some x
value_read (Err e) = None

abbrev pub is_unread : NoticeFault → Bool
is_unread Unread = true
is_unread other = false

-- the user notice has the fault; where there is none, that is the fault
abbrev pub is_faulty_reading : NoticeFault → Option UserNotice → Bool
is_faulty_reading fault None = is_unread fault
is_faulty_reading fault (Some notice) = is_faulty_notice fault notice

-- that which an element is the encoding of
unfoldable pub is_faulty_element : NoticeFault → Any → Bool
is_faulty_element fault element = is_faulty_reading fault (value_read (user_notice.reading (octet_of element.tag) element.value))

-- an element that has to be there
abbrev pub is_faulty_payload : NoticeFault → Option Any → Bool
is_faulty_payload fault None = is_unread fault
is_faulty_payload fault (Some element) = is_faulty_element fault element

-- a qualifier whose type is that of a user notice (id-qt-unotice), with the fault
abbrev pub is_faulty_qualifier : NoticeFault → PolicyQualifierInfo → Bool
is_faulty_qualifier fault q = bytes_eq q.policy_qualifier_id (id_pkix 2 2) && is_faulty_payload fault q.qualifier

abbrev pub are_faulty_qualifiers : NoticeFault → List PolicyQualifierInfo → Bool
are_faulty_qualifiers fault qualifiers = list_any (is_faulty_qualifier fault) qualifiers

abbrev pub is_faulty_policy : NoticeFault → PolicyInformation → Bool
is_faulty_policy fault policy = passes (are_faulty_qualifiers fault) policy.policy_qualifiers

-- some policy has a user notice with the fault
abbrev pub has_faulty_notice : NoticeFault → Option CertificatePolicies → Bool
has_faulty_notice fault policies = passes (λ p. list_any (is_faulty_policy fault) p.0) policies
