-- Lines of the qualifiers of policies (RFC 5280 4.2.1.4).
use Rattle.std.specs.Prelude.{ℕ, List, ◌++◌, Option, bytes_eq, codes, encode_utf8_all, if◌then◌else◌}
use Rattle.std.specs.List.{flat_map}
use Rattle.x509_der.specs.declared.any.Any.{Any}
use Rattle.x509_ext.specs.Identifiers.{id_pkix}
use Rattle.x509_ext.specs.UserNotice.{user_notice}
use Rattle.x509_ext.specs.declared.pkix.display_text.DisplayText.{DisplayText}
use Rattle.x509_ext.specs.declared.pkix.display_text.DisplayText.TheVariants.{Ia5String, VisibleString, BmpString, Utf8String}
use Rattle.x509_ext.specs.declared.pkix.policy_information.PolicyQualifierInfo.{PolicyQualifierInfo}
use Rattle.x509_ext.specs.declared.pkix.user_notice.NoticeReference.{NoticeReference}
use Rattle.x509_ext.specs.declared.pkix.user_notice.UserNotice.{UserNotice}
use Rattle.x509_prim.specs.Bmp.{bmp_chars}
use Rattle.x509_prim.specs.Texts.{ia5_string}
use Rattle.x509_text.specs.declared.line.Place.{Place}
use Rattle.x509_text.specs.Lines.{line, below}
use Rattle.x509_text.specs.Payloads.{any_lines, optional}
use Rattle.x509_text.specs.Usages.{value_line}
use Rattle.x509_text.specs.Values.{oid_line, uint_line}

-- ---- texts for people

-- the text, in UTF-8
abbrev pub display_string : DisplayText → List ℕ
display_string (Ia5String text) = text
display_string (VisibleString text) = text
display_string (BmpString octets) = encode_utf8_all (bmp_chars octets)
display_string (Utf8String text) = text

abbrev pub display_line : Place → List ℕ → DisplayText → List ℕ
display_line at label text = line at label (display_string text)

abbrev pub optional_display : Place → List ℕ → Option DisplayText → List ℕ
optional_display at label text = optional (display_line at label) text

-- ---- user notices

abbrev pub notice_number_line : Place → List ℕ → List ℕ
notice_number_line at number = uint_line at (codes "notice number") number

abbrev pub optional_notice_numbers : Place → Option (List (List ℕ)) → List ℕ
optional_notice_numbers at numbers = optional (λ ns. flat_map (notice_number_line at) ns) numbers

-- NoticeReference: who wrote the notices, and the numbers of those that are meant
unfoldable pub reference_lines : Place → NoticeReference → List ℕ
reference_lines at r = display_line at (codes "organization") r.organization ++ optional_notice_numbers (below at) r.notice_numbers

-- UserNotice: which notices are meant, and the text of one
unfoldable pub notice_lines : Place → UserNotice → List ℕ
notice_lines at n = optional (reference_lines at) n.notice_ref ++ optional_display at (codes "explicit text") n.explicit_text

-- ---- qualifiers

-- CPSuri: where the certification practice statement is found
abbrev pub uri_line : Place → List ℕ → List ℕ
uri_line at uri = line at (codes "URI") uri

-- the value of a qualifier with this identifier: of id-qt-cps and id-qt-unotice as such, of any other as an element
unfoldable pub qualifier_value_lines : Place → List ℕ → Any → List ℕ
qualifier_value_lines at oid value =
    if bytes_eq oid (id_pkix 2 1) then any_lines ia5_string uri_line at value
    else if bytes_eq oid (id_pkix 2 2) then any_lines user_notice notice_lines at value
    else value_line at value

abbrev pub optional_qualifier_value : Place → List ℕ → Option Any → List ℕ
optional_qualifier_value at oid value = optional (qualifier_value_lines at oid) value

-- PolicyQualifierInfo: what it is, and its value
unfoldable pub qualifier_lines : Place → PolicyQualifierInfo → List ℕ
qualifier_lines at q =
    oid_line at (codes "qualifier") q.policy_qualifier_id ++ optional_qualifier_value (below at) q.policy_qualifier_id q.qualifier
