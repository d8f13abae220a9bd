-- Places where CRLs and certificates are found: distribution points and access descriptions (RFC 5280 4.2.1.13, 4.2.2).
use Rattle.std.specs.Prelude.{◌&&◌, ◌||◌, ◌==◌, ℕ, Bool, true, false, not, nat_lt, length, List, bytes_eq, is_some}
use Rattle.std.specs.List.{list_all, list_any, slice_get}
use Rattle.std.specs.Int.RustNames.{bit_and}
use Rattle.x509_ext.specs.Identifiers.{id_pkix}
use Rattle.x509_ext.specs.declared.pkix.access.AccessDescription.{AccessDescription}
use Rattle.x509_ext.specs.declared.pkix.distribution_point.DistributionPoint.{DistributionPoint}
use Rattle.x509_ext.specs.declared.pkix.name.distribution_point_name.DistributionPointName.{DistributionPointName}
use Rattle.x509_ext.specs.declared.pkix.name.distribution_point_name.DistributionPointName.TheVariants.{FullName, NameRelativeToCRLIssuer}
use Rattle.x509_ext.specs.declared.pkix.name.general_name.GeneralName.{GeneralName}
use Rattle.x509_ext.specs.declared.pkix.name.general_name.GeneralName.TheVariants.{DirectoryName, UniformResourceIdentifier}
use Rattle.x509_ext.specs.declared.pkix.reasons.Reasons.{Reasons}
use Rattle.x509_name.specs.Names.{rdn_sequence_eq}
use Rattle.x509_name.specs.declared.attr.type_and_value.AttributeTypeAndValue.{AttributeTypeAndValue}
use Rattle.x509_lint.specs.Uri.{has_attributes, has_dn, has_ldap_host, has_one_attribute, is_any_uri}
use Rattle.x509_lint.specs.Words.{is_empty, passes}
use Rattle.x509_lint.specs.declared.places.PointFault.{PointFault}
use Rattle.x509_lint.specs.declared.places.PointFault.TheVariants.{Relative, RelativeToSeveral, NoUri, OtherIssuer, ReasonsOrIssuer, LdapIncomplete, LdapWithoutHost, NoNames, UriInvalid}

-- ---- URIs

-- the octet at the place is the letter, in upper or lower case
abbrev pub is_letter_at : List ℕ → ℕ → ℕ → ℕ → Bool
is_letter_at text at upper lower = passes (λ octet. (octet == upper) || (octet == lower)) (slice_get text at)

abbrev pub is_colon_at : List ℕ → ℕ → Bool
is_colon_at text at = passes (λ octet. octet == 58) (slice_get text at)

-- the text begins with `http:`
abbrev pub is_http : List ℕ → Bool
is_http text = is_letter_at text 0 72 104 && (is_letter_at text 1 84 116 && (is_letter_at text 2 84 116 && (is_letter_at text 3 80 112 && is_colon_at text 4)))

-- the text begins with `ldap:`
abbrev pub is_ldap : List ℕ → Bool
is_ldap text = is_letter_at text 0 76 108 && (is_letter_at text 1 68 100 && (is_letter_at text 2 65 97 && (is_letter_at text 3 80 112 && is_colon_at text 4)))

-- an HTTP or an LDAP URI
abbrev pub is_web : GeneralName → Bool
is_web (UniformResourceIdentifier text) = is_http text || is_ldap text
is_web other = false

-- an LDAP URI (RFC 4516 2) without a dn, or without one attribute description (RFC 5280 4.2.1.13)
abbrev pub is_incomplete_entry : GeneralName → Bool
is_incomplete_entry (UniformResourceIdentifier text) = is_ldap text && not (has_dn text && has_one_attribute text)
is_incomplete_entry other = false

-- one without a dn, or without attribute descriptions (RFC 5280 4.2.2.1)
abbrev pub is_incomplete_search : GeneralName → Bool
is_incomplete_search (UniformResourceIdentifier text) = is_ldap text && not (has_dn text && has_attributes text)
is_incomplete_search other = false

-- one without a host
abbrev pub is_without_host : GeneralName → Bool
is_without_host (UniformResourceIdentifier text) = is_ldap text && not (has_ldap_host text)
is_without_host other = false

-- a text in the place of a URI that isn't one (RFC 3986 3)
abbrev pub is_other_uri : GeneralName → Bool
is_other_uri (UniformResourceIdentifier text) = not (is_any_uri text)
is_other_uri other = false

-- a name in the form of a URI
abbrev pub is_uri_name : GeneralName → Bool
is_uri_name (UniformResourceIdentifier text) = true
is_uri_name other = false

-- ---- distribution points

abbrev pub is_relative_name : DistributionPointName → Bool
is_relative_name (FullName names) = false
is_relative_name (NameRelativeToCRLIssuer rdn) = true

-- general names among which no HTTP or LDAP URI is
abbrev pub is_name_without_uri : DistributionPointName → Bool
is_name_without_uri (FullName names) = not (list_any is_web names)
is_name_without_uri (NameRelativeToCRLIssuer rdn) = false

-- some general name passes the test
abbrev pub has_name : (GeneralName → Bool) → DistributionPointName → Bool
has_name test (FullName names) = list_any test names
has_name test (NameRelativeToCRLIssuer rdn) = false

-- no general name, or no attribute
abbrev pub has_no_names : DistributionPointName → Bool
has_no_names (FullName names) = is_empty names
has_no_names (NameRelativeToCRLIssuer rdn) = is_empty rdn

abbrev pub is_no_directory_name : GeneralName → Bool
is_no_directory_name (DirectoryName rdns) = false
is_no_directory_name other = true

-- the name is a directoryName, and this one
abbrev pub is_this_name : List (List AttributeTypeAndValue) → GeneralName → Bool
is_this_name name (DirectoryName rdns) = rdn_sequence_eq rdns name
is_this_name name other = false

-- a point whose cRLIssuer has this name
abbrev pub is_point_of : List (List AttributeTypeAndValue) → DistributionPoint → Bool
is_point_of name p = passes (λ names. list_any (is_this_name name) names) p.crl_issuer

-- some reason isn't among these: of the named bits, keyCompromise (1) to aACompromise (8) are reasons
abbrev pub leaves_reason : Reasons → Bool
leaves_reason reasons = not (bit_and reasons.0 510 == 510)

-- the point has reasons, and not all
abbrev pub is_partial_point : DistributionPoint → Bool
is_partial_point p = passes leaves_reason p.reasons

-- there are points, and none is one of a CRL that covers all reasons
abbrev pub are_partial : List DistributionPoint → Bool
are_partial points = not (is_empty points) && list_all is_partial_point points

-- what is wrong with a point
abbrev pub is_faulty_point : PointFault → DistributionPoint → Bool
is_faulty_point Relative p = passes is_relative_name p.distribution_point
is_faulty_point RelativeToSeveral p = passes is_relative_name p.distribution_point && passes (λ names. nat_lt 1 (length names)) p.crl_issuer
is_faulty_point NoUri p = passes is_name_without_uri p.distribution_point
is_faulty_point OtherIssuer p = passes (λ names. list_any is_no_directory_name names) p.crl_issuer
is_faulty_point ReasonsOrIssuer p = is_some p.reasons || is_some p.crl_issuer
is_faulty_point LdapIncomplete p = passes (λ n. has_name is_incomplete_entry n) p.distribution_point
is_faulty_point LdapWithoutHost p = passes (λ n. has_name is_without_host n) p.distribution_point
is_faulty_point NoNames p = passes has_no_names p.distribution_point || passes is_empty p.crl_issuer
is_faulty_point UriInvalid p = passes (λ n. has_name is_other_uri n) p.distribution_point

-- ---- access descriptions

-- id-ad-caIssuers and id-ad-caRepository (RFC 5280 4.2.2.1, 4.2.2.2)
abbrev pub ca_issuers : List ℕ
ca_issuers = id_pkix 48 2

abbrev pub ca_repository : List ℕ
ca_repository = id_pkix 48 5

-- id-ad-ocsp (RFC 6960 3.1)
abbrev pub ocsp : List ℕ
ocsp = id_pkix 48 1

abbrev pub has_method : List ℕ → List AccessDescription → Bool
has_method method descriptions = list_any (λ d. bytes_eq d.access_method method) descriptions

-- there are descriptions of the method, and none of them has an HTTP or LDAP URI
abbrev pub lacks_uri : List ℕ → List AccessDescription → Bool
lacks_uri method descriptions =
    has_method method descriptions && not (list_any (λ d. bytes_eq d.access_method method && is_web d.access_location) descriptions)

-- a description of the method has a place that passes the test
abbrev pub has_place : (GeneralName → Bool) → List ℕ → List AccessDescription → Bool
has_place test method descriptions = list_any (λ d. bytes_eq d.access_method method && test d.access_location) descriptions

-- there are descriptions of the method, and none of them has a URI of any kind
abbrev pub lacks_any_uri : List ℕ → List AccessDescription → Bool
lacks_any_uri method descriptions = has_method method descriptions && not (has_place is_uri_name method descriptions)

-- there is no description of the method, or one of another
abbrev pub has_other_method : List ℕ → List AccessDescription → Bool
has_other_method method descriptions = is_empty descriptions || list_any (λ d. not (bytes_eq d.access_method method)) descriptions
