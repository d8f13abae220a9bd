-- Values of extensions that are encoded of encodings: lists of their members, and general names with what holds them.
use Rattle.std.specs.Prelude.{◌≡◌, ◌≤◌, ◌⊎◌, ℕ, List, [], Option, Some, None, Result, Ok, Err, nat_eq, if◌then◌else◌}
use Rattle.x509_base.specs.CivilTime.{CivilTime, unix_seconds}
use Rattle.x509_c_calls.specs.BuildMembers.{IsOid}
use Rattle.x509_c_calls.specs.Calls.{Encodes}
use Rattle.x509_c_calls.specs.GeneralNames.{held, kind_of}
use Rattle.x509_c_calls.specs.Input.{RefusesEach, SpellEach, unless_empty}
use Rattle.x509_c_calls.specs.Periods.{IsPeriod}
use Rattle.x509_c_calls.specs.declared.payloads.period.PrivateKeyUsagePeriodView.{PrivateKeyUsagePeriodView}
use Rattle.x509_der.specs.Any.{any}
use Rattle.x509_der.specs.Form.{Form, Spells, universal}
use Rattle.x509_der.specs.List.{list_of, members_writing}
use Rattle.x509_der.specs.Writing.{Writing, writes}
use Rattle.x509_der.specs.declared.error.ErrorKind.{ErrorKind}
use Rattle.x509_der.specs.declared.error.ErrorKind.TheVariants.{Malformed, Value}
use Rattle.x509_der.specs.declared.tag.Tag.TheVariants.{Sequence}
use Rattle.x509_ext.specs.CrlReason.{crl_reason_number}
use Rattle.x509_ext.specs.GeneralName.{general_name}
use Rattle.x509_ext.specs.GeneralSubtree.{general_subtree}
use Rattle.x509_ext.specs.declared.pkix.access.AccessDescription.{AccessDescription}
use Rattle.x509_ext.specs.declared.pkix.crl_reason.CrlReason.{CrlReason}
use Rattle.x509_ext.specs.declared.pkix.general_subtree.GeneralSubtree.{GeneralSubtree}
use Rattle.x509_ext.specs.declared.pkix.name.general_name.GeneralName.{GeneralName}
use Rattle.x509_ext.specs.declared.pkix.name.general_name.GeneralName.TheVariants.{OtherName}
use Rattle.x509_ext.specs.declared.pkix.name.other_name.OtherName as others
use Rattle.x509_ext.specs.declared.pkix.name_constraints.NameConstraints.{NameConstraints}
use Rattle.x509_ext.specs.declared.pkix.private_key_usage_period.PrivateKeyUsagePeriod.{PrivateKeyUsagePeriod}
use Rattle.x509_types.specs.Reencoding.{IsRefused}

-- ---- moments and reasons

-- the reason with that number (RFC 5280 5.3.1)
abbrev pub IsReason : ℕ → CrlReason → Type 0
IsReason number reason = crl_reason_number reason ≡ number

-- the moment that many seconds after 1970-01-01T00:00:00Z (RFC 5280 5.3.2)
abbrev pub IsMoment : ℕ → CivilTime → Type 0
IsMoment seconds moment = unix_seconds moment ≡ seconds

-- that which the view says, with a first moment or a last one, and none that ends before it begins (X.509 9.2.2.5)
pub record IsPeriodOf (view : PrivateKeyUsagePeriodView) (period : PrivateKeyUsagePeriod) : Type 0 where
  pub said : IsPeriod period view
  pub some : period.not_before ≡ None → period.not_after ≡ None → ⊥
  pub in_order : (first last : CivilTime) → period.not_before ≡ Some first → period.not_after ≡ Some last → unix_seconds first ≤ unix_seconds last

-- ---- lists

-- the values whose encodings the bytes are, one after the other, of which there is one at least, as RFC 5280 has its lists (A.1, A.2)
abbrev pub IsListOf : {X : Type 0} → Form X → List ℕ → List X → Type 0
IsListOf form bytes members = SpellEach form members bytes × (members ≡ [] → ⊥)

-- there is none: the bytes are refused, or there are none
abbrev pub RefusesList : {X : Type 0} → Form X → (ErrorKind → Type 0) → List ℕ → ErrorKind → Type 0
RefusesList form refuses bytes e = RefusesEach form refuses bytes e ⊎ ((e ≡ Value) × (bytes ≡ []))

-- the encoding of the list, each member as values of its type are written; or why there is none
abbrev pub EncodesList : {X : Type 0} → Form X → Writing X → (ErrorKind → Type 0) → List ℕ → Result (List ℕ) ErrorKind → Type 0
EncodesList {X} form writing refuses bytes (Ok made) =
    (members : List X) × IsListOf form bytes members × Encodes (universal Sequence (list_of form)) (writes (members_writing writing) members) (Ok made)
EncodesList {X} form writing refuses bytes (Err e) =
    RefusesList form refuses bytes e
    ⊎ ((members : List X) × IsListOf form bytes members × Encodes (universal Sequence (list_of form)) (writes (members_writing writing) members) (Err e))

-- ---- OIDs

-- these are the content octets of none
abbrev pub RefusesOid : List ℕ → ErrorKind → Type 0
RefusesOid oid e = (e ≡ Malformed) × (IsOid oid → ⊥)

-- ---- general names (RFC 5280 4.2.1.6)

-- the identifier octet of the names of that kind
abbrev pub name_tag : ℕ → Option ℕ
name_tag kind =
    if nat_eq kind 0 then Some 0xA0
    else if nat_eq kind 1 then Some 0x81
    else if nat_eq kind 2 then Some 0x82
    else if nat_eq kind 4 then Some 0xA4
    else if nat_eq kind 5 then Some 0xA5
    else if nat_eq kind 6 then Some 0x86
    else if nat_eq kind 7 then Some 0x87
    else if nat_eq kind 8 then Some 0x88
    else None

-- the kind of the names with that identifier octet
abbrev pub tag_kind : ℕ → ℕ
tag_kind tag =
    if nat_eq tag 0xA0 then 0
    else if nat_eq tag 0x81 then 1
    else if nat_eq tag 0x82 then 2
    else if nat_eq tag 0xA4 then 4
    else if nat_eq tag 0xA5 then 5
    else if nat_eq tag 0x86 then 6
    else if nat_eq tag 0x87 then 7
    else 8

-- the name of that kind that holds these octets, as a view of it says both
pub record IsNameOf (kind : ℕ) (content : List ℕ) (name : GeneralName) : Type 0 where
  pub kind_is : kind_of name ≡ kind
  pub held_is : held name ≡ content

-- there is none: there is no such kind, or no name of it holds these octets
abbrev pub RefusesName : ℕ → List ℕ → ErrorKind → Type 0
RefusesName kind content e =
    ((e ≡ Value) × (name_tag kind ≡ None)) ⊎ ((e ≡ Malformed) × ((name : GeneralName) → IsNameOf kind content name → general_name.good name → ⊥))

-- the otherName of the type with that OID, and with the value of that encoding
abbrev pub IsOtherNameOf : List ℕ → List ℕ → GeneralName → Type 0
IsOtherNameOf type_id value name = (other : others.OtherName) × (name ≡ OtherName other) × (other.type_id ≡ type_id) × Spells any other.value value

abbrev pub RefusesOtherName : List ℕ → List ℕ → ErrorKind → Type 0
RefusesOtherName type_id value e = RefusesOid type_id e ⊎ IsRefused any (λ e. ⊥) value e

-- ---- what holds a general name

-- by the method with that OID, at the location of that encoding (RFC 5280 4.2.2.1)
pub record IsAccessOf (method location : List ℕ) (access : AccessDescription) : Type 0 where
  pub method_is : access.access_method ≡ method
  pub location_is : Spells general_name access.access_location location

abbrev pub RefusesAccess : List ℕ → List ℕ → ErrorKind → Type 0
RefusesAccess method location e = RefusesOid method e ⊎ IsRefused general_name (λ e. ⊥) location e

-- that with the base of that encoding, and all below it (RFC 5280 4.2.1.10)
pub record IsSubtreeOf (base : List ℕ) (subtree : GeneralSubtree) : Type 0 where
  pub base_is : Spells general_name subtree.base base
  pub minimum_is : subtree.minimum ≡ 0
  pub maximum_is : subtree.maximum ≡ None

-- the subtrees whose encodings the bytes are, unless there are none
abbrev pub AreSubtreesOf : List ℕ → Option (List GeneralSubtree) → Type 0
AreSubtreesOf bytes subtrees = (given : List GeneralSubtree) × SpellEach general_subtree given bytes × (subtrees ≡ unless_empty given)

-- those with the subtrees of these encodings, of one of both at least (RFC 5280 4.2.1.10)
pub record AreNameConstraintsOf (permitted excluded : List ℕ) (constraints : NameConstraints) : Type 0 where
  pub permitted_are : AreSubtreesOf permitted constraints.permitted_subtrees
  pub excluded_are : AreSubtreesOf excluded constraints.excluded_subtrees
  pub some : permitted ≡ [] → excluded ≡ [] → ⊥

abbrev pub RefusesNameConstraints : List ℕ → List ℕ → ErrorKind → Type 0
RefusesNameConstraints permitted excluded e =
    RefusesEach general_subtree (λ e. ⊥) permitted e
    ⊎ (RefusesEach general_subtree (λ e. ⊥) excluded e
    ⊎ ((e ≡ Value) × (permitted ≡ []) × (excluded ≡ [])))
