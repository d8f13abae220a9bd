-- Lists of extensions that are made of their payloads (RFC 5280 4.2).
use Rattle.std.specs.Prelude.{◌≡◌, ◌<◌, ◌≤◌, ◌⊎◌, ℕ, Bool, true, false, List, [], ◌∷◌, ◌++◌, Option, Some, None, Result, Ok, Err, if◌then◌else◌}
use Rattle.sha1.specs.Sha1.{sha1}
use Rattle.x509_build.specs.declared.error.Error.{Error}
use Rattle.x509_build.specs.declared.error.Error.TheVariants.{Asn1}
use Rattle.x509_build.specs.Answer.{Answer, IsRefused}
use Rattle.x509_build.specs.Refusals.{LacksMemory}
use Rattle.x509_der.specs.Element.{limit}
use Rattle.x509_der.specs.declared.error.Error as der
use Rattle.x509_der.specs.declared.error.ErrorKind.TheVariants.{Memory, Overlength}
use Rattle.x509_der.specs.declared.tag.Tag.TheVariants.{BitString, Sequence}
use Rattle.x509_der.specs.List.{list_of}
use Rattle.x509_der.specs.Form.{Form, universal}
use Rattle.x509_der.specs.Writing.{Written, plain, writes, written_spelling, IsWritable, IsUnwritable}
use Rattle.x509_der.specs.ObjectIdentifierForm.{object_identifier}
use Rattle.x509_ext.specs.Identifiers.{id_ce, id_pkix}
use Rattle.x509_ext.specs.ToExtension.{extension_of, held_length}
use Rattle.x509_ext.specs.declared.extension.Extension.{Extension}
use Rattle.x509_ext.specs.BasicConstraints.{basic_constraints}
use Rattle.x509_ext.specs.KeyUsage.{key_usage_names}
use Rattle.x509_ext.specs.GeneralName.{general_names}
use Rattle.x509_ext.specs.declared.pkix.name.general_name.GeneralName.{GeneralName}
use Rattle.x509_ext.specs.AlternativeNames.{is_empty_name}
use Rattle.x509_ext.specs.AuthorityKeyIdentifier.{authority_key_identifier}
use Rattle.x509_name.specs.declared.attr.type_and_value.AttributeTypeAndValue.{AttributeTypeAndValue}
use Rattle.x509_prim.specs.NamedBits.{named_contents, named_written}
use Rattle.x509_prim.specs.BitString.{BitParts}
use Rattle.x509_prim.specs.OctetString.{octet_string}

-- no extension can be made of the payload: it can't be written, or it can and the OCTET STRING that is to hold it is too long
abbrev pub CantMake : {X : Type 0} → Form X → Written X → Error → Type 0
CantMake form payload (Asn1 e) = IsUnwritable form payload limit e.kind ⊎ (IsWritable form payload limit × (e.kind ≡ Overlength) × (limit < held_length (written_spelling form payload)))
CantMake form payload _ = ⊥

-- the extension of a payload, under that identifier and critical or not
abbrev pub making : {X : Type 0} → List ℕ → Bool → Form X → Written X → Answer Extension
making oid critical form payload = record { value = extension_of oid critical form payload; refuses = CantMake form payload }

-- ---- lists

abbrev pub no_extensions : Answer (List Extension)
no_extensions = record { value = []; refuses = λ e. ⊥ }

-- the extension in front of the others; refused where one of them is
infixr 9 ◌▸◌
abbrev pub ◌▸◌ : Answer Extension → Answer (List Extension) → Answer (List Extension)
first ▸ others = record { value = first.value ∷ others.value; refuses = λ e. first.refuses e ⊎ others.refuses e }

-- ---- what a call does with a list

-- The extension of a payload is put behind the others, or there is none.
abbrev pub Pushes : {X : Type 0} → List ℕ → Bool → Form X → Written X → Result Unit der.Error → List Extension → List Extension → Type 0
Pushes oid critical form payload (Ok done) old new =
    (new ≡ old ++ extension_of oid critical form payload ∷ []) × IsWritable form payload limit × (held_length (written_spelling form payload) ≤ limit)
Pushes oid critical form payload (Err e) old new =
    (e.kind ≡ Memory) ⊎ (IsUnwritable form payload limit e.kind ⊎ (IsWritable form payload limit × (e.kind ≡ Overlength) × (limit < held_length (written_spelling form payload))))

abbrev pub Appends : Answer Extension → Result Unit Error → List Extension → List Extension → Type 0
Appends extension (Ok done) old new = (new ≡ old ++ extension.value ∷ []) × (IsRefused extension → ⊥)
Appends extension (Err e) old new = LacksMemory e ⊎ extension.refuses e

-- ---- the extensions

-- the identifier of a key: the SHA-1 digest of the octets in which its bits stand (RFC 5280 4.2.1.2, method 1)
abbrev pub key_identifier : BitParts → List ℕ
key_identifier key = sha1 key.octets

-- AuthorityKeyIdentifier of that key alone (RFC 5280 4.2.1.1)
abbrev pub authority_key : BitParts → Answer Extension
authority_key key = making (id_ce 35) false authority_key_identifier (writes plain (record { key_identifier = Some (key_identifier key); authority_cert_issuer = None; authority_cert_serial_number = None }))

-- SubjectKeyIdentifier (RFC 5280 4.2.1.2)
abbrev pub subject_key : BitParts → Answer Extension
subject_key key = making (id_ce 14) false octet_string (writes plain (key_identifier key))

-- BasicConstraints (RFC 5280 4.2.1.9)
abbrev pub constraints : Bool → Option ℕ → Answer Extension
constraints ca path_len_constraint = making (id_ce 19) true basic_constraints (writes plain (record { ca = ca; path_len_constraint = path_len_constraint }))

-- KeyUsage, of which bit n stands for the named bit n (RFC 5280 4.2.1.3)
abbrev pub key_usage : ℕ → Answer Extension
key_usage usages = making (id_ce 15) true (universal BitString (named_contents key_usage_names)) (named_written key_usage_names usages)

-- the purposes of servers and of clients in TLS (RFC 5280 4.2.1.12)
abbrev pub server_auth : List ℕ
server_auth = id_pkix 3 1

abbrev pub client_auth : List ℕ
client_auth = id_pkix 3 2

abbrev pub purposes : Bool → List (List ℕ)
purposes with_client_auth = if with_client_auth then server_auth ∷ client_auth ∷ [] else (server_auth ∷ [])

abbrev pub GivesPurposes : Bool → Result (List (List ℕ)) der.Error → Type 0
GivesPurposes with_client_auth (Ok given) = given ≡ purposes with_client_auth
GivesPurposes with_client_auth (Err e) = e.kind ≡ Memory

-- ExtendedKeyUsage for servers, and where asked for for clients (RFC 5280 4.2.1.12)
abbrev pub extended_key_usage : Bool → Answer Extension
extended_key_usage with_client_auth = making (id_ce 37) false (universal Sequence (list_of object_identifier)) (writes plain (purposes with_client_auth))

-- SubjectAltName, critical where the subject is the empty name (RFC 5280 4.2.1.6)
abbrev pub alternative_names : List (List AttributeTypeAndValue) → List GeneralName → Answer Extension
alternative_names subject names = making (id_ce 17) (is_empty_name subject) general_names (writes plain names)
