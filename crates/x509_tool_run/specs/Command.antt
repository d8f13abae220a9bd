-- What the words after the program's name ask for.
use Rattle.std.specs.Prelude.{ℕ, Bool, List, [], ◌∷◌, Option, Some, None, codes, if◌then◌else◌}
use Rattle.std.specs.Str.{bytes_eq}
use Rattle.x509_tool_run.specs.declared.command.Kind.{Kind}
use Rattle.x509_tool_run.specs.declared.command.Kind.TheVariants.{Anchor, Any, Certificate, Crl, Extensions, GeneralNames, Integer, Name, Oid, Rdn, Request, Serial, Time, Validity}
use Rattle.x509_codec.specs.ProfileNames.{profile_of}
use Rattle.x509_codec.specs.declared.profile_name.ProfileName.{ProfileName}
use Rattle.x509_codec.specs.declared.profile_name.ProfileName.TheVariants.{Rfc5280}
use Rattle.x509_codec.specs.declared.signatures.Signatures.{Signatures}
use Rattle.x509_codec.specs.declared.signatures.Signatures.TheVariants.{Echoes, Any as AnySignature}
use Rattle.x509_tool_run.specs.declared.command.Command.{Command}
use Rattle.x509_tool_run.specs.declared.command.Command.TheVariants as commands

-- the type that a word names
abbrev pub kind_of : List ℕ → Option Kind
kind_of word =
    if bytes_eq word (codes "anchor") then Some Anchor
    else if bytes_eq word (codes "any") then Some Any
    else if bytes_eq word (codes "certificate") then Some Certificate
    else if bytes_eq word (codes "crl") then Some Crl
    else if bytes_eq word (codes "extensions") then Some Extensions
    else if bytes_eq word (codes "general-names") then Some GeneralNames
    else if bytes_eq word (codes "integer") then Some Integer
    else if bytes_eq word (codes "name") then Some Name
    else if bytes_eq word (codes "oid") then Some Oid
    else if bytes_eq word (codes "rdn") then Some Rdn
    else if bytes_eq word (codes "request") then Some Request
    else if bytes_eq word (codes "serial") then Some Serial
    else if bytes_eq word (codes "time") then Some Time
    else if bytes_eq word (codes "validity") then Some Validity
    else None

-- the name of a type in the table of types
abbrev pub type_name : Kind → List ℕ
type_name Anchor = codes "TrustAnchorChoice"
type_name Any = codes "Any"
type_name Certificate = codes "Certificate"
type_name Crl = codes "CertificateList"
type_name Extensions = codes "Extensions"
type_name GeneralNames = codes "GeneralNames"
type_name Integer = codes "Int"
type_name Name = codes "Name"
type_name Oid = codes "ObjectIdentifier"
type_name Rdn = codes "RelativeDistinguishedName"
type_name Request = codes "CertReq"
type_name Serial = codes "SerialNumber"
type_name Time = codes "Time"
type_name Validity = codes "Validity"

-- a re-encoding, where both of its words are names
abbrev pub reencoding_of : Option Kind → Option ProfileName → Option Command
reencoding_of (Some kind) (Some profile) = Some (commands.Reencode kind profile)
reencoding_of (Some kind) None = None
reencoding_of None profile = None

-- `name` or `encode-name`
abbrev pub name_command_of : List ℕ → Option Command
name_command_of word =
    if bytes_eq word (codes "name") then Some commands.Name
    else if bytes_eq word (codes "encode-name") then Some commands.EncodeName
    else None

-- `reencode TYPE [rfc5280|raw]`, under rfc5280 where the last word is left out; or a command over names
abbrev pub command_of : List (List ℕ) → Option Command
command_of (command ∷ []) = name_command_of command
command_of (command ∷ kind ∷ []) =
    if bytes_eq command (codes "reencode") then reencoding_of (kind_of kind) (Some Rfc5280) else None
command_of (command ∷ kind ∷ profile ∷ []) =
    if bytes_eq command (codes "reencode") then reencoding_of (kind_of kind) (profile_of profile) else None
command_of words = None

abbrev pub is_path : List ℕ → Bool
is_path word = bytes_eq word (codes "path")

-- `--any-signature`
abbrev pub accepted_by : List ℕ → Option Signatures
accepted_by word = if bytes_eq word (codes "--any-signature") then Some AnySignature else None

abbrev pub at_moment : List ℕ → Option Signatures → Option (Signatures × List ℕ)
at_moment moment None = None
at_moment moment (Some accepted) = Some (accepted, moment)

-- `path [--any-signature] MOMENT`: which signatures are accepted, and the text of the moment
abbrev pub path_of : List (List ℕ) → Option (Signatures × List ℕ)
path_of (command ∷ moment ∷ []) = if is_path command then Some (Echoes, moment) else None
path_of (command ∷ option ∷ moment ∷ []) = if is_path command then at_moment moment (accepted_by option) else None
path_of words = None
