-- Paths that lead from what is trusted, over candidates, to a certificate (RFC 5280 6.1).
use Rattle.std.specs.Borrow.{Bor}
use Rattle.std.specs.Prelude.{◌≡◌, ◌≤◌, ◌+◌, ℕ, List, [], ◌∷◌, ◌++◌, length, map, Contains, Option, Some, None, Result, Ok, Err}
use Rattle.std.specs.List.{All}
use Rattle.x509_cert.specs.Certificate.{rfc5280_certificate}
use Rattle.x509_der.specs.Form.{Spells}
use Rattle.x509_match.specs.Matching.{NamesMatch}
use Rattle.x509_name.specs.Names.{name}
use Rattle.x509_path.specs.Certificates.{Accepting, Certificate}
use Rattle.x509_path_steps.specs.Inputs.{AreUnreadable, Inputs, LendsInputs}
use Rattle.x509_path_steps.specs.Validation.{AreUnusable, Gives, HasFault, PathIsValid}
use Rattle.x509_path_steps.specs.declared.settings.PathSettings.{PathSettings}
use Rattle.x509_path_steps.specs.declared.trusted.Trusted.{Trusted}
use Rattle.x509_path_steps.specs.declared.validation_fault.ValidationFault.{ValidationFault}
use Rattle.x509_path_steps.specs.declared.validation_fault.ValidationFault.TheVariants.{Memory as NoMemory, Empty, Initial, At}
use Rattle.x509_path_steps.specs.declared.validation_fault.ValidationReason.{ValidationReason}
use Rattle.x509_validation.specs.Last.{TellsAlone, asked_alone}
use Rattle.x509_verify.specs.Named.{IsDecodable, Name}
use Rattle.x509_verify.specs.declared.find_error.FindError.{FindError}
use Rattle.x509_verify.specs.declared.find_error.FindError.TheVariants.{Memory, Limit, Decode, Leaf, UnknownIssuer, Refused}
use Rattle.x509_verify.specs.declared.found.Found.{Found}
use Rattle.x509_verify.specs.declared.refusal.Refusal.{Refusal}

-- no certificate stands there twice (6.1)
abbrev pub AreDistinct : List (List ℕ) → Type 0
AreDistinct [] = Unit {0}
AreDistinct (bytes ∷ path) = (Contains path bytes → ⊥) × AreDistinct path

-- what a search is for: under which settings, among which candidates, up to how many of them, and to which certificate
pub record Wanted : Type 0 where
  pub settings : PathSettings
  pub trusted : List Trusted
  pub candidates : List (List ℕ)
  pub max_depth : ℕ
  pub leaf : List ℕ

-- what is trusted can be read, and so can the settings, and under them the path is valid
pub record IsValidUnder (accepts : Accepting) (settings : PathSettings) (trusted : Trusted) (path : List (List ℕ)) : Type 0 where
  pub readable : AreUnreadable trusted settings → ⊥
  pub valid : (inputs : Inputs) → LendsInputs trusted settings inputs → PathIsValid accepts inputs path

-- the issuer of each matches the name above it, from that name down (6.1.3 (a) (4))
abbrev pub AreLinked : Name → List (List ℕ) → Type 0
AreLinked above [] = Unit {0}
AreLinked above (bytes ∷ path) = (c : Certificate) × Spells rfc5280_certificate c bytes × NamesMatch c.tbs_certificate.issuer above × AreLinked c.tbs_certificate.subject path

-- above the certificate stand candidates, topmost first: none of them twice, nor the certificate itself, and no more than are allowed
pub record IsAbove (wanted : Wanted) (above : List (List ℕ)) : Type 0 where
  pub known : All (λ bytes. Contains wanted.candidates bytes) above
  pub once : AreDistinct (above ++ wanted.leaf ∷ [])
  pub short : length above ≤ wanted.max_depth

-- such a path is valid under what is trusted
pub record LeadsTo (accepts : Accepting) (wanted : Wanted) (trusted : Trusted) (above : List (List ℕ)) : Type 0 where
  pub is_trusted : Contains wanted.trusted trusted
  pub stand : IsAbove wanted above
  pub valid : IsValidUnder accepts wanted.settings trusted (above ++ wanted.leaf ∷ [])

-- the names of such a path are linked, from that of what is trusted on
pub record IsLinkedTo (wanted : Wanted) (trusted : Trusted) (above : List (List ℕ)) : Type 0 where
  pub is_trusted : Contains wanted.trusted trusted
  pub stand : IsAbove wanted above
  pub linked : (x : Name) × Spells name x trusted.anchor.name.now × AreLinked x (above ++ wanted.leaf ∷ [])

-- no path leads there
abbrev pub NoneLeads : Accepting → Wanted → Type 0
NoneLeads accepts wanted = (trusted : Trusted) (above : List (List ℕ)) → LeadsTo accepts wanted trusted above → ⊥

-- there isn't even one whose names are linked
abbrev pub NoneIsLinked : Wanted → Type 0
NoneIsLinked wanted = (trusted : Trusted) (above : List (List ℕ)) → IsLinkedTo wanted trusted above → ⊥

-- why the path isn't valid
abbrev pub Refuses : Accepting → Inputs → List (List ℕ) → ValidationFault → Type 0
Refuses accepts inputs path NoMemory = ⊥
Refuses accepts inputs path Empty = ⊥
Refuses accepts inputs path Initial = AreUnusable inputs
Refuses accepts inputs path (At place reason) = HasFault accepts inputs path place reason

abbrev pub octets : List (Bor (List ℕ)) → List (List ℕ)
octets lent = map (λ bytes. bytes.now) lent

-- The refusal is of such a path under what is trusted: the fault is one that it has.
pub record IsRefusal (accepts : Accepting) (wanted : Wanted) (refusal : Refusal) : Type 0 where
  pub above : List (List ℕ)
  pub path : octets refusal.path.items ≡ above ++ wanted.leaf ∷ []
  pub is_trusted : Contains wanted.trusted refusal.trusted
  pub stand : IsAbove wanted above
  pub fault : (inputs : Inputs) → LendsInputs refusal.trusted wanted.settings inputs → Refuses accepts inputs (octets refusal.path.items) refusal.fault

-- what is found: such a path, and what it gives
pub record IsFound (accepts : Accepting) (wanted : Wanted) (found : Found) : Type 0 where
  pub above : List (List ℕ)
  pub path : octets found.path.items ≡ above ++ wanted.leaf ∷ []
  pub leads : LeadsTo accepts wanted found.trusted above
  pub gives : (inputs : Inputs) → LendsInputs found.trusted wanted.settings inputs → Gives inputs (octets found.path.items) found.validated

-- no such path has fewer certificates
abbrev pub IsShortest : Accepting → Wanted → Found → Type 0
IsShortest accepts wanted found = (trusted : Trusted) (above : List (List ℕ)) → LeadsTo accepts wanted trusted above → length found.path.items ≤ length above + 1

-- the leaf is wrong in whatever path: first of all with that
pub record HasOwnFault (wanted : Wanted) (reason : ValidationReason) : Type 0 where
  pub certificate : Certificate
  pub spells : Spells rfc5280_certificate certificate wanted.leaf
  pub first : TellsAlone (asked_alone wanted.settings) certificate (Some reason)

-- it is a certificate with which nothing is wrong in whatever path
pub record IsSound (wanted : Wanted) : Type 0 where
  pub certificate : Certificate
  pub spells : Spells rfc5280_certificate certificate wanted.leaf
  pub none : TellsAlone (asked_alone wanted.settings) certificate None

-- what is told where there is no path: the refusal that was noted, if there is one
abbrev pub told_by : Option Refusal → FindError
told_by None = UnknownIssuer
told_by (Some refusal) = Refused refusal

-- What is answered. First of all what is wrong with the leaf alone. Where memory or a limit is used up, nothing is said of paths.
abbrev pub Answers : Accepting → Wanted → Result Found FindError → Type 0
Answers accepts wanted (Ok found) = IsFound accepts wanted found × IsShortest accepts wanted found
Answers accepts wanted (Err Memory) = IsDecodable wanted.leaf
Answers accepts wanted (Err Limit) = IsSound wanted
Answers accepts wanted (Err Decode) = IsDecodable wanted.leaf → ⊥
Answers accepts wanted (Err (Leaf reason)) = HasOwnFault wanted reason × NoneLeads accepts wanted
Answers accepts wanted (Err UnknownIssuer) = IsSound wanted × NoneIsLinked wanted × NoneLeads accepts wanted
Answers accepts wanted (Err (Refused refusal)) = IsSound wanted × NoneLeads accepts wanted × IsRefusal accepts wanted refusal
