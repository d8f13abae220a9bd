-- The parts to which builders with a profile finalize.
use Rattle.std.proofs.Common.{◌≡◌, ◌⊎◌, ℕ, List, ◌++◌, Result, Ok, Err, MatchResult, refl, sym, ap, subst, ◌∙◌, inl, inr}
use Rattle.x509_c_calls.specs.Assembly.{certificate_part}
use Rattle.x509_c_calls.specs.ProfileParts.{BuildsProfile, Kind, Makes, ProfileParts, RefusesProfilePart, RepeatsExtension, part_of, start_of}
use Rattle.x509_c_calls.specs.Built.{FillsUnrepeated}
use Rattle.x509_c_calls.specs.Refusals.{kind_of}
use Rattle.x509_c_calls.specs.Status.{Fills}
use Rattle.x509_c_calls.specs.declared.build.profile.ProfileInputs.{ProfileInputs}
use Rattle.x509_c_calls.specs.declared.status.status.Status.{Status}
use Rattle.x509_c_calls.specs.declared.status.status.Status.TheVariants.{Done, NoRoom, Absent, Repeated, Faulty, Limit, Refused}
use Rattle.x509_build.specs.CertificateParts.{TbsCertificate, next_part}
use Rattle.x509_build.specs.Answer.{IsRefused}
use Rattle.x509_build.specs.Parts.{Encodes, PartRefuses}
use Rattle.x509_build.specs.declared.certificate_builder.CertificateBuilder.{CertificateBuilder}
use Rattle.x509_build.specs.declared.error.Error as builder_errors
use Rattle.x509_ext.specs.declared.extension.Extension.{Extension}
use Rattle.x509_der.specs.Writing.{Writing}
use Rattle.x509_der.specs.declared.error.ErrorKind.{ErrorKind}
use Rattle.x509_der.specs.declared.error.ErrorKind.TheVariants.{Memory}

module _ {P : Type 0} (kind : Kind P) (writing : Writing TbsCertificate) (Are : ProfileInputs P → Type 0) (Refuses : ErrorKind → Type 0) where
  -- a refusal of the inputs is one of the call
  told : (e refusal : ErrorKind) → (refusal ≡ Memory) ⊎ Refuses refusal → e ≡ refusal → (e ≡ Memory) ⊎ Refuses e
  told e refusal why same = subst (λ k. (k ≡ Memory) ⊎ Refuses k) (sym same) why

  refused : (e refusal : ErrorKind) → (refusal ≡ Memory) ⊎ Refuses refusal → (e ≡ Memory) ⊎ (e ≡ refusal) → (e ≡ Memory) ⊎ BuildsProfile kind writing Are Refuses (Err (Refused e))
  unfolding BuildsProfile
  refused e refusal why (inl memory) = inl memory
  refused e refusal why (inr same) = elim (told e refusal why same) [ inl memory ↦ inl memory | inr refuses ↦ inr (inl refuses) ]

  -- what is made of inputs that are as they should be is what the call builds
  pub builds : (inputs : Result (ProfileInputs P) ErrorKind) → MatchResult inputs Are (λ e. (e ≡ Memory) ⊎ Refuses e) → (room filled : List ℕ) (was written : ℕ) (status : Status)
      → FillsUnrepeated (Makes kind writing inputs) room filled was written status → FillsUnrepeated (BuildsProfile kind writing Are Refuses) room filled was written status
  unfolding Fills FillsUnrepeated Makes BuildsProfile
  builds (Ok inputs) are room filled was written Done (bytes, makes, front, len) = (bytes, (inputs, are, makes.0, makes.1), front, len)
  builds (Ok inputs) are room filled was written NoRoom (bytes, makes, more, len) = (bytes, (inputs, are, makes.0, makes.1), more, len)
  builds (Ok inputs) are room filled was written (Refused e) (why, same) = (elim why [ inl memory ↦ inl memory | inr makes ↦ inr (inr (inputs, are, makes.0, makes.1, makes.2)) ], same)
  builds (Ok inputs) are room filled was written Absent left = left
  builds (Ok inputs) are room filled was written Repeated (repeats, same, full) = ((inputs, are, repeats), same, full)
  builds (Ok inputs) are room filled was written Faulty left = left
  builds (Ok inputs) are room filled was written Limit left = left
  builds (Err refusal) why room filled was written Done (bytes, makes, front, len) = absurd makes
  builds (Err refusal) why room filled was written NoRoom (bytes, makes, more, len) = absurd makes
  builds (Err refusal) why room filled was written (Refused e) (given, same) = (refused e refusal why given, same)
  builds (Err refusal) why room filled was written Absent left = left
  builds (Err refusal) why room filled was written Repeated (repeats, same, full) = absurd repeats
  builds (Err refusal) why room filled was written Faulty left = left
  builds (Err refusal) why room filled was written Limit left = left

-- the builder with the added extensions
module _ {P : Type 0} (kind : Kind P) (inputs : ProfileInputs P) where
  abbrev pub with_added : CertificateBuilder P
  with_added = record (start_of kind inputs).value { extensions = inputs.part.extensions.items }

  pub is_with_added : (start builder : CertificateBuilder P) (given : List Extension) → start ≡ (start_of kind inputs).value → builder ≡ record start { extensions = start.extensions ++ given } → given ≡ inputs.part.extensions.items → builder ≡ with_added
  is_with_added start builder given starts is same =
      is ∙ ap (λ (b : CertificateBuilder P). record b { extensions = b.extensions ++ given }) starts ∙ ap (λ (g : List Extension). record (start_of kind inputs).value { extensions = g }) same

  -- what is refused of it is refused of the part
  pub refused_part : (writing : Writing TbsCertificate) (builder : CertificateBuilder P) (e : builder_errors.Error) → (IsRefused (start_of kind inputs) → ⊥) → builder ≡ with_added
      → PartRefuses certificate_part writing (next_part (kind.extensions_of builder.profile) builder.tbs builder.extensions inputs.part.algorithm inputs.issuer_key) e → RefusesProfilePart kind writing inputs e
  unfolding RefusesProfilePart
  refused_part writing builder e starts is refuses =
      inr (starts, subst (λ (b : CertificateBuilder P). PartRefuses certificate_part writing (next_part (kind.extensions_of b.profile) b.tbs b.extensions inputs.part.algorithm inputs.issuer_key) e) is refuses)

  -- what is encoded of it is encoded of the part
  pub encoded_part : (writing : Writing TbsCertificate) (builder : CertificateBuilder P) (bytes : List ℕ) → builder ≡ with_added
      → Encodes certificate_part writing (next_part (kind.extensions_of builder.profile) builder.tbs builder.extensions inputs.part.algorithm inputs.issuer_key) bytes → Encodes certificate_part writing (part_of kind inputs) bytes
  encoded_part writing builder bytes is encodes =
      subst (λ (b : CertificateBuilder P). Encodes certificate_part writing (next_part (kind.extensions_of b.profile) b.tbs b.extensions inputs.part.algorithm inputs.issuer_key) bytes) is encodes

  -- what is built of it is the part
  pub part_built : (builder : CertificateBuilder P) (part : TbsCertificate) → builder ≡ with_added
      → part ≡ (next_part (kind.extensions_of builder.profile) builder.tbs builder.extensions inputs.part.algorithm inputs.issuer_key).value → part ≡ (part_of kind inputs).value
  part_built builder part is made =
      made ∙ ap (λ (b : CertificateBuilder P). (next_part (kind.extensions_of b.profile) b.tbs b.extensions inputs.part.algorithm inputs.issuer_key).value) is

-- what is made where the inputs were read
module _ {P : Type 0} (kind : Kind P) (writing : Writing TbsCertificate) (inputs : Result (ProfileInputs P) ErrorKind) (given : ProfileInputs P) (is : inputs ≡ Ok given) where
  pub made : (bytes : List ℕ) → ProfileParts kind writing given bytes × (¬ RepeatsExtension kind given) → Makes kind writing inputs (Ok bytes)
  unfolding Makes
  made bytes parts = rw is parts

  pub made_repeated : RepeatsExtension kind given → Makes kind writing inputs (Err Repeated)
  unfolding Makes
  made_repeated repeats = rw is repeats

  pub made_unbuilt : (why : builder_errors.Error) (e : ErrorKind) → e ≡ kind_of why → (kind_of why ≡ Memory) ⊎ RefusesProfilePart kind writing given why → (e ≡ Memory) ⊎ Makes kind writing inputs (Err (Refused e))
  unfolding Makes
  made_unbuilt why e same (inl memory) = inl (same ∙ memory)
  made_unbuilt why e same (inr refuses) = inr (rw is (why, sym same, refuses))

-- and where they were refused
pub made_of_none : {P : Type 0} (kind : Kind P) (writing : Writing TbsCertificate) (inputs : Result (ProfileInputs P) ErrorKind) (refusal : ErrorKind) → inputs ≡ Err refusal → Makes kind writing inputs (Err (Refused refusal))
unfolding Makes
made_of_none kind writing inputs refusal is = rw is refl
