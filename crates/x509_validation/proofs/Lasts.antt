-- What is wrong with the last certificate of a path, whatever stands above it.
use Rattle.std.proofs.Common.{◌≡◌, ◌∙◌, ◌<◌, inl, inr, ℕ, suc, Bool, true, false, List, [], ◌∷◌, ◌++◌, length, take, drop, get_or, Option, Some, None, refl, sym, ap, subst, arith}
use Rattle.std.proofs.Math.Seq.{drop-cons}
use Rattle.std.proofs.lemmas.List.{take-append-drop}
use Rattle.std.proofs.lemmas.List.Elements.{All-cons, All-nil}
use Rattle.std.specs.List.{All}
use Rattle.x509_cert.specs.Certificate.{rfc5280_certificate}
use Rattle.x509_der.specs.Form.{Spells}
use Rattle.x509_path.specs.Certificates.{Accepting, Certificate}
use Rattle.x509_path.specs.Path.{HasFaultBehind, subject_of}
use Rattle.x509_path.specs.declared.anchor.Anchor.{Anchor}
use Rattle.x509_path_steps.proofs.LeftPurposes.{parted}
use Rattle.x509_path_steps.specs.Inputs.{Inputs, LendsInputs}
use Rattle.x509_path_steps.specs.Validation.{AllowsPurpose, Breaks, LackPurpose, PathIsValid, asked_at, faults_at}
use Rattle.x509_path_steps.specs.declared.asked.Uses.{Uses}
use Rattle.x509_path_steps.specs.declared.settings.PathSettings.{PathSettings}
use Rattle.x509_path_steps.specs.declared.trusted.Trusted.{Trusted}
use Rattle.x509_path_steps.specs.declared.validation_fault.ValidationReason.{ValidationReason}
use Rattle.x509_path_steps.specs.declared.validation_fault.ValidationReason.TheVariants.{Decode, Algorithm, Issuer, Moment, Signature, Repeated, Critical, Extension, NotCa, KeyUsage, PathLen, Names, Constraints, RepeatedPolicy, Policy, PolicyMapping, Version, Usage, Purpose}
use Rattle.x509_validation.specs.Judging.{standing}
use Rattle.x509_validation.specs.Last.{AskedAlone, BreaksAlone, TellsAlone, asked_alone, lone_reasons}

-- none of several allows a purpose that one of them doesn't
lack_more : (purposes : Option (List (List ℕ))) (is_chained : Bool) (before : List Certificate) (c : Certificate) → LackPurpose purposes (c ∷ [])
    → LackPurpose purposes (asked_at is_chained true before c)
lack_more None is_chained before c lack = lack
lack_more (Some purposes) true before c lack = λ p named all.
    let (front, last) = parted (λ d. AllowsPurpose p d) before c all in
    lack p named (All-cons (λ d. AllowsPurpose p d) c [] last (All-nil (λ d. AllowsPurpose p d)))
lack_more (Some purposes) false before c lack = lack

-- what is asked of a certificate alone, of the inputs
abbrev asked_of : Inputs → AskedAlone
asked_of inputs = record { moment = inputs.moment; purposes = inputs.purposes; key_usage = inputs.uses.key_usage }

same_asked : (trusted : Trusted) (settings : PathSettings) (inputs : Inputs) → LendsInputs trusted settings inputs → asked_alone settings ≡ asked_of inputs
same_asked trusted settings inputs lends =
    let moment = lends.moment in
    let purposes = lends.purposes in
    let usage = ap (λ (u : Uses). u.key_usage) lends.uses in
    cc

module _ (accepts : Accepting) (inputs : Inputs) where
  breaks : (above : Anchor) (before : List Certificate) (n : ℕ) (bytes : List ℕ) (c : Certificate) (reason : ValidationReason) → BreaksAlone (asked_of inputs) c reason
      → Breaks accepts inputs (standing above before true n) bytes c reason
  breaks above before n bytes c Decode is = absurd is
  breaks above before n bytes c Algorithm is = is
  breaks above before n bytes c Issuer is = absurd is
  breaks above before n bytes c Moment is = is
  breaks above before n bytes c Signature is = absurd is
  breaks above before n bytes c Repeated is = is
  breaks above before n bytes c Critical is = is
  breaks above before n bytes c Extension is = is
  breaks above before n bytes c NotCa is = absurd is
  breaks above before n bytes c KeyUsage is = absurd is
  breaks above before n bytes c PathLen is = absurd is
  breaks above before n bytes c Names is = absurd is
  breaks above before n bytes c Constraints is = absurd is
  breaks above before n bytes c RepeatedPolicy is = absurd is
  breaks above before n bytes c Policy is = absurd is
  breaks above before n bytes c PolicyMapping is = absurd is
  breaks above before n bytes c Version is = is
  breaks above before n bytes c Usage is = (refl, is)
  breaks above before n bytes c Purpose is = lack_more inputs.purposes inputs.uses.is_chained before c is

  module _ (bytes : List ℕ) (c : Certificate) (reason : ValidationReason) (spells : Spells rfc5280_certificate c bytes) (is : BreaksAlone (asked_of inputs) c reason) where
    -- a path that ends in it has a fault: there, or above, where what stands there is no certificate
    faulty : (above : List (List ℕ)) (anchor : Anchor) (before : List Certificate)
        → ((place : ℕ) (r : ValidationReason) → HasFaultBehind (faults_at accepts inputs) anchor before (above ++ bytes ∷ []) place r → ⊥) → ⊥
    faulty [] anchor before none = none 0 reason (inr (c, spells, breaks anchor before _ bytes c reason is))
    faulty (input ∷ above) anchor before none =
        let unreadable : ((d : Certificate) → Spells rfc5280_certificate d input → ⊥) → ⊥ = λ no. none 0 Decode (inl (no, refl)) in
        unreadable (λ d reads. faulty above (subject_of d) (before ++ d ∷ []) (λ place r fault. none (suc place) r (d, reads, fault)))

    not_valid : (above : List (List ℕ)) → PathIsValid accepts inputs (above ++ bytes ∷ []) → ⊥
    not_valid above valid = faulty above inputs.trust.anchor [] valid.no_fault

pub none_valid : (accepts : Accepting) (trusted : Trusted) (settings : PathSettings) (inputs : Inputs) (above : List (List ℕ)) (bytes : List ℕ) (c : Certificate) (reason : ValidationReason)
    → LendsInputs trusted settings inputs → Spells rfc5280_certificate c bytes → BreaksAlone (asked_alone settings) c reason → PathIsValid accepts inputs (above ++ bytes ∷ []) → ⊥
none_valid accepts trusted settings inputs above bytes c reason lends spells is valid =
    not_valid accepts inputs bytes c reason spells (subst (λ asked. BreaksAlone asked c reason) (same_asked trusted settings inputs lends) is) above valid

-- ---- what is told

module _ (asked : AskedAlone) (c : Certificate) where
  abbrev Free : List ValidationReason → Type 0
  Free rs = All (λ r. BreaksAlone asked c r → ⊥) rs

  -- the one at a place, where none before it holds
  pub first_lone : (i : ℕ) → i < length lone_reasons → Free (take i lone_reasons) → BreaksAlone asked c (get_or lone_reasons i Decode) → TellsAlone asked c (Some (get_or lone_reasons i Decode))
  first_lone i less free is = record {
    earlier = take i lone_reasons;
    later = drop (suc i) lone_reasons;
    order = sym (take-append-drop i lone_reasons) ∙ ap (λ ys. take i lone_reasons ++ ys) (drop-cons lone_reasons i Decode less);
    has = is;
    none_earlier = free;
  }

  pub none_lone : Free lone_reasons → TellsAlone asked c None
  none_lone free Decode = λ is. is
  none_lone free Algorithm = free 0 Decode (omega arith)
  none_lone free Issuer = λ is. is
  none_lone free Moment = free 1 Decode (omega arith)
  none_lone free Signature = λ is. is
  none_lone free Repeated = free 3 Decode (omega arith)
  none_lone free Critical = free 5 Decode (omega arith)
  none_lone free Extension = free 4 Decode (omega arith)
  none_lone free NotCa = λ is. is
  none_lone free KeyUsage = λ is. is
  none_lone free PathLen = λ is. is
  none_lone free Names = λ is. is
  none_lone free Constraints = λ is. is
  none_lone free RepeatedPolicy = λ is. is
  none_lone free Policy = λ is. is
  none_lone free PolicyMapping = λ is. is
  none_lone free Version = free 2 Decode (omega arith)
  none_lone free Usage = free 6 Decode (omega arith)
  none_lone free Purpose = free 7 Decode (omega arith)
