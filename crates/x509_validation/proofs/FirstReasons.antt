-- The first of the reasons that hold against a certificate of a path that is validated.
use Rattle.std.proofs.Common.{◌≡◌, [], ◌∷◌, arith}
use Rattle.std.proofs.lemmas.List.Elements.{All-append, All-nil, All-cons}
use Rattle.x509_path.proofs.Firsts.{Free, first_at}
use Rattle.x509_path.specs.Path.{IsFirst}
use Rattle.x509_path_steps.specs.Steps.{reason_for}
use Rattle.x509_path_steps.specs.Validation.{own_reasons, reasons}
use Rattle.x509_path_steps.specs.declared.validation_fault.ValidationReason.{ValidationReason}
use Rattle.x509_path_steps.specs.declared.validation_fault.ValidationReason.TheVariants.{Decode, Algorithm, Issuer, Moment, Signature, Repeated, Critical, Extension, NotCa, KeyUsage, PathLen, Names, Constraints, RepeatedPolicy, Policy, PolicyMapping, Version, Usage, Purpose}
use Rattle.x509_policy.specs.Path as refusals
use Rattle.x509_policy.specs.Path.{Reason}

module _ (P : ValidationReason → Type 0) (readable : P Decode → ⊥) (free : Free P own_reasons) where
  -- one of policies, where none of the others holds
  pub first_policy : (q : Reason) → P (reason_for q) → ((o : Reason) → P (reason_for o) → q ≡ o) → IsFirst (Decode ∷ reasons) P (reason_for q)
  first_policy refusals.RepeatedPolicy has alone = first_at P Decode reasons [] 15 Decode (omega arith) readable free has
  first_policy refusals.NoPolicy has alone =
      let repeated = All-cons (λ r. P r → ⊥) RepeatedPolicy [] (λ h. let e = alone refusals.RepeatedPolicy h in cc) (All-nil (λ r. P r → ⊥)) in
      first_at P Decode reasons [] 16 Decode (omega arith) readable (All-append (λ r. P r → ⊥) own_reasons (RepeatedPolicy ∷ []) free repeated) has
  first_policy refusals.MapsAnyPolicy has alone =
      let no_policy = All-cons (λ r. P r → ⊥) Policy [] (λ h. let e = alone refusals.NoPolicy h in cc) (All-nil (λ r. P r → ⊥)) in
      let repeated = All-cons (λ r. P r → ⊥) RepeatedPolicy (Policy ∷ []) (λ h. let e = alone refusals.RepeatedPolicy h in cc) no_policy in
      first_at P Decode reasons [] 17 Decode (omega arith) readable (All-append (λ r. P r → ⊥) own_reasons (RepeatedPolicy ∷ Policy ∷ []) free repeated) has

  -- these are all reasons but Decode
  pub none : ((q : Reason) → P (reason_for q) → ⊥) → (r : ValidationReason) → P r → ⊥
  none policies Decode = readable
  none policies Algorithm = free 0 Decode (omega arith)
  none policies Issuer = free 1 Decode (omega arith)
  none policies Moment = free 2 Decode (omega arith)
  none policies Signature = free 3 Decode (omega arith)
  none policies Version = free 4 Decode (omega arith)
  none policies Repeated = free 5 Decode (omega arith)
  none policies Extension = free 6 Decode (omega arith)
  none policies Critical = free 7 Decode (omega arith)
  none policies NotCa = free 8 Decode (omega arith)
  none policies KeyUsage = free 9 Decode (omega arith)
  none policies PathLen = free 10 Decode (omega arith)
  none policies Usage = free 11 Decode (omega arith)
  none policies Purpose = free 12 Decode (omega arith)
  none policies Names = free 13 Decode (omega arith)
  none policies Constraints = free 14 Decode (omega arith)
  none policies RepeatedPolicy = policies refusals.RepeatedPolicy
  none policies Policy = policies refusals.NoPolicy
  none policies PolicyMapping = policies refusals.MapsAnyPolicy
