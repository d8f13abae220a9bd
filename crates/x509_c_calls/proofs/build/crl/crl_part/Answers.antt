use Rattle.std.proofs.Common.{◌≡◌, ◌⊎◌, ◌∙◌, ap, inr, subst, sym}
use Rattle.std.proofs.lemmas.Bool.{false≢true}
use Rattle.x509_ext.specs.LookUp.{IsRepeated}
use Rattle.std.proofs.lemmas.Result.{err_from_is_err_and}
use Rattle.x509_base.specs.declared.algorithm_identifier.AlgorithmIdentifier.{AlgorithmIdentifier}
use Rattle.x509_base.specs.declared.profile.Rfc5280.{Rfc5280}
use Rattle.x509_build.specs.CrlParts.{next_part}
use Rattle.x509_build.specs.declared.crl_builder.CrlBuilder.{CrlBuilder}
use Rattle.x509_build.specs.Parts.{Encodes, PartRefuses}
use Rattle.x509_c_calls.proofs.Exits.{mapped}
use Rattle.x509_c_calls.proofs.BuildParts.{is_prepared}
use Rattle.x509_c_calls.proofs.build.crl.crl_part.Goals as goal
use Rattle.x509_c_calls.specs.Assembly.{crl_part}
use Rattle.x509_c_calls.specs.Crls.{prepared}
use Rattle.x509_c_calls.specs.Refusals.{kind_of}
use Rattle.x509_der.specs.declared.error.ErrorKind.TheVariants.{Memory}
use Rattle.x509_der.specs.Writing.{plain}

pub with_entries-requires : goal.with_entries-requires
with_entries-requires c = ap (λ (b : CrlBuilder Rfc5280). b.tbs.revoked_certificates) (c.with_next_update.ensures ∙ ap (λ (b : CrlBuilder Rfc5280). record b { tbs = record b.tbs { next_update = c.args.inputs.next_update } }) c.in_ok-start.ensures.ok.4)

pub returns-in_err-bytes : goal.returns-in_err-bytes
returns-in_err-bytes c =
    let p = err_from_is_err_and c.from_residual-in_err-bytes.result c.from_residual-in_err-bytes.ensures.1 in
    let inputs = c.args.inputs in
    let start = c.in_ok-start.start in
    let e = c.in_err-bytes.field-0.0 in
    let built = is_prepared inputs start _ c.in_ok-builder.builder c.in_ok-whole.whole _ c.with_next_update.ensures c.in_ok-builder.ensures.ok c.in_ok-whole.ensures.ok c.from.ensures in
    let refused : (kind_of e ≡ Memory) ⊎ PartRefuses crl_part plain (next_part (prepared start inputs).tbs (prepared start inputs).extensions inputs.algorithm) e =
    subst (λ (a : AlgorithmIdentifier). (kind_of e ≡ Memory) ⊎ PartRefuses crl_part plain (next_part (prepared start inputs).tbs (prepared start inputs).extensions a) e) c.in_ok-teller.ensures.ok
    (subst (λ (b : CrlBuilder Rfc5280). (kind_of e ≡ Memory) ⊎ PartRefuses crl_part plain (next_part b.tbs b.extensions c.in_ok-teller.teller.algorithm) e) built c.in_err-bytes.ensures) in
    rw (p.1, p.2) (mapped (λ r. inr (start, c.in_ok-start.ensures.ok, r)) refused)

pub returns-then-branch : goal.returns-then-branch
returns-then-branch c =
    let inputs = c.args.inputs in
    let start = c.in_ok-start.start in
    let built = is_prepared inputs start _ c.in_ok-builder.builder c.in_ok-whole.whole _ c.with_next_update.ensures c.in_ok-builder.ensures.ok c.in_ok-whole.ensures.ok c.from.ensures in
    let same : c.extensions.result.now ≡ (prepared start inputs).extensions = c.extensions.ensures ∙ ap (λ (b : CrlBuilder Rfc5280). b.extensions) built in
    (start, c.in_ok-start.ensures.ok, subst IsRepeated same (c.in_ok-has_repeated_extension.ensures.ok.0 c.if-branch.true))

pub returns : goal.returns
returns c =
    let inputs = c.args.inputs in
    let start = c.in_ok-start.start in
    let bytes = c.in_ok-bytes.bytes.items in
    let built = is_prepared inputs start _ c.in_ok-builder.builder c.in_ok-whole.whole _ c.with_next_update.ensures c.in_ok-builder.ensures.ok c.in_ok-whole.ensures.ok c.from.ensures in
    let same : c.extensions.result.now ≡ (prepared start inputs).extensions = c.extensions.ensures ∙ ap (λ (b : CrlBuilder Rfc5280). b.extensions) built in (
      start,
      c.in_ok-start.ensures.ok,
      subst (λ (a : AlgorithmIdentifier). Encodes crl_part plain (next_part (prepared start inputs).tbs (prepared start inputs).extensions a) bytes) c.in_ok-teller.ensures.ok
          (subst (λ (b : CrlBuilder Rfc5280). Encodes crl_part plain (next_part b.tbs b.extensions c.in_ok-teller.teller.algorithm) bytes) built c.in_ok-bytes.ensures),
      λ repeated. false≢true (sym c.if-branch.false ∙ c.in_ok-has_repeated_extension.ensures.ok.1 (subst IsRepeated (sym same) repeated)),
    )
