use Rattle.std.proofs.Common.{◌≡◌, ◌∙◌, ◌∷◌, ◌+◌, [], suc, Some, None, Ok, Err, length, refl, sym, ap, subst, arith}
use Rattle.std.proofs.lemmas.List.Elements.{All-nil, All-same}
use Rattle.x509_path.specs.Lent.{Lends}
use Rattle.x509_path.proofs.Lent.{issuer_spells}
use Rattle.x509_validation.specs.Last.{TellsAlone, asked_alone}
use Rattle.x509_verify.specs.Effort.{KeepsLimits, effort_below}
use Rattle.x509_verify.specs.Found.{Answers, IsSound, Wanted}
use Rattle.x509_verify.specs.Given.{candidates_of, trusted_of}
use Rattle.x509_verify.specs.Progress.{EndsSearch, FindsBehind, IsAnswer, Spends, left_of}
use Rattle.x509_verify.proofs.Deepening.{none_answers}
use Rattle.x509_verify.proofs.WithinLimits.{allowed, none_keeps, within_limits}
use Rattle.x509_verify.proofs.find.find_path.Goals as goal

pub returns-in-Ok-Some-clause-answers : goal.returns-in-Ok-Some-clause-answers
returns-in-Ok-Some-clause-answers g c =
    let accepts = g.V.SliceVerifier.accepts c.args.verifier.now in
    let settings = c.args.settings.now in
    let leaf = c.args.leaf.now in
    let (certificate, spells) = c.in-Ok.ensures.found.1 in
    let lends = subst (λ b. Lends b certificate) (sym c.in-Ok.ensures.found.0) spells in
    let reason = c.in-Ok-Some.reason in
    let told : TellsAlone (asked_alone settings) certificate (Some reason) =
    subst (λ o. TellsAlone (asked_alone settings) certificate o) c.in-Ok-Some.field-0-is (c.in-Ok-Some.ensures certificate lends) in (
      record { certificate = certificate; spells = spells; first = told },
      (λ trusted above leads. leads.valid.readable
          (λ inputs lent. c.no_valid_path_ends_in_a_faulty_certificate.ensures accepts trusted settings inputs above leaf certificate reason lent spells told.has (leads.valid.valid inputs lent))),
    )

pub returns-in-Ok-Some-climb_by_length-clause-answers : goal.returns-in-Ok-Some-climb_by_length-clause-answers
returns-in-Ok-Some-climb_by_length-clause-answers g c =
    let accepts = g.V.SliceVerifier.accepts c.args.verifier.now in
    let wanted : Wanted = record { settings = c.args.settings.now; trusted = trusted_of c.args.anchors.now; candidates = candidates_of c.args.pool.now; max_depth = c.args.limits.now.max_depth; leaf = c.args.leaf.now } in
    let (certificate, spells) = c.in-Ok.ensures.found.1 in
    let lends = subst (λ b. Lends b certificate) (sym c.in-Ok.ensures.found.0) spells in
    let key = c.in-Ok-name_key.ensures certificate.tbs_certificate.issuer (issuer_spells certificate c.in-Ok.certificate.bytes.now lends c.issuer.result.now (c.issuer.ensures certificate lends)) in
    let ends = c.in-Ok-Some-climb_by_length.ensures.tells wanted (record { settings = refl; trusted = refl; candidates = refl }) refl refl (λ no. no (certificate, spells, key))
    (All-same (IsAnswer accepts) _ _ c.new.ensures.items (All-nil (IsAnswer accepts))) refl in
    subst (λ o. EndsSearch accepts wanted c.climb_by_length.new.progress.refusal o) c.in-Ok-Some-climb_by_length.field-0-is ends.1

pub returns-in-Ok-None-climb_by_length-clause-answers : goal.returns-in-Ok-None-climb_by_length-clause-answers
returns-in-Ok-None-climb_by_length-clause-answers g c =
    let accepts = g.V.SliceVerifier.accepts c.args.verifier.now in
    let wanted : Wanted = record { settings = c.args.settings.now; trusted = trusted_of c.args.anchors.now; candidates = candidates_of c.args.pool.now; max_depth = c.args.limits.now.max_depth; leaf = c.args.leaf.now } in
    let (certificate, spells) = c.in-Ok.ensures.found.1 in
    let lends = subst (λ b. Lends b certificate) (sym c.in-Ok.ensures.found.0) spells in
    let sound : IsSound wanted = record {
      certificate = certificate;
      spells = spells;
      none = subst (λ o. TellsAlone (asked_alone wanted.settings) certificate o) c.in-Ok-None.field-0-is (c.in-Ok-None.ensures certificate lends);
    } in
    let key = c.in-Ok-name_key.ensures certificate.tbs_certificate.issuer (issuer_spells certificate c.in-Ok.certificate.bytes.now lends c.issuer.result.now (c.issuer.ensures certificate lends)) in
    let ends = c.in-Ok-None-climb_by_length.ensures.tells wanted (record { settings = refl; trusted = refl; candidates = refl }) refl refl (λ no. no (certificate, spells, key))
    (All-same (IsAnswer accepts) _ _ c.new.ensures.items (All-nil (IsAnswer accepts))) refl in
    let below = subst (λ o. EndsSearch accepts wanted c.climb_by_length.new.progress.refusal o) c.in-Ok-None-climb_by_length.field-0-is ends.1 in
    subst (λ e. Answers accepts wanted (Err e)) (sym c.none_found.ensures) (none_answers accepts wanted sound c.climb_by_length.new.progress.refusal below ends.0.refusal)

pub returns-in-Ok-None-climb_by_length-clause-bounded : goal.returns-in-Ok-None-climb_by_length-clause-bounded
returns-in-Ok-None-climb_by_length-clause-bounded g c =
    let anchors = c.args.anchors.now in
    let pool = c.args.pool.now in
    let limits = c.args.limits.now in
    let issuer = c.in-Ok-name_key.issuer in
    let all = effort_below anchors pool (suc limits.max_depth) (c.args.leaf.now ∷ []) issuer in
    let (certificate, spells) = c.in-Ok.ensures.found.1 in
    let lends = subst (λ b. Lends b certificate) (sym c.in-Ok.ensures.found.0) spells in
    let took = subst (λ o. Spends (allowed limits) (left_of c.climb_by_length.new.progress) all (Ok o)) c.in-Ok-None-climb_by_length.field-0-is c.in-Ok-None-climb_by_length.ensures.counted in
    subst (λ e. KeepsLimits anchors pool limits c.args.leaf.now (Err e)) (sym c.none_found.ensures) (none_keeps anchors pool limits c.args.leaf.now c.climb_by_length.new.progress.refusal (record {
      certificate = certificate;
      spells = spells;
      issuer = issuer;
      key = c.in-Ok-name_key.ensures certificate.tbs_certificate.issuer (issuer_spells certificate c.in-Ok.certificate.bytes.now lends c.issuer.result.now (c.issuer.ensures certificate lends));
      holds = within_limits limits (left_of c.climb_by_length.new.progress) all took;
    }))

pub returns-clause-bounded : goal.returns-clause-bounded
returns-clause-bounded g c =
    let limits = c.args.limits.now in
    let issuer = c.in-Ok-name_key.issuer in
    let all = effort_below c.args.anchors.now c.args.pool.now (suc limits.max_depth) (c.args.leaf.now ∷ []) issuer in
    let (certificate, spells) = c.in-Ok.ensures.found.1 in
    let lends = subst (λ b. Lends b certificate) (sym c.in-Ok.ensures.found.0) spells in record {
      certificate = certificate;
      spells = spells;
      issuer = issuer;
      key = c.in-Ok-name_key.ensures certificate.tbs_certificate.issuer (issuer_spells certificate c.in-Ok.certificate.bytes.now lends c.issuer.result.now (c.issuer.ensures certificate lends));
      holds = subst (λ e. Spends (allowed limits) (left_of c.climb_by_length.new.progress) all (Err e)) c.in-Err-Limit.field-0-is c.in-Err-Limit.ensures.counted;
    }

pub returns-in-Ok-Some-climb_by_length-clause-bounded : goal.returns-in-Ok-Some-climb_by_length-clause-bounded
returns-in-Ok-Some-climb_by_length-clause-bounded g c =
    let limits = c.args.limits.now in
    let issuer = c.in-Ok-name_key.issuer in
    let (certificate, spells) = c.in-Ok.ensures.found.1 in
    let lends = subst (λ b. Lends b certificate) (sym c.in-Ok.ensures.found.0) spells in
    let (count, many, within) = subst (λ o. FindsBehind 1 (λ n. effort_below c.args.anchors.now c.args.pool.now n (c.args.leaf.now ∷ []) issuer) (allowed limits) (Ok o)) c.in-Ok-Some-climb_by_length.field-0-is
    c.in-Ok-Some-climb_by_length.ensures.shorter in (
      count,
      omega (arith, many),
      record {
        certificate = certificate;
        spells = spells;
        issuer = issuer;
        key = c.in-Ok-name_key.ensures certificate.tbs_certificate.issuer (issuer_spells certificate c.in-Ok.certificate.bytes.now lends c.issuer.result.now (c.issuer.ensures certificate lends));
        holds = within;
      },
    )
