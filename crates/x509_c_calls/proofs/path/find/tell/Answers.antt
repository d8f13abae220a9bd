use Rattle.std.proofs.Common.{◌∙◌, Ok, Err, inr, refl, subst}
use Rattle.x509_c_calls.proofs.FoundPlaces.{told_above}
use Rattle.x509_c_calls.proofs.SearchLimits.{same_limits}
use Rattle.x509_c_calls.proofs.path.find.tell.Goals as goal
use Rattle.x509_c_calls.specs.PathFinding.{KeepsSearch, TellsPath, first_place, unlisted}
use Rattle.x509_verify.specs.Effort.{KeepsLimits}
use Rattle.x509_verify.specs.Found.{Answers, Wanted, octets}
use Rattle.x509_verify.specs.Given.{candidates_of, trusted_of}
use Rattle.x509_verify.specs.declared.find_error.FindError.TheVariants.{Limit, Refused, UnknownIssuer}

pub returns-in-Ok-tell_path : goal.returns-in-Ok-tell_path
unfolding TellsPath
returns-in-Ok-tell_path c =
    let sought = c.args.sought.now in
    let it = c.in-Ok.it in
    let wanted : Wanted = record {
      settings = c.args.settings.now;
      trusted = trusted_of c.args.anchors.now;
      candidates = candidates_of c.args.pool.now;
      max_depth = c.args.max_depth;
      leaf = sought.leaf.now;
    } in
    let answers : Answers (unlisted sought.bad.items) wanted (Ok it) = subst (λ bad. Answers (unlisted bad) wanted (Ok it)) c.as_slice.ensures.value c.in-Ok.ensures.answers in
    let told = c.in-Ok-tell_path.ensures in
    let places = told_above (first_place (octets sought.candidates.items)) it.path.items c.as_slice-in-Ok.result.now answers.0.above sought.leaf.now _ _ _ c.as_slice-in-Ok.ensures.value answers.0.path told.0 in
    let same = same_limits c.args.max_depth c.default.result.max_steps c.default.result.max_paths c.default.ensures.steps c.default.ensures.paths in
    let keeps : KeepsSearch wanted (Ok it) = record {
      anchors = c.args.anchors.now;
      pool = c.args.pool.now;
      trusted = refl;
      candidates = refl;
      keeps = subst (λ l. KeepsLimits c.args.anchors.now c.args.pool.now l sought.leaf.now (Ok it)) same c.in-Ok.ensures.bounded;
    } in
    (it, answers, keeps, record { above = answers.0.above; whole = answers.0.path; anchor = told.1; places = places }, told.2, told.3)

pub returns-in-Ok-tell_path-2 : goal.returns-in-Ok-tell_path-2
unfolding TellsPath
returns-in-Ok-tell_path-2 c =
    let sought = c.args.sought.now in
    let it = c.in-Err-Refused.it in
    let wanted : Wanted = record {
      settings = c.args.settings.now;
      trusted = trusted_of c.args.anchors.now;
      candidates = candidates_of c.args.pool.now;
      max_depth = c.args.max_depth;
      leaf = sought.leaf.now;
    } in
    let answers : Answers (unlisted sought.bad.items) wanted (Err (Refused it)) =
    subst (λ bad. Answers (unlisted bad) wanted (Err (Refused it))) c.as_slice.ensures.value (rw c.in-Err-Refused.field-0-is at c.in-Err-Refused.ensures.answers) in
    let told = c.in-Ok-tell_path-2.ensures in
    let places = told_above (first_place (octets sought.candidates.items)) it.path.items c.as_slice-in-Err-Refused.result.now answers.2.above sought.leaf.now _ _ _ c.as_slice-in-Err-Refused.ensures.value answers.2.path told.0 in
    let same = same_limits c.args.max_depth c.default.result.max_steps c.default.result.max_paths c.default.ensures.steps c.default.ensures.paths in
    let bounded = rw c.in-Err-Refused.field-0-is at c.in-Err-Refused.ensures.bounded in
    let keeps : KeepsSearch wanted (Err (Refused it)) = record {
      anchors = c.args.anchors.now;
      pool = c.args.pool.now;
      trusted = refl;
      candidates = refl;
      keeps = subst (λ l. KeepsLimits c.args.anchors.now c.args.pool.now l sought.leaf.now (Err (Refused it))) same bounded;
    } in
    inr (it, answers, keeps, record { above = answers.2.above; whole = answers.2.path; anchor = told.1; places = places }, told.2 ∙ c.numbers_of-fault.ensures.place, told.3 ∙ c.numbers_of-fault.ensures.reason)

pub returns-in-Err-UnknownIssuer : goal.returns-in-Err-UnknownIssuer
unfolding TellsPath
returns-in-Err-UnknownIssuer c =
    let sought = c.args.sought.now in
    let wanted : Wanted = record {
      settings = c.args.settings.now;
      trusted = trusted_of c.args.anchors.now;
      candidates = candidates_of c.args.pool.now;
      max_depth = c.args.max_depth;
      leaf = sought.leaf.now;
    } in
    let answers : Answers (unlisted sought.bad.items) wanted (Err UnknownIssuer) =
    subst (λ bad. Answers (unlisted bad) wanted (Err UnknownIssuer)) c.as_slice.ensures.value (rw c.in-Err-UnknownIssuer.field-0-is at c.in-Err-UnknownIssuer.ensures.answers) in
    let same = same_limits c.args.max_depth c.default.result.max_steps c.default.result.max_paths c.default.ensures.steps c.default.ensures.paths in
    let bounded = rw c.in-Err-UnknownIssuer.field-0-is at c.in-Err-UnknownIssuer.ensures.bounded in
    let keeps : KeepsSearch wanted (Err UnknownIssuer) = record {
      anchors = c.args.anchors.now;
      pool = c.args.pool.now;
      trusted = refl;
      candidates = refl;
      keeps = subst (λ l. KeepsLimits c.args.anchors.now c.args.pool.now l sought.leaf.now (Err UnknownIssuer)) same bounded;
    } in
    (answers, keeps, refl)

pub returns-in-Err-Limit : goal.returns-in-Err-Limit
unfolding TellsPath
returns-in-Err-Limit c =
    let sought = c.args.sought.now in
    let wanted : Wanted = record {
      settings = c.args.settings.now;
      trusted = trusted_of c.args.anchors.now;
      candidates = candidates_of c.args.pool.now;
      max_depth = c.args.max_depth;
      leaf = sought.leaf.now;
    } in
    let answers : Answers (unlisted sought.bad.items) wanted (Err Limit) =
    subst (λ bad. Answers (unlisted bad) wanted (Err Limit)) c.as_slice.ensures.value (rw c.in-Err-Limit.field-0-is at c.in-Err-Limit.ensures.answers) in
    let same = same_limits c.args.max_depth c.default.result.max_steps c.default.result.max_paths c.default.ensures.steps c.default.ensures.paths in
    let bounded = rw c.in-Err-Limit.field-0-is at c.in-Err-Limit.ensures.bounded in
    let keeps : KeepsSearch wanted (Err Limit) = record {
      anchors = c.args.anchors.now;
      pool = c.args.pool.now;
      trusted = refl;
      candidates = refl;
      keeps = subst (λ l. KeepsLimits c.args.anchors.now c.args.pool.now l sought.leaf.now (Err Limit)) same bounded;
    } in
    (answers, keeps, refl)
