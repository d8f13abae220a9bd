use Rattle.std.proofs.Common.{◌≡◌, ◌≤◌, [], ◌∷◌, Some, inl, inr, length, subst}
use Rattle.std.proofs.lemmas.Result.{MatchResult-weaker}
use Rattle.x509_check.specs.ExtensionRefs.{extensions_left, lent_extension}
use Rattle.x509_der.specs.declared.error.ErrorKind.TheVariants.{Failed}
use Rattle.x509_ext.specs.LookUp.{with_oid}
use Rattle.x509_path_steps.proofs.Values.{found_many, found_one}
use Rattle.x509_path_steps.proofs.trusted.lent_value.Goals as goal

pub returns-in-Ok-Some : goal.returns-in-Ok-Some
returns-in-Ok-Some g c =
    let all = extensions_left c.args.extensions.now in
    let here = lent_extension c.in-Ok-Some.extension in
    let one = subst (λ oid. with_oid oid all ≡ here ∷ []) c.OID.ensures (found_one (with_oid c.OID.result all) c.in-Ok-Some.extension (rw c.in-Ok-Some.field-0-is at c.in-Ok-Some.ensures)) in
    MatchResult-weaker c.checked.result c.checked.ensures (λ lent (value, spells, lends). (Some value, (here, one, spells), lends)) (λ e refused. inr (here, one, refused))

pub returns-in-Err : goal.returns-in-Err
returns-in-Err g c =
    let all = extensions_left c.args.extensions.now in
    inl (subst (λ oid. (2 ≤ length (with_oid oid all)) × (c.in-Err.e.kind ≡ Failed)) c.OID.ensures (found_many (with_oid c.OID.result all) c.in-Err.e c.in-Err.ensures))
