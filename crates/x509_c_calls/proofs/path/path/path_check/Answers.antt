use Rattle.std.proofs.Common.{◌≡◌, ◌≤◌, refl, List, ℕ, Bor, inl, inr, map, ap, subst, arith}
use Rattle.x509_base.specs.CivilTime.{last_date_time, unix_seconds}
use Rattle.x509_c_calls.specs.Paths.{Asked, ChecksPath, Tells}
use Rattle.x509_c_calls.specs.Pieces.{AreCut}
use Rattle.x509_c_calls.proofs.path.path.path_check.Goals as goal

pub returns-in-Err-read : goal.returns-in-Err-read
unfolding ChecksPath
returns-in-Err-read c =
    let within : c.args.seconds ≤ unix_seconds last_date_time = omega (arith, c.in-Ok.ensures.succeeds.0 refl, c.from_secs.ensures) in
    inr (c.in-Err-read.e, refl, refl, elim c.in-Err-read.ensures.found [ inl memory ↦ inl (memory.0, within) | inr refused ↦ inr (inr (inr refused)) ])

pub returns-in-Ok-from_certificate : goal.returns-in-Ok-from_certificate
unfolding ChecksPath
returns-in-Ok-from_certificate c =
    let inputs = map (λ (piece : Bor (List ℕ)). piece.now) c.in-Ok-Some.inputs.items in
    let at : unix_seconds c.in-Ok.moment ≡ c.args.seconds = omega (arith, c.in-Ok.ensures.found.1, c.from_secs.ensures) in
    let cut : AreCut c.args.path.now c.args.lens.now inputs = rw c.in-Ok-Some.field-0-is at c.in-Ok-Some.ensures in
    let asked : Asked c.args.anchor.now c.args.path.now c.args.lens.now c.args.seconds = record { certificate = c.in-Ok-read.certificate; moment = c.in-Ok.moment; inputs = inputs; spelled = c.in-Ok-read.ensures.found; real = c.in-Ok.ensures.found.0; at = at; cut = cut } in
    let lent : map (λ (input : Bor (List ℕ)). input.now) c.as_slice.result.now ≡ inputs = ap (map (λ (input : Bor (List ℕ)). input.now)) c.as_slice.ensures.value in
    let told = subst (λ a. Tells c.in-Ok.moment a inputs c.args.fault.now c.tell.new.fault c.tell.result) c.in-Ok-from_certificate.ensures.ok
    (subst (λ xs. Tells c.in-Ok.moment c.in-Ok-from_certificate.anchor xs c.args.fault.now c.tell.new.fault c.tell.result) lent c.tell.ensures) in
    inl (asked, told)

pub returns : goal.returns
unfolding ChecksPath
returns c =
    let within : c.args.seconds ≤ unix_seconds last_date_time = omega (arith, c.in-Ok.ensures.succeeds.0 refl, c.from_secs.ensures) in
    inr (c.in-Err-from_certificate.e.kind, c.into-in-Err-from_certificate.ensures, refl, inl (c.in-Err-from_certificate.ensures.err, within))
