use Rattle.std.proofs.Common.{Ok, inl, subst}
use Rattle.x509_c_calls.proofs.Exits.{mapped}
use Rattle.x509_c_calls.proofs.Filled.{checked_as, refused_as}
use Rattle.x509_c_calls.proofs.Unrepeated.{certificate_fills, lent_members}
use Rattle.x509_c_calls.proofs.build.certificate.build_certificate.Goals as goal
use Rattle.x509_base.specs.Profiles.{rfc5280_time}
use Rattle.x509_base.specs.Validity.{respelled_validity}
use Rattle.x509_cert.specs.TbsCertificate.{tbs_certificate_writing}
use Rattle.x509_der.specs.Writing.{respelling}
use Rattle.x509_ext.specs.LookUp.{IsRepeated}

pub returns-in-Err : goal.returns-in-Err
returns-in-Err c = refused_as _ _ _ _ (mapped (λ r. inl r) c.in-Err.ensures)

pub returns-in-Ok-check_repeated : goal.returns-in-Ok-check_repeated
returns-in-Ok-check_repeated c =
    let distinct = subst (λ l. ¬ IsRepeated l) (lent_members _ _ _ c.members.ensures c.extensions.ensures) c.in-Ok-check_repeated.ensures.ok in
    certificate_fills (tbs_certificate_writing (respelling (respelled_validity (λ t. Ok (rfc5280_time t))))) _ _ _ _ _ _ _ _ c.in-Ok.part c.in-Ok.ensures distinct c.args.room.now c.write.new.room c.args.written.now c.write.new.written c.write.result c.write.ensures.filled

pub returns : goal.returns
returns c =
    checked_as _ _ _ _ _ (λ repeated. (c.in-Ok.part, c.in-Ok.ensures, subst IsRepeated (lent_members _ _ _ c.members.ensures c.extensions.ensures) repeated)) c.in-Err-check_repeated.ensures.err
