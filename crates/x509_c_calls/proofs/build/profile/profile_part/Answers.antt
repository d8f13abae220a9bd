use Rattle.std.proofs.Common.{◌∙◌, Ok, ap, subst, sym}
use Rattle.std.proofs.lemmas.Bool.{false≢true}
use Rattle.std.proofs.lemmas.Result.{err_from_is_err_and}
use Rattle.x509_c_calls.proofs.Exits.{mapped}
use Rattle.x509_c_calls.proofs.Profiled.{encoded_part, is_with_added, part_built, refused_part}
use Rattle.x509_c_calls.proofs.Unrepeated.{lent_members}
use Rattle.x509_c_calls.proofs.build.profile.profile_part.Goals as goal
use Rattle.x509_build.specs.CertificateParts.{TbsCertificate}
use Rattle.x509_c_calls.specs.ProfileParts.{Kind}
use Rattle.x509_base.specs.Profiles.{rfc5280_time}
use Rattle.x509_base.specs.Validity.{respelled_validity}
use Rattle.x509_cert.specs.TbsCertificate.{tbs_certificate_writing}
use Rattle.x509_der.specs.Writing.{respelling}
use Rattle.x509_ext.specs.LookUp.{IsRepeated, members}

pub returns-in_err-finalized : goal.returns-in_err-finalized
returns-in_err-finalized g c =
    let p = err_from_is_err_and c.from_residual-in_err-finalized.result c.from_residual-in_err-finalized.ensures.1 in
    let kind : Kind g.row.P.Denot = record { subject_of = g.P.BuilderProfile.subject_of; issuer_of = g.P.BuilderProfile.issuer_of; extensions_of = g.P.BuilderProfile.extensions_of } in
    let added = is_with_added kind c.args.inputs c.in_ok-start.start c.in_ok-builder.builder _ c.in_ok-start.ensures.0 c.in_ok-builder.ensures.ok c.from.ensures in
    rw (p.1, p.2) (mapped (λ r. refused_part kind c.args.inputs _ c.in_ok-builder.builder _ c.in_ok-start.ensures.1 added r) c.in_err-finalized.ensures.bytes)

pub returns-then-branch : goal.returns-then-branch
returns-then-branch g c =
    let kind : Kind g.row.P.Denot = record { subject_of = g.P.BuilderProfile.subject_of; issuer_of = g.P.BuilderProfile.issuer_of; extensions_of = g.P.BuilderProfile.extensions_of } in
    let added = is_with_added kind c.args.inputs c.in_ok-start.start c.in_ok-builder.builder _ c.in_ok-start.ensures.0 c.in_ok-builder.ensures.ok c.from.ensures in
    let part = c.current_part.ensures ∙ part_built kind c.args.inputs c.in_ok-builder.builder _ added c.in_ok-finalized.ensures.part in
    let same = lent_members _ _ _ c.members.ensures c.extensions.ensures ∙ ap (λ (p : TbsCertificate). members p.extensions) part in
    subst IsRepeated same (c.in_ok-has_repeated_extension.ensures.ok.0 c.if-branch.true)

pub returns : goal.returns
returns g c =
    let kind : Kind g.row.P.Denot = record { subject_of = g.P.BuilderProfile.subject_of; issuer_of = g.P.BuilderProfile.issuer_of; extensions_of = g.P.BuilderProfile.extensions_of } in
    let added = is_with_added kind c.args.inputs c.in_ok-start.start c.in_ok-builder.builder _ c.in_ok-start.ensures.0 c.in_ok-builder.ensures.ok c.from.ensures in
    let part = c.current_part.ensures ∙ part_built kind c.args.inputs c.in_ok-builder.builder _ added c.in_ok-finalized.ensures.part in
    let same = lent_members _ _ _ c.members.ensures c.extensions.ensures ∙ ap (λ (p : TbsCertificate). members p.extensions) part in
    ((c.in_ok-start.ensures.1, encoded_part kind c.args.inputs (tbs_certificate_writing (respelling (respelled_validity (λ t. Ok (rfc5280_time t))))) c.in_ok-builder.builder _ added c.in_ok-finalized.ensures.bytes), λ repeated. false≢true (sym c.if-branch.false ∙ c.in_ok-has_repeated_extension.ensures.ok.1 (subst IsRepeated (sym same) repeated)))
