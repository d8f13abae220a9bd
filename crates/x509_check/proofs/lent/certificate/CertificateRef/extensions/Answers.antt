use Rattle.std.proofs.Common.{rules, sym, ap, ◌∙◌}
use Rattle.std.specs.Option.{option_copied}
use Rattle.x509_check.proofs.LentCertificates.{elements_are, lent_list, no_list, some_certificate}
use Rattle.x509_ext.specs.LookUp.{members}
use Rattle.x509_check.proofs.lent.certificate.CertificateRef.extensions.Goals as goal

pub returns-in_default : goal.returns-in_default
returns-in_default g c = λ certificate spells. c.empty.ensures ∙ no_list c.args.self.now.slices.fields.extensions certificate.tbs_certificate.extensions (search rules) (ap (λ e. e.fields.extensions) (elements_are g.P.Profile.serial_check c.args.self.now.bytes.now c.args.self.now.slices c.args.self.now.elements certificate spells))

pub of_checked-requires : goal.of_checked-requires
of_checked-requires g c =
    let v = some_certificate g.P.Profile.serial_check c.args.self.now.bytes.now c.args.self.now.within c.args.self.now.checked in
    let l = lent_list g.P.Profile.serial_check c.args.self.now.bytes.now v.0 v.1 c.in-Some.list.now (sym (ap option_copied c.in-Some.is) ∙ ap (λ e. e.fields.extensions) (elements_are g.P.Profile.serial_check c.args.self.now.bytes.now c.args.self.now.slices c.args.self.now.elements v.0 v.1)) in
    (l.0, l.2)

pub returns : goal.returns
returns g c = λ certificate spells.
    let l = lent_list g.P.Profile.serial_check c.args.self.now.bytes.now certificate spells c.in-Some.list.now (sym (ap option_copied c.in-Some.is) ∙ ap (λ e. e.fields.extensions) (elements_are g.P.Profile.serial_check c.args.self.now.bytes.now c.args.self.now.slices c.args.self.now.elements certificate spells)) in
    c.of_checked.ensures l.0 l.2 ∙ ap members (sym l.1)
