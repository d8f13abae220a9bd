use Rattle.std.proofs.Common.{rules, sym, ap, ◌∙◌}
use Rattle.std.specs.Option.{option_copied}
use Rattle.x509_check.proofs.LentCertificates.{no_list}
use Rattle.x509_check.proofs.LentCrls.{lent_extensions, parts_are, some_crl}
use Rattle.x509_ext.specs.LookUp.{members}
use Rattle.x509_check.proofs.lent.crl.CrlRef.extensions.Goals as goal

pub returns-in_default : goal.returns-in_default
returns-in_default g c = λ list spells. c.empty.ensures ∙ no_list c.args.self.now.parts.fields.crl_extensions list.tbs_cert_list.crl_extensions (search rules) (ap (λ e. e.fields.crl_extensions) (parts_are g.P.Profile.serial_check c.args.self.now.bytes.now c.args.self.now.parts c.args.self.now.lent list spells))

pub of_checked-requires : goal.of_checked-requires
of_checked-requires g c =
    let v = some_crl g.P.Profile.serial_check c.args.self.now.bytes.now c.args.self.now.parts c.args.self.now.lent c.args.self.now.within in
    let l = lent_extensions g.P.Profile.serial_check c.args.self.now.bytes.now v.0 v.1 c.in-Some.list.now (sym (ap option_copied c.in-Some.is) ∙ ap (λ e. e.fields.crl_extensions) (parts_are g.P.Profile.serial_check c.args.self.now.bytes.now c.args.self.now.parts c.args.self.now.lent v.0 v.1)) in
    (l.0, l.2)

pub returns : goal.returns
returns g c = λ list spells.
    let l = lent_extensions g.P.Profile.serial_check c.args.self.now.bytes.now list spells c.in-Some.list.now (sym (ap option_copied c.in-Some.is) ∙ ap (λ e. e.fields.crl_extensions) (parts_are g.P.Profile.serial_check c.args.self.now.bytes.now c.args.self.now.parts c.args.self.now.lent list spells)) in
    c.of_checked.ensures l.0 l.2 ∙ ap members (sym l.1)
