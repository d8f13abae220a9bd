use Rattle.std.proofs.Common.{refl, sym, ap, ◌∙◌}
use Rattle.x509_check.proofs.KnownEntries.{are_taken, not_refused, some_value, stands_in}
use Rattle.x509_der.specs.OutcomeLaws.{ok_is}
use Rattle.x509_crl_index.proofs.entry.known_content.Goals as goal

pub unreachable-requires : goal.unreachable-requires
unreachable-requires g c =
    let v = some_value _ c.requires.known in
    not_refused c.args.octets.now _ _ (stands_in {P = g.row.P.Denot} g.P.Profile.serial_check c.args.octets.now v.0 c.requires.within v.1).number c.in_default.ensures.exact c.in_default.ensures.err

pub known_time-date-requires : goal.known_time-date-requires
known_time-date-requires g c =
    let v = some_value _ c.requires.known in
    let taken = are_taken {P = g.row.P.Denot} g.P.Profile.serial_check c.args.octets.now v.0 _ c.requires.within v.1 c.in-Ok.ensures.exact in
    rw taken.date_is refl

pub known_extensions-requires : goal.known_extensions-requires
known_extensions-requires g c =
    let v = some_value _ c.requires.known in
    let taken = are_taken {P = g.row.P.Denot} g.P.Profile.serial_check c.args.octets.now v.0 _ c.requires.within v.1 c.in-Ok.ensures.exact in
    let same = ok_is _ _ (sym c.known_time-date.ensures ∙ taken.date_is) in
    (v.0.crl_entry_extensions, rw (ap (λ x. x.1) same) taken.behind)

pub returns : goal.returns
returns g c = λ entry read.
    let taken = are_taken {P = g.row.P.Denot} g.P.Profile.serial_check c.args.octets.now entry _ c.requires.within read c.in-Ok.ensures.exact in
    let same = ok_is _ _ (sym c.known_time-date.ensures ∙ taken.date_is) in
    let behind = c.known_extensions.ensures entry.crl_entry_extensions (rw (ap (λ x. x.1) same) taken.behind) in
    rw (taken.number_is, ap (λ x. x.0) same, behind) refl
