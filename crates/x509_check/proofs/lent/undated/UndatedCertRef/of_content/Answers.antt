use Rattle.x509_base.specs.Time.{time}
use Rattle.x509_check.proofs.KnownEntries.{are_taken, behind_field, not_refused, piece_of_field, some_value, stands_in}
use Rattle.x509_check.proofs.lent.undated.UndatedCertRef.of_content.Goals as goal

pub unreachable-requires : goal.unreachable-requires
unreachable-requires g c =
    let v = some_value _ c.requires.known in
    not_refused c.args.octets.now _ _ (stands_in {P = g.row.P.Denot} g.P.Profile.serial_check c.args.octets.now v.0 c.requires.within v.1).number c.in_default.ensures.exact c.in_default.ensures.err

pub unreachable-requires-in_default-next_element : goal.unreachable-requires-in_default-next_element
unreachable-requires-in_default-next_element g c =
    let v = some_value _ c.requires.known in
    let taken = are_taken {P = g.row.P.Denot} g.P.Profile.serial_check c.args.octets.now v.0 _ c.requires.within v.1 c.in-Ok.ensures.exact in
    let date = piece_of_field time.reading _ _ _ taken.date_is in
    not_refused _ _ _ date.1 c.in_default-next_element.ensures.exact c.in_default-next_element.ensures.err

pub known_extensions-requires : goal.known_extensions-requires
known_extensions-requires g c =
    let v = some_value _ c.requires.known in
    let taken = are_taken {P = g.row.P.Denot} g.P.Profile.serial_check c.args.octets.now v.0 _ c.requires.within v.1 c.in-Ok.ensures.exact in
    let behind = behind_field time.reading _ _ _ _ c.in-Ok-next_element.ensures.exact taken.date_is in
    (v.0.crl_entry_extensions, rw behind taken.behind)

pub returns : goal.returns
returns g c = λ entry read.
    let taken = are_taken {P = g.row.P.Denot} g.P.Profile.serial_check c.args.octets.now entry _ c.requires.within read c.in-Ok.ensures.exact in
    let behind = behind_field time.reading _ _ _ _ c.in-Ok-next_element.ensures.exact taken.date_is in record {
      read = read;
      number_is = taken.number_is;
      extensions_are = c.known_extensions.ensures entry.crl_entry_extensions (rw behind taken.behind);
    }
