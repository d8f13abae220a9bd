use Rattle.std.specs.Prelude.{IsOk}
use Rattle.x509_base.specs.Time.{time}
use Rattle.x509_check.proofs.KnownEntries.{not_refused, piece_of_field, some_value}
use Rattle.x509_crl_index.proofs.Fields.{field_is, field_refused}
use Rattle.x509_der.specs.Frames.{field_at}
use Rattle.x509_crl_index.proofs.entry.known_time.Goals as goal

pub unreachable-requires : goal.unreachable-requires
unreachable-requires c =
    let known : IsOk (field_at time.reading c.args.bytes.now) = c.requires in
    let v = some_value _ known in
    let piece = piece_of_field time.reading c.args.bytes.now v.0.1 v.0.0 v.1 in
    not_refused c.args.bytes.now piece.0 _ piece.1 c.in_default.ensures.exact c.in_default.ensures.err

pub unreachable-requires-in_default-read_time : goal.unreachable-requires-in_default-read_time
unreachable-requires-in_default-read_time c = field_refused time.reading c.args.bytes.now _ c.in-Ok.ensures.exact _ c.in_default-read_time.ensures c.requires

pub returns : goal.returns
returns c = field_is time.reading c.args.bytes.now _ c.in-Ok.ensures.exact _ c.in-Ok-read_time.ensures
