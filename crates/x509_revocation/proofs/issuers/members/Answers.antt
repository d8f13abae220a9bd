use Rattle.x509_der.specs.TagLaws.{tag_is_identifier}
use Rattle.x509_der.specs.declared.tag.Tag.TheVariants.{Sequence}
use Rattle.x509_match.proofs.Fronts.{no_whole, whole_is}
use Rattle.x509_revocation.proofs.NextNames.{content_within, list_names}
use Rattle.x509_revocation.proofs.issuers.members.Goals as goal

pub returns-in-Ok : goal.returns-in-Ok
returns-in-Ok c = λ issuer spells.
    let list = list_names issuer c.args.names.now spells in
    let piece = whole_is _ _ _ _ c.in-Ok.ensures.exact (tag_is_identifier Sequence) list.1 in
    (list.0, piece.1, rw piece.1 (content_within c.args.names.now _ 48 list.1 spells.2))

pub returns-in-Err : goal.returns-in-Err
returns-in-Err c = λ issuer spells.
    let list = list_names issuer c.args.names.now spells in
    absurd (no_whole _ _ _ _ c.in-Err.ensures.exact c.in-Err.ensures.err (tag_is_identifier Sequence) list.1)
