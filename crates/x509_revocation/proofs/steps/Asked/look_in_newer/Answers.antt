use Rattle.std.proofs.Common.{option_map}
use Rattle.x509_check.specs.CrlRefs.{lent_entry}
use Rattle.x509_revocation.specs.Entries.{FindsEntry}
use Rattle.x509_revocation.specs.Lent.{question}
use Rattle.x509_revocation.proofs.Named.{if_ok}
use Rattle.x509_revocation.proofs.Newest.{looked_for, not_next}
use Rattle.x509_revocation.proofs.steps.Asked.look_in_newer.Goals as goal

pub returns-then-not-is_next : goal.returns-then-not-is_next
returns-then-not-is_next g c = λ certificate complete delta lends named spells same.
    let asked = question (g.V.SliceVerifier.accepts c.args.self.now.verifier.now) c.args.self.now.settings.now certificate in
    not_next asked c.args.is_indirect complete c.args.newest.now delta c.in_ok-is_next.is_next c.args.delta.now.bytes.now c.if-not-is_next.true spells c.in_ok-is_next.ensures

pub returns : goal.returns
returns g c =
    if_ok _ _ c.look_in_delta.result (λ looked said certificate complete delta lends named spells same.
    let asked = question (g.V.SliceVerifier.accepts c.args.self.now.verifier.now) c.args.self.now.settings.now certificate in
    looked_for asked c.args.is_indirect complete (λ entry. FindsEntry certificate delta.crl (option_map lent_entry entry)) c.args.newest.now delta c.in_ok-is_next.is_next c.args.delta.now.bytes.now looked c.if-not-is_next.false
    spells c.in_ok-is_next.ensures (said certificate complete delta lends named spells same)) c.look_in_delta.ensures
