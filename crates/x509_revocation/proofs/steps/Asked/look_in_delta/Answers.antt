use Rattle.std.proofs.Common.{◌∙◌, sym, option_map}
use Rattle.std.proofs.lemmas.Bool.{true≢false}
use Rattle.std.specs.List.{All}
use Rattle.x509_check.specs.CrlRefs.{lent_entry}
use Rattle.x509_revocation.specs.Crls.{entries_of}
use Rattle.x509_revocation.specs.Entries.{FindsEntry, IsUsable}
use Rattle.x509_revocation.specs.Lent.{question}
use Rattle.x509_revocation.specs.Says.{Fits}
use Rattle.x509_revocation.proofs.Named.{if_ok}
use Rattle.x509_revocation.proofs.Same.{with_fits}
use Rattle.x509_revocation.proofs.steps.Asked.look_in_delta.Goals as goal

pub returns-then-not-fits : goal.returns-then-not-fits
returns-then-not-fits g c = λ certificate complete delta lends lent spells same is.
    true≢false (sym ((c.in_ok-fits.ensures certificate complete delta lent spells same).1 is.0) ∙ c.if-not-fits.true)

pub returns : goal.returns
returns g c =
    if_ok _ _ c.find_entry.result (λ looked said certificate complete delta lends lent spells same.
    with_fits (Fits (question (g.V.SliceVerifier.accepts c.args.self.now.verifier.now) c.args.self.now.settings.now certificate) complete delta) (All (IsUsable c.args.is_indirect) (entries_of delta.crl)) (λ entry. FindsEntry certificate delta.crl (option_map lent_entry entry)) looked
    ((c.in_ok-fits.ensures certificate complete delta lent spells same).0 c.if-not-fits.false) (said certificate delta.crl lends spells)) c.find_entry.ensures
