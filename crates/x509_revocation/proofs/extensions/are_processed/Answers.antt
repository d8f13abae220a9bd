use Rattle.std.proofs.Common.{◌≡◌, ◌⊎◌, ◌∙◌, true, sym}
use Rattle.std.proofs.lemmas.Bool.{true≢false}
use Rattle.x509_check.specs.ExtensionRefs.{extensions_left, lent_extension}
use Rattle.x509_path.specs.Certificates.{IsReadable}
use Rattle.x509_revocation.proofs.Looks.{passes}
use Rattle.x509_revocation.proofs.extensions.are_processed.Goals as goal
use Rattle.x509_revocation.proofs.extensions.are_processed.Goals.{else-extension-via-then-extension+else-not-is_either, else-extension-via-else-extension}

pub loop-extension-preserved : goal.loop-extension-preserved
loop-extension-preserved g c =
    let here : ((lent_extension c.in-Some.extension).critical ≡ true → IsReadable g.T.Grammar.form g.T.AssociatedOid.OID (lent_extension c.in-Some.extension) ⊎ IsReadable g.U.Grammar.form g.U.AssociatedOid.OID (lent_extension c.in-Some.extension)) = elim c.else-extension.branch [
      | else-extension-via-then-extension+else-not-is_either w ↦ λ critical. w.is_either.ensures.0 w.if-not-is_either.false
      | else-extension-via-else-extension w ↦ λ critical. absurd (true≢false (sym critical ∙ w.if-extension.false))
    ] in
    passes (λ e. e.critical ≡ true → IsReadable g.T.Grammar.form g.T.AssociatedOid.OID e ⊎ IsReadable g.U.Grammar.form g.U.AssociatedOid.OID e) (lent_extension c.in-Some.extension) (extensions_left c.loop-extension.rest) (extensions_left c.next.new.self) (extensions_left c.args.extensions)
    c.in-Some.ensures.steps here c.loop-extension.invariant
