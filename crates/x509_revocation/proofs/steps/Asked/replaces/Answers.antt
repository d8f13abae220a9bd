use Rattle.std.proofs.Common.{◌∙◌, ℕ, List, refl, subst, sym}
use Rattle.std.proofs.lemmas.Bool.{true≢false}
use Rattle.x509_revocation.specs.Crls.{IsSignedBy}
use Rattle.x509_revocation.specs.Lent.{LendsSigner}
use Rattle.x509_revocation.proofs.Signed.{anchored, never, one_key, other_key, signed_by, signer_of}
use Rattle.x509_revocation.proofs.steps.Asked.replaces.Goals as goal

pub returns-then-not-have_one_key : goal.returns-then-not-have_one_key
returns-then-not-have_one_key g c = λ certificate older newer lends old new.
    let first = anchored c.args.older.now older old in
    never (λ replaces. other_key c.args.newer.now.signer older.signer newer.signer old.signer c.have_one_key.result old.is new.signer (λ other lent. c.have_one_key.ensures old.signer other first lent) c.if-not-have_one_key.true replaces.one_key)

pub returns-then-not-have_same_point : goal.returns-then-not-have_same_point
returns-then-not-have_same_point g c = λ certificate older newer lends old new.
    never (λ replaces. true≢false (sym ((c.have_same_point.ensures older.crl newer.crl old.lends.crl new.crl).1 replaces.scope.scope) ∙ c.if-not-have_same_point.true))

pub returns-then-not-is_older : goal.returns-then-not-is_older
returns-then-not-is_older g c = λ certificate older newer lends old new.
    never (λ replaces. true≢false (sym ((c.in_ok-is_older.ensures older.crl newer.crl old.lends.crl new.crl).1 replaces.is_older) ∙ c.if-not-is_older.true))

pub returns-then-not-is_issuers : goal.returns-then-not-is_issuers
returns-then-not-is_issuers g c = λ certificate older newer lends old new.
    never (λ replaces. true≢false (sym ((c.in_ok-is_issuers.ensures older.crl newer.crl old.lends.crl new.crl).1 replaces.scope.issuer) ∙ c.if-not-is_issuers.true))

pub returns-then-not-is_usable : goal.returns-then-not-is_usable
returns-then-not-is_usable g c = λ certificate older newer lends old new.
    never (λ replaces. true≢false (sym ((c.in_ok-is_usable.ensures newer new).1 replaces.complete) ∙ c.if-not-is_usable.true))

pub returns-then-not-is_signed : goal.returns-then-not-is_signed
returns-then-not-is_signed g c = λ certificate older newer lends old new.
    let accepts = g.V.SliceVerifier.accepts c.args.self.now.verifier.now in
    let usable = (c.in_ok-is_usable.ensures newer new).0 c.if-not-is_usable.false in
    let by = signer_of newer.signer newer.crl usable.of_signer in
    let signed = c.is_signed.ensures newer.crl by.0 new.crl (subst (LendsSigner c.args.newer.now.signer) by.1 new.signer) in
    never (λ replaces.
    let own = (signed_by accepts newer.signer by.0 newer.bytes newer.crl by.1).1 replaces.signed in
    true≢false (sym (signed.1 (subst (λ (b : List ℕ). IsSignedBy accepts by.0 b newer.crl) (sym new.bytes) own)) ∙ c.if-not-is_signed.true))

pub returns-in-Ok-None : goal.returns-in-Ok-None
returns-in-Ok-None g c = λ certificate older newer lends old new.
    let none = rw c.in-Ok-None.field-0-is at (c.in-Ok-None.ensures certificate newer.crl lends new.crl) in
    never (λ replaces. none replaces.entries_usable)

pub returns-in-Ok-Some : goal.returns-in-Ok-Some
returns-in-Ok-Some g c = λ certificate older newer lends old new.
    let accepts = g.V.SliceVerifier.accepts c.args.self.now.verifier.now in
    let first = anchored c.args.older.now older old in
    let usable = (c.in_ok-is_usable.ensures newer new).0 c.if-not-is_usable.false in
    let by = signer_of newer.signer newer.crl usable.of_signer in
    let signed = (c.is_signed.ensures newer.crl by.0 new.crl (subst (LendsSigner c.args.newer.now.signer) by.1 new.signer)).0 c.if-not-is_signed.false in
    let looked = rw c.in-Ok-Some.field-0-is at (c.in-Ok-Some.ensures certificate newer.crl lends new.crl) in (
      (λ is. record {
        scope = record {
          issuer = (c.in_ok-is_issuers.ensures older.crl newer.crl old.lends.crl new.crl).0 c.if-not-is_issuers.false;
          scope = (c.have_same_point.ensures older.crl newer.crl old.lends.crl new.crl).0 c.if-not-have_same_point.false;
        };
        one_key = one_key c.args.newer.now.signer older.signer newer.signer old.signer newer.crl c.have_one_key.result old.is new.signer usable.of_signer (λ other lent. c.have_one_key.ensures old.signer other first lent) c.if-not-have_one_key.false;
        is_older = (c.in_ok-is_older.ensures older.crl newer.crl old.lends.crl new.crl).0 c.if-not-is_older.false;
        complete = usable;
        signed = (signed_by accepts newer.signer by.0 newer.bytes newer.crl by.1).0 (subst (λ (b : List ℕ). IsSignedBy accepts by.0 b newer.crl) new.bytes signed);
        entries_usable = looked.0;
      }),
      (λ replaces. refl),
    )
