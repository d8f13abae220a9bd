use Rattle.std.proofs.Common.{◌∙◌, ℕ, Bool, inl, List, refl, subst, sym}
use Rattle.std.proofs.lemmas.Bool.{true≢false}
use Rattle.std.specs.List.{All}
use Rattle.x509_revocation.specs.Crls.{IsSignedBy, entries_of}
use Rattle.x509_revocation.specs.Entries.{IsUsable}
use Rattle.x509_revocation.specs.Lent.{question}
use Rattle.x509_revocation.specs.Points.{is_indirect}
use Rattle.x509_revocation.specs.Says.{FindsWith, Replaces}
use Rattle.x509_revocation.proofs.Named.{if_ok}
use Rattle.x509_revocation.proofs.OneCover.{one_list}
use Rattle.x509_revocation.proofs.Signed.{anchored, signed_by}
use Rattle.x509_revocation.proofs.Sought.{found_at, steps_of}
use Rattle.x509_revocation.proofs.steps.Asked.steps_g_to_l.Goals as goal

pub returns-in-Ok-Some : goal.returns-in-Ok-Some
returns-in-Ok-Some g c =
    if_ok _ _ c.steps_i_to_l.result (λ step said certificate all given reasons lends lents lent complete covers adds rest.
    let accepts = g.V.SliceVerifier.accepts c.args.self.now.verifier.now in
    let asked = question accepts c.args.self.now.settings.now certificate in
    let looked = rw c.in-Ok-Some.field-0-is at (c.in-Ok-Some.ensures certificate given.crl lends lent.lends.crl) in
    let signed = (c.is_signed.ensures given.crl lent.signer lent.lends.crl (anchored c.args.given.now given lent)).0 c.if-not-is_signed.false in
    let current = (c.in_ok-is_current.ensures certificate all given lends lents lent).0 c.if-not-is_current.false in
    let told = said certificate all given lends lents lent (found_at certificate c.args.place given.crl c.in-Ok-Some.entry looked.1) in
    steps_of asked all c.args.place c.args.left c.args.rest reasons given told.2.0 step
    (record {
      complete = complete;
      list = c.args.list.now;
      covers = covers;
      signed = (signed_by accepts given.signer lent.signer given.bytes given.crl lent.is).0 (subst (λ (b : List ℕ). IsSignedBy accepts lent.signer b given.crl) lent.lends.bytes signed);
      entries_usable = subst (λ (b : Bool). All (IsUsable b) (entries_of given.crl)) c.is_indirect-indirect.ensures looked.0;
      current = subst (λ (b : Bool). All (λ other. Replaces asked b other given → ⊥) all) c.is_indirect-indirect.ensures current;
      found = told.0;
      finds = subst (λ (b : Bool). FindsWith asked b all c.args.place given told.0) c.is_indirect-indirect.ensures told.1;
      tells = told.2.1;
    })
    adds rest told.2.2) c.steps_i_to_l.ensures

pub returns-in-Ok-None : goal.returns-in-Ok-None
returns-in-Ok-None g c = λ certificate all given reasons lends lents lent complete covers adds rest.
    let none = rw c.in-Ok-None.field-0-is at (c.in-Ok-None.ensures certificate given.crl lends lent.lends.crl) in
    inl (
      (λ others revoked says more. none (
          subst (λ (b : Bool). All (IsUsable b) (entries_of given.crl)) (sym c.is_indirect-indirect.ensures) (subst (λ l. All (IsUsable (is_indirect l)) (entries_of given.crl)) (one_list given.crl says.list c.args.list.now says.covers.has_list covers.has_list) says.entries_usable)
          )),
      refl,
    )

-- a set that covers the certificate is that of the CRL's one IssuingDistributionPoint
pub returns-then-not-is_signed : goal.returns-then-not-is_signed
returns-then-not-is_signed g c = λ certificate all given reasons lends lents lent complete covers adds rest.
    let accepts = g.V.SliceVerifier.accepts c.args.self.now.verifier.now in
    let signed = c.is_signed.ensures given.crl lent.signer lent.lends.crl (anchored c.args.given.now given lent) in
    inl (
      (λ others revoked says more.
          let own = (signed_by accepts given.signer lent.signer given.bytes given.crl lent.is).1 says.signed in
          true≢false (sym (signed.1 (subst (λ (b : List ℕ). IsSignedBy accepts lent.signer b given.crl) (sym lent.lends.bytes) own)) ∙ c.if-not-is_signed.true)),
      refl,
    )

pub returns-then-not-is_current : goal.returns-then-not-is_current
returns-then-not-is_current g c = λ certificate all given reasons lends lents lent complete covers adds rest.
    let asked = question (g.V.SliceVerifier.accepts c.args.self.now.verifier.now) c.args.self.now.settings.now certificate in
    let current = c.in_ok-is_current.ensures certificate all given lends lents lent in
    inl (
      (λ others revoked says more.
          let here = subst (λ l. All (λ other. Replaces asked (is_indirect l) other given → ⊥) all) (one_list given.crl says.list c.args.list.now says.covers.has_list covers.has_list) says.current in
          let so = subst (λ (b : Bool). All (λ other. Replaces asked b other given → ⊥) all) (sym c.is_indirect-indirect.ensures) here in
          true≢false (sym (current.1 so) ∙ c.if-not-is_current.true)),
      refl,
    )
