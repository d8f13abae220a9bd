use Rattle.std.proofs.Common.{refl, sym, subst, ◌∙◌}
use Rattle.x509_name.specs.Names.{rdn_sequence_decides}
use Rattle.x509_match.proofs.KeysAgree.{names_match-refl}
use Rattle.x509_match.specs.Matching.{NamesMatch}
use Rattle.x509_match.proofs.names.names_match.Goals as goal

pub returns-then-eq-clause-same : goal.returns-then-eq-clause-same
returns-then-eq-clause-same c =
    let same = (rdn_sequence_decides c.args.a.now c.args.b.now).0 (sym c.eq.ensures ∙ c.if-eq.true) in
    (λ t. subst (NamesMatch c.args.a.now) same (names_match-refl c.args.a.now), λ m. refl)

pub returns-clause-equal : goal.returns-clause-equal
returns-clause-equal c e = absurd (let k = sym c.if-eq.false ∙ c.eq.ensures ∙ (rdn_sequence_decides c.args.a.now c.args.b.now).1 e in cc)
