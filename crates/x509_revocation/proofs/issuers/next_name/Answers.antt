use Rattle.std.proofs.Common.{◌∙◌, sym, subst}
use Rattle.x509_ext.specs.GeneralName.{general_name}
use Rattle.x509_der.specs.Form.{spelling}
use Rattle.x509_der.specs.List.{joined}
use Rattle.x509_match.proofs.Fronts.{front_is, front_shorter, no_front}
use Rattle.x509_revocation.specs.LentNames.{AreNames}
use Rattle.x509_revocation.proofs.NextNames.{directory_spells, is_identified, names_front, other}
use Rattle.x509_revocation.proofs.issuers.next_name.Goals as goal

pub returns-then-piece-clause-front : goal.returns-then-piece-clause-front
returns-then-piece-clause-front c = λ first others are.
    let front = names_front c.args.names.now first others are in
    let behind = joined (spelling general_name) others in
    let piece = front_is _ _ (general_name.tag first) (general_name.content first) behind c.in-Ok.ensures.exact (is_identified first front.0) front.1 in (
      directory_spells first c.args.names.now c.in-Ok.piece.content.now behind front.0 front.1 are.2 piece.1 (sym piece.0 ∙ c.if-piece.true),
      subst (λ z. AreNames z others) (sym piece.2) front.2,
    )

pub returns-then-piece-clause-shorter : goal.returns-then-piece-clause-shorter
returns-then-piece-clause-shorter c = λ some. front_shorter _ _ c.in-Ok.ensures.exact

pub returns-else-piece-clause-front : goal.returns-else-piece-clause-front
returns-else-piece-clause-front c = λ first others are.
    let front = names_front c.args.names.now first others are in
    let behind = joined (spelling general_name) others in
    let piece = front_is _ _ (general_name.tag first) (general_name.content first) behind c.in-Ok.ensures.exact (is_identified first front.0) front.1 in
    (other first (λ is. c.if-piece.false (piece.0 ∙ is)), subst (λ z. AreNames z others) (sym piece.2) front.2)

pub returns-else-piece-clause-shorter : goal.returns-else-piece-clause-shorter
returns-else-piece-clause-shorter c = λ some. front_shorter _ _ c.in-Ok.ensures.exact

pub returns-in-Err-clause-front : goal.returns-in-Err-clause-front
returns-in-Err-clause-front c = λ first others are.
    let front = names_front c.args.names.now first others are in
    absurd (no_front _ (general_name.tag first) (general_name.content first) _ _ c.in-Err.ensures.exact c.in-Err.ensures.err (is_identified first front.0) front.1)
