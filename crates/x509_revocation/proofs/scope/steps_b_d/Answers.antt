use Rattle.std.proofs.Common.{◌∙◌, sym}
use Rattle.std.proofs.lemmas.Bool.{true≢false}
use Rattle.x509_revocation.specs.Says.{sides_of}
use Rattle.x509_revocation.proofs.scope.steps_b_d.Goals as goal

pub returns-then-not-are_in_scope : goal.returns-then-not-are_in_scope
returns-then-not-are_in_scope c = λ certificate crl lends spells has list reasons covers.
    true≢false (sym ((c.are_in_scope.ensures certificate lends).1 covers.in_scope) ∙ c.if-not-are_in_scope.true)

pub returns : goal.returns
returns c = λ certificate crl lends spells has list.
    record {
      has_list = list;
      in_scope = (c.are_in_scope.ensures certificate lends).0 c.if-not-are_in_scope.false;
      points = c.args.points.now;
      has_points = has;
      gathers = c.in_ok-reasons.ensures (sides_of certificate crl c.args.list.now) (c.in_ok-sides.ensures certificate crl lends spells);
    }
