use Rattle.std.proofs.Common.{◌≡◌, Some, None, subst, sym}
use Rattle.x509_revocation.specs.Points.{single_name, whole_names}
use Rattle.x509_revocation.proofs.Matches.{no_relative}
use Rattle.x509_revocation.proofs.points.Sides.match_relative.Goals as goal

pub returns-in-None-single_name : goal.returns-in-None-single_name
returns-in-None-single_name c = λ sides lends.
    let none = subst (λ names. single_name names ≡ None) c.as_slice.ensures (sym c.in-None-single_name.ensures) in
    rw c.in-Some.is (no_relative sides.issuer (whole_names (Some sides.own) c.args.place.now) c.args.rdn.now c.in-Some.names none)
