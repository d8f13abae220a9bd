use Rattle.std.proofs.Common.{refl}
use Rattle.x509_path_steps.proofs.WorkingKeys.{inherited_given}
use Rattle.x509_path_steps.proofs.above.Above.below.Goals as goal
use Rattle.x509_path_steps.specs.Keys.{inherited, parameters_of}

pub returns-clause-key : goal.returns-clause-key
returns-clause-key c = λ certificate above lends holds.
    let key = certificate.tbs_certificate.subject_public_key_info in
    let spells = (c.from_certificate-anchor.ensures certificate lends).1 in record {
      own = key;
      inherited = inherited above key (parameters_of key);
      spells = spells;
      lends = c.left_to.ensures above key holds spells;
      are_given = inherited_given above key (parameters_of key);
      is = refl;
    }
