use Rattle.std.proofs.Common.{◌∙◌, ap, length, refl}
use Rattle.x509_check.specs.ExtensionRefs.{extensions_left}
use Rattle.x509_path.specs.Certificates.{extensions_of}
use Rattle.x509_path.specs.Lent.{lent_extensions}
use Rattle.x509_path.proofs.Many.{many_among, many_beside}
use Rattle.x509_path.proofs.judge.Judge.judge_within.Goals as goal

pub returns-in-Some-clause-judged : goal.returns-in-Some-clause-judged
returns-in-Some-clause-judged g c = λ certificate above lends stands before leaves.
    let same = ap lent_extensions c.front-extensions.ensures ∙ c.in-Some.ensures.few.1 ∙ c.extensions.ensures certificate lends in
    c.judge_lent.ensures.judged certificate above lends same stands before leaves

pub returns-in-Some-clause-memory : goal.returns-in-Some-clause-memory
returns-in-Some-clause-memory g c = λ certificate lends lacks.
    let same = ap lent_extensions c.front-extensions.ensures ∙ c.in-Some.ensures.few.1 ∙ c.extensions.ensures certificate lends in
    many_among (length c.args.few.now) c.front-extensions.result.now (extensions_of certificate) same (c.judge_lent.ensures.memory lacks)

pub returns-in-None-clause-memory : goal.returns-in-None-clause-memory
returns-in-None-clause-memory g c = λ certificate lends lacks.
    many_beside (length c.args.few.now) (extensions_left c.extensions.result) (extensions_of certificate) (c.extensions.ensures certificate lends) (c.in-None.ensures.many refl)
