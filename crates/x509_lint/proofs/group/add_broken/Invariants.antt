use Rattle.std.proofs.Common.{◌≡◌, ◌++◌, map, take}
use Rattle.x509_lint.specs.Sentence.{broken, rules_of}
use Rattle.x509_lint.proofs.group.add_broken.Given as goal

abbrev pub invariant-loop-told : goal.invariant-loop-told
invariant-loop-told g l = l.findings.items ≡ l.initial.findings.items ++ map g.G.Group.as_rule (broken g.G.Group.sentence l.object l.values (rules_of (take l.told-index l.table)))
