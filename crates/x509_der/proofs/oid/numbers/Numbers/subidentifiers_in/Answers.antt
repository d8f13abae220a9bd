use Rattle.std.proofs.Common.{◌≡◌, ℕ, ◌++◌, List, length, sym, ap, ◌∙◌, arith, append-nil}
use Rattle.std.proofs.lemmas.List.{drop_all}
use Rattle.x509_der.specs.ObjectIdentifier.{subidentifiers_in}
use Rattle.x509_der.specs.ArcLaws.{subidentifiers_in-some}
use Rattle.x509_der.proofs.oid.numbers.Numbers.subidentifiers_in.Goals as goal

pub returns-clause-some : goal.returns-clause-some
returns-clause-some c =
    let end = drop_all c.loop-octet.octet-index c.args.content.now (omega arith) in
    let all : c.loop-octet.numbers ≡ subidentifiers_in 0 c.args.content.now =
    sym (append-nil c.loop-octet.numbers) ∙ ap (λ (xs : List ℕ). c.loop-octet.numbers ++ subidentifiers_in c.loop-octet.high xs) (sym end) ∙ c.loop-octet.invariant.so_far in
    omega (arith, ap length all, subidentifiers_in-some c.args.content.now c.requires)
