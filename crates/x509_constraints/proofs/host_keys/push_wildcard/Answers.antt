use Rattle.std.proofs.Common.{◌≡◌, ◌∷◌, ◌++◌, [], ap, ◌∙◌, append_assoc}
use Rattle.std.proofs.lemmas.Result.{on_ok_weaker}
use Rattle.x509_constraints.specs.Keys.{stop, turned}
use Rattle.x509_constraints.proofs.KeyLaws.{turned_pushed}
use Rattle.x509_constraints.proofs.host_keys.push_wildcard.Goals as goal
use Rattle.x509_host.specs.Host.{dot, star}

pub returns : goal.returns
returns c =
    let dotted = turned_pushed c.args.rest.now dot c.symbol.result _ _ _ c.in_ok-push_turned.ensures c.symbol.ensures c.in_ok-push.ensures in
    let starred = turned_pushed (dot ∷ c.args.rest.now) star c.symbol-2.result _ _ _ dotted c.symbol-2.ensures c.in_ok-push-2.ensures in
    on_ok_weaker c.push-3.result (λ (pushed : c.push-3.new.self ≡ c.push-2.new.self ++ stop ∷ []). pushed ∙ (ap (λ l. l ++ stop ∷ []) starred
    ∙ append_assoc c.args.key.now (turned (star ∷ dot ∷ c.args.rest.now)) (stop ∷ []))) c.push-3.ensures
