use Rattle.std.proofs.Common.{rules}
use Rattle.std.proofs.lemmas.Fn.{always_returns_same}
use Rattle.x509_der.specs.Order.{der_order}
use Rattle.x509_der.specs.Writing.{writes}
use Rattle.x509_der.proofs.set.places.place.Goals as goal

pub returns-clause-found : goal.returns-clause-found
returns-clause-found g c =
    c.binary_search_by.ensures.position (λ x. der_order g.T.Grammar.form (writes g.T.Encode.writing) g.T.ValueOrd.order x c.args.item.now) (always_returns_same _ _ _ (λ a r f' k. search rules))
