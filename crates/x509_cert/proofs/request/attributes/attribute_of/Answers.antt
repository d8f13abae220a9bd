-- The set that one element was put into has that element alone.
use Rattle.std.proofs.Common.{◌≡◌, List, [], ◌∷◌, ap}
use Rattle.x509_cert.proofs.OneValue.{one_value}
use Rattle.x509_cert.proofs.request.attributes.attribute_of.Goals as goal
use Rattle.x509_der.specs.declared.any.Any.{Any}

pub returns : goal.returns
returns g c =
    let put = rw c.new-values.ensures at c.in_ok-insert.ensures.put in
    let alone : c.insert.new.self ≡ c.in_ok-element.element ∷ [] = one_value c.in_ok-element.element c.insert.new.self put in (
      record {
        value = c.in_ok-element.element;
        alone = ap (λ (values : List Any). record { oid = c.args.oid; values = values }) alone;
        encoded = c.in_ok-element.ensures.ok.0;
      },
      c.in_ok-element.ensures.ok.1,
    )
