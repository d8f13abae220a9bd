-- What a look-up answers, as the extensions that are asked for.
use Rattle.std.proofs.Common.{◌≡◌, List, [], ◌∷◌, Option, Some, None, Result, Ok, Err, refl}
use Rattle.x509_cert.specs.AttributeLookUp.{DecodesAlone, FindsValue}
use Rattle.x509_cert.specs.declared.request.extension_req.ExtensionReq.{ExtensionReq}
use Rattle.x509_der.specs.Form.{Form}
use Rattle.x509_der.specs.Outcome.{IsRefusal}
use Rattle.x509_der.specs.declared.any.Any.{Any}
use Rattle.x509_der.specs.declared.error.Error.{Error}
use Rattle.x509_der.specs.declared.error.ErrorKind.{ErrorKind}
use Rattle.x509_der.specs.declared.error.ErrorKind.TheVariants as errors
use Rattle.x509_lint.specs.Notices.{value_read}
use Rattle.x509_lint.specs.Request.{one_value, requested_in}
use Rattle.x509_name.specs.declared.attr.attribute.Attribute.{Attribute}

unread : (reading : Result ExtensionReq ErrorKind) (kind : ErrorKind) → (kind ≡ errors.Memory → ⊥) → IsRefusal kind reading → None ≡ value_read reading
unread reading errors.Memory other e = absurd (other refl)
unread reading _ other e = rw e refl

module _ (form : Form ExtensionReq) (refuses : ErrorKind → Type 0) (wants_memory : Type 0) where
  one_found : (values : List Any) (found : ExtensionReq) → DecodesAlone form refuses wants_memory values (Ok found) → Some found ≡ one_value form values
  one_found [] found h = absurd h
  one_found (value ∷ []) found h = rw h.which refl
  one_found (first ∷ second ∷ values) found h = absurd h

  one_refused : (values : List Any) (e : Error) → (e.kind ≡ errors.Memory → ⊥) → DecodesAlone form refuses wants_memory values (Err e) → None ≡ one_value form values
  one_refused [] e other h = refl
  one_refused (value ∷ []) e other h = unread _ e.kind other h.which
  one_refused (first ∷ second ∷ values) e other h = refl

  pub requested_found : (attributes : List Attribute) (found : Option ExtensionReq) → FindsValue form refuses wants_memory attributes (Ok found) → found ≡ requested_in form attributes
  requested_found [] found h = cc
  requested_found (attribute ∷ []) None h = absurd h
  requested_found (attribute ∷ []) (Some found) h = one_found attribute.values found h
  requested_found (first ∷ second ∷ attributes) found h = absurd h

  pub requested_refused : (attributes : List Attribute) (e : Error) → (e.kind ≡ errors.Memory → ⊥) → FindsValue form refuses wants_memory attributes (Err e) → None ≡ requested_in form attributes
  requested_refused [] e other h = absurd cc
  requested_refused (attribute ∷ []) e other h = one_refused attribute.values e other h
  requested_refused (first ∷ second ∷ attributes) e other h = refl
