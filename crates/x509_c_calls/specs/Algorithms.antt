-- An algorithm by its place (RFC 5280 4.1.1.2).
use Rattle.std.specs.Prelude.{◌≡◌, ℕ, List, ◌++◌}
use Rattle.x509_base.specs.declared.algorithm_identifier.AlgorithmIdentifier.{AlgorithmIdentifier}
use Rattle.x509_c_calls.specs.Kinds.{signature_kind, signature_number}
use Rattle.x509_c_calls.specs.declared.key.algorithm.AlgorithmView.{AlgorithmView}
use Rattle.x509_c_calls.specs.Optional.{IsPerhapsAt}
use Rattle.x509_c_calls.specs.Place.{IsAt}
use Rattle.x509_der.specs.Any.{any}
use Rattle.x509_der.specs.Frames.{optional_octets}
use Rattle.x509_der.specs.Form.{spelling}

-- the parameters as they are written
abbrev pub parameters_text : AlgorithmIdentifier → List ℕ
parameters_text algorithm = optional_octets (spelling any) algorithm.parameters

-- what the view says of an algorithm in these bytes, behind which those others stand
pub record IsAlgorithm (bytes : List ℕ) (algorithm : AlgorithmIdentifier) (behind : List ℕ) (view : AlgorithmView) : Type 0 where
  pub kind : view.kind ≡ signature_number (signature_kind algorithm)
  pub oid : IsAt algorithm.oid (parameters_text algorithm ++ behind) bytes view.oid
  pub parameters : IsPerhapsAt (spelling any) algorithm.parameters behind bytes view.parameters
