-- Constraints on names, by their places (RFC 5280 4.2.1.10).
use Rattle.std.specs.Prelude.{◌≡◌, ◌^◌, ℕ, List, ◌++◌}
use Rattle.x509_c_calls.specs.GeneralNames.{IsGeneralName}
use Rattle.x509_c_calls.specs.Optional.{IsPerhapsAt, IsNumber}
use Rattle.x509_c_calls.specs.declared.payloads.subtree.NameConstraintsView.{NameConstraintsView}
use Rattle.x509_c_calls.specs.declared.payloads.subtree.SubtreeView.{SubtreeView}
use Rattle.x509_der.specs.DefaultValues.{zero_default}
use Rattle.x509_der.specs.Frames.{implicit, optional_octets, default_octets}
use Rattle.x509_der.specs.Form.{spelling}
use Rattle.x509_der.specs.Natural.{natural}
use Rattle.x509_ext.specs.GeneralSubtree.{general_subtrees}
use Rattle.x509_ext.specs.declared.pkix.general_subtree.GeneralSubtree.{GeneralSubtree}
use Rattle.x509_ext.specs.declared.pkix.name_constraints.NameConstraints.{NameConstraints}

-- what the view says of constraints in these bytes, behind which those others stand
pub record AreNameConstraints (bytes : List ℕ) (constraints : NameConstraints) (behind : List ℕ) (view : NameConstraintsView) : Type 0 where
  pub permitted : IsPerhapsAt (spelling (implicit 0 general_subtrees)) constraints.permitted_subtrees (optional_octets (spelling (implicit 1 general_subtrees)) constraints.excluded_subtrees ++ behind) bytes view.permitted
  pub excluded : IsPerhapsAt (spelling (implicit 1 general_subtrees)) constraints.excluded_subtrees behind bytes view.excluded

-- how deep a subtree is, as it is written behind its root
abbrev pub depth_text : GeneralSubtree → List ℕ
depth_text subtree = default_octets zero_default (spelling (implicit 0 (natural (2 ^ 32)))) subtree.minimum ++ optional_octets (spelling (implicit 1 (natural (2 ^ 32)))) subtree.maximum

-- the same of a subtree
pub record IsSubtree (bytes : List ℕ) (subtree : GeneralSubtree) (behind : List ℕ) (view : SubtreeView) : Type 0 where
  pub base : IsGeneralName bytes subtree.base (depth_text subtree ++ behind) view.base
  pub minimum : view.minimum ≡ subtree.minimum
  pub maximum : IsNumber subtree.maximum view.has_maximum view.maximum
