-- What sets hold to which constraints were applied.
use Rattle.std.specs.Prelude.{◌≡◌, ℕ, ◌<◌, Bool, true, false, List, slice_index_or}
use Rattle.std.specs.List.{list_all, list_any}
use Rattle.x509_ext.specs.declared.pkix.name.general_name.GeneralName.{GeneralName}
use Rattle.x509_ext.specs.declared.pkix.name_constraints.NameConstraints.{NameConstraints}
use Rattle.x509_constraints.specs.Constraints.{form_of, is_comparable}
use Rattle.x509_constraints.specs.Marks.{rejects}
use Rattle.x509_constraints.specs.Stacks.{in_all, in_some}
use Rattle.x509_constraints.specs.SubtreeKeys.{constrains, excludes, permits, excludes_form, is_unusable_for}
use Rattle.x509_constraints.specs.declared.sets.ConstraintSets.{ConstraintSets}

-- for each form, whether one of the sets passes the test
abbrev pub AreNoted : List Bool → (ℕ → NameConstraints → Bool) → List NameConstraints → Type 0
AreNoted noted test sets = (form : ℕ) → form < 9 → slice_index_or noted form false ≡ list_any (test form) sets

-- These constraints were applied, in this order: the sets answer of each key and of each form as they say.
pub record AreApplied (held : ConstraintSets) (sets : List NameConstraints) : Type 0 where
  pub whole : held.is_whole ≡ true
  pub permitted : (key : List ℕ) → in_all held.permitted.items key ≡ list_all (permits key) sets
  pub excluded : (key : List ℕ) → in_some held.excluded.items key ≡ list_any (excludes key) sets
  pub marks : (key : List ℕ) → in_some held.marks.items key ≡ list_any (rejects key) sets
  pub constrained : AreNoted held.constrained constrains sets
  pub excluding : AreNoted held.excluding excludes_form sets
  pub unusable : AreNoted held.unusable is_unusable_for sets

-- to apply constraints was refused once: no name is allowed any more
abbrev pub AllowsNone : ConstraintSets → Type 0
AllowsNone held = held.is_whole ≡ false

-- What a name is allowed by then: keys alone say so of one that has subtrees of its form that can be used, and can be compared where it has to.
pub record IsAskedByKey (sets : List NameConstraints) (name : GeneralName) : Type 0 where
  pub usable : list_any (is_unusable_for (form_of name)) sets ≡ false
  pub compared : list_any (excludes_form (form_of name)) sets ≡ true → is_comparable name ≡ true
  pub host : form_of name ≡ 6 → is_comparable name ≡ true
