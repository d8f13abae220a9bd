-- What is noted of the forms of names in a set.
use Rattle.std.specs.Prelude.{ℕ, Bool}
use Rattle.x509_ext.specs.declared.pkix.name_constraints.NameConstraints.{NameConstraints}
use Rattle.x509_constraints.specs.SubtreeKeys.{constrains, excludes_form, is_unusable_for}
use Rattle.x509_constraints.specs.declared.sets.Note.{Note}
use Rattle.x509_constraints.specs.declared.sets.Note.TheVariants.{Constrained, Excluding, Unusable}

abbrev pub notes : Note → ℕ → NameConstraints → Bool
notes Constrained = constrains
notes Excluding = excludes_form
notes Unusable = is_unusable_for
