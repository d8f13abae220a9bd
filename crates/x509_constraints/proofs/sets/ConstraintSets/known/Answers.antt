use Rattle.std.proofs.Common.{◌≡◌, ◌==◌, ◌||◌, ◌∙◌, ap, false, true, sym, slice_index_or}
use Rattle.x509_constraints.specs.Constraints.{form_of}
use Rattle.x509_constraints.proofs.Allowed.{asked_answers, form-few, free_answers, refused_answers, unusable_answers}
use Rattle.x509_constraints.proofs.sets.ConstraintSets.known.Goals as goal
use Rattle.x509_constraints.proofs.sets.ConstraintSets.known.Goals.{else-not-can_be_compared-via-then-not-can_be_compared+else-asks_to_compare, else-not-can_be_compared-via-else-not-can_be_compared}

pub returns-then-not-self-from : goal.returns-then-not-self-from
returns-then-not-self-from c sets name applied is_form can =
    free_answers name sets (slice_index_or c.args.self.now.constrained c.from.result false)
    (ap (λ f. slice_index_or c.args.self.now.constrained f false) (c.from.ensures ∙ sym is_form) ∙ applied.constrained (form_of name) (form-few name))
    c.if-not-self-from.true

pub returns-then-self-from : goal.returns-then-self-from
returns-then-self-from c sets name applied is_form can =
    unusable_answers name sets (slice_index_or c.args.self.now.unusable c.from-2.result false)
    (ap (λ f. slice_index_or c.args.self.now.unusable f false) (c.from-2.ensures ∙ sym is_form) ∙ applied.unusable (form_of name) (form-few name))
    c.if-self-from.true

pub returns-then-asks_to_compare : goal.returns-then-asks_to_compare
returns-then-asks_to_compare c sets name applied is_form can =
    refused_answers name sets (slice_index_or c.args.self.now.constrained c.from.result false) (slice_index_or c.args.self.now.excluding c.args.form false)
    (ap (λ f. slice_index_or c.args.self.now.constrained f false) (c.from.ensures ∙ sym is_form) ∙ applied.constrained (form_of name) (form-few name))
    c.if-not-self-from.false
    (ap (λ f. slice_index_or c.args.self.now.excluding f false) (sym is_form) ∙ applied.excluding (form_of name) (form-few name))
    (ap (λ f. slice_index_or c.args.self.now.excluding c.args.form false || (f == 6)) is_form ∙ (sym c.asks_to_compare.ensures ∙ c.if-asks_to_compare.true))
    (can ∙ c.if-not-can_be_compared.true)

pub returns : goal.returns
returns c sets name applied is_form can =
    asked_answers name sets (slice_index_or c.args.self.now.unusable c.from-2.result false)
    (slice_index_or c.args.self.now.excluding c.args.form false) c.args.can_be_compared
    (ap (λ f. slice_index_or c.args.self.now.unusable f false) (c.from-2.ensures ∙ sym is_form) ∙ applied.unusable (form_of name) (form-few name))
    c.if-self-from.false
    (ap (λ f. slice_index_or c.args.self.now.excluding f false) (sym is_form) ∙ applied.excluding (form_of name) (form-few name))
    can
    (λ nothing. elim c.else-not-can_be_compared.branch [
      | else-not-can_be_compared-via-then-not-can_be_compared+else-asks_to_compare w ↦
          ap (λ f. slice_index_or c.args.self.now.excluding c.args.form false || (f == 6)) is_form
          ∙ (sym w.asks_to_compare.ensures ∙ w.if-asks_to_compare.false)
      | else-not-can_be_compared-via-else-not-can_be_compared w ↦ absurd (let e : true ≡ false = sym w.if-not-can_be_compared.false ∙ nothing in cc)
    ])
