use Rattle.std.proofs.Common.{◌≡◌, ◌↔◌, ◌∙◌, Bool, true, false, ℕ, List, ap, filter, subst, sym}
use Rattle.std.proofs.lemmas.Result.{IfOk-weaker}
use Rattle.x509_path_steps.proofs.Allowed.{Names, by_any, by_name}
use Rattle.x509_path_steps.proofs.purposes.named.Goals as goal
use Rattle.x509_path_steps.specs.Validation.{any_purpose}
use Rattle.x509_policy.specs.Levels.{In}
use Rattle.x509_policy.specs.Values.{has}
use Rattle.x509_policy.specs.Views.{octets_of}

pub returns-then-contains : goal.returns-then-contains
returns-then-contains c =
    let usage = c.args.usage.now.0 in
    let purposes = octets_of c.args.purposes.now in
    let same : has c.new-set.result ≡ has usage = c.new-set.ensures.same ∙ ap has (c.in_ok-octets.ensures ∙ c.as_slice.ensures) in
    let any : has usage any_purpose ≡ true = sym (ap (λ (f : List ℕ → Bool). f any_purpose) same) ∙ sym c.contains.ensures ∙ c.if-contains.true in
    IfOk-weaker c.from_slice.result _ _ (λ found is p. subst (λ items. In p (octets_of items) ↔ (In p purposes × Names usage p)) (sym is) (by_any purposes usage any p)) c.from_slice.ensures.items

pub returns : goal.returns
returns c =
    let usage = c.args.usage.now.0 in
    let purposes = octets_of c.args.purposes.now in
    let same : has c.new-set.result ≡ has usage = c.new-set.ensures.same ∙ ap has (c.in_ok-octets.ensures ∙ c.as_slice.ensures) in
    let none : has usage any_purpose ≡ false = sym (ap (λ (f : List ℕ → Bool). f any_purpose) same) ∙ sym c.contains.ensures ∙ c.if-contains.false in
    IfOk-weaker c.within.result _ _
    (λ found is p. subst (λ os. In p os ↔ (In p purposes × Names usage p)) (sym (is ∙ ap (λ (f : List ℕ → Bool). filter (λ q. f q) purposes) same)) (by_name purposes usage none p))
    c.within.ensures
