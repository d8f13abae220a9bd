use Rattle.std.proofs.Common.{◌≡◌, rules, filter, not}
use Rattle.x509_object_run.specs.Object.{is_between}
use Rattle.std.proofs.lemmas.Fn.{filter_same}
use Rattle.x509_object_run.proofs.input.digits_of.Goals as goal

pub returns : goal.returns
returns c =
    let kept : c.retain.new.self.items ≡ filter (λ byte. not (is_between byte)) c.in_ok-digits.digits.items =
    filter_same _ _ _ (λ x b f' k. search rules) _ _ c.retain.ensures.filtered in
    rw c.in_ok-digits.ensures.items at kept
