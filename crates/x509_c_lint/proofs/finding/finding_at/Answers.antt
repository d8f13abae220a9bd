use Rattle.std.proofs.Common.{◌++◌, arith}
use Rattle.std.specs.Prelude.{codes}
use Rattle.x509_c_lint.proofs.FindingPlaces.{end-of, onward, rest-fits, stands-on}
use Rattle.x509_c_lint.proofs.finding.finding_at.Goals as goal
use Rattle.x509_c_lint.specs.FindingLines.{AreUnquoted, Texts}

pub returns-in_default : goal.returns-in_default
returns-in_default c = λ t more stands.
    c.in_default.ensures t.object _ stands.0.0 stands.1

pub returns-in_default-text_at : goal.returns-in_default-text_at
returns-in_default-text_at c = λ t more stands.
    let object_end = onward _ _ _ _ _ _ c.in-Some.ensures.2 t.object _ stands.0.0 stands.1 in
    c.in_default-text_at.ensures t.rule _ stands.0.1 object_end

pub returns-in_default-text_at-2 : goal.returns-in_default-text_at-2
returns-in_default-text_at-2 c = λ t more stands.
    let object_end = onward _ _ _ _ _ _ c.in-Some.ensures.2 t.object _ stands.0.0 stands.1 in
    let rule_end = onward _ _ _ _ _ _ c.in-Some-text_at.ensures.2 t.rule _ stands.0.1 object_end in
    c.in_default-text_at-2.ensures t.severity _ stands.0.2 rule_end

pub returns-in_default-text_at-3 : goal.returns-in_default-text_at-3
returns-in_default-text_at-3 c = λ t more stands.
    let object_end = onward _ _ _ _ _ _ c.in-Some.ensures.2 t.object _ stands.0.0 stands.1 in
    let rule_end = onward _ _ _ _ _ _ c.in-Some-text_at.ensures.2 t.rule _ stands.0.1 object_end in
    let severity_end = onward _ _ _ _ _ _ c.in-Some-text_at-2.ensures.2 t.severity _ stands.0.2 rule_end in
    c.in_default-text_at-3.ensures t.section _ stands.0.3 severity_end

pub returns-in_default-text_at-4 : goal.returns-in_default-text_at-4
returns-in_default-text_at-4 c = λ t more stands.
    let object_end = onward _ _ _ _ _ _ c.in-Some.ensures.2 t.object _ stands.0.0 stands.1 in
    let rule_end = onward _ _ _ _ _ _ c.in-Some-text_at.ensures.2 t.rule _ stands.0.1 object_end in
    let severity_end = onward _ _ _ _ _ _ c.in-Some-text_at-2.ensures.2 t.severity _ stands.0.2 rule_end in
    let section_end = onward _ _ _ _ _ _ c.in-Some-text_at-3.ensures.2 t.section _ stands.0.3 severity_end in
    c.in_default-text_at-4.ensures t.place _ stands.0.4 section_end

pub returns-in_default-text_at-5 : goal.returns-in_default-text_at-5
returns-in_default-text_at-5 c = λ t more stands.
    let object_end = onward _ _ _ _ _ _ c.in-Some.ensures.2 t.object _ stands.0.0 stands.1 in
    let rule_end = onward _ _ _ _ _ _ c.in-Some-text_at.ensures.2 t.rule _ stands.0.1 object_end in
    let severity_end = onward _ _ _ _ _ _ c.in-Some-text_at-2.ensures.2 t.severity _ stands.0.2 rule_end in
    let section_end = onward _ _ _ _ _ _ c.in-Some-text_at-3.ensures.2 t.section _ stands.0.3 severity_end in
    let place_end = onward _ _ _ _ _ _ c.in-Some-text_at-4.ensures.2 t.place _ stands.0.4 section_end in
    c.in_default-text_at-5.ensures t.seen _ stands.0.5 place_end

pub returns-in_default-behind_front : goal.returns-in_default-behind_front
returns-in_default-behind_front c = λ t more stands.
    let object_end = onward _ _ _ _ _ _ c.in-Some.ensures.2 t.object _ stands.0.0 stands.1 in
    let rule_end = onward _ _ _ _ _ _ c.in-Some-text_at.ensures.2 t.rule _ stands.0.1 object_end in
    let severity_end = onward _ _ _ _ _ _ c.in-Some-text_at-2.ensures.2 t.severity _ stands.0.2 rule_end in
    let section_end = onward _ _ _ _ _ _ c.in-Some-text_at-3.ensures.2 t.section _ stands.0.3 severity_end in
    let place_end = onward _ _ _ _ _ _ c.in-Some-text_at-4.ensures.2 t.place _ stands.0.4 section_end in
    let seen_end = onward _ _ _ _ _ _ c.in-Some-text_at-5.ensures.2 t.seen _ stands.0.5 place_end in
    c.in_default-behind_front.ensures more seen_end

pub returns : goal.returns
returns c =
    let more = c.in-Some-behind_front.more.now in
    let seen_on = stands-on _ _ _ _ (codes "\"}\n" ++ more) _ _ c.in-Some-text_at-5.ensures.2 c.in-Some-behind_front.ensures in
    let place_on = stands-on _ _ _ _ _ _ _ c.in-Some-text_at-4.ensures.2 seen_on.1 in
    let section_on = stands-on _ _ _ _ _ _ _ c.in-Some-text_at-3.ensures.2 place_on.1 in
    let severity_on = stands-on _ _ _ _ _ _ _ c.in-Some-text_at-2.ensures.2 section_on.1 in
    let rule_on = stands-on _ _ _ _ _ _ _ c.in-Some-text_at.ensures.2 severity_on.1 in
    let object_on = stands-on _ _ _ _ _ _ _ c.in-Some.ensures.2 rule_on.1 in
    let texts : Texts = record {
      object = c.in-Some.ensures.0;
      rule = c.in-Some-text_at.ensures.0;
      severity = c.in-Some-text_at-2.ensures.0;
      section = c.in-Some-text_at-3.ensures.0;
      place = c.in-Some-text_at-4.ensures.0;
      seen = c.in-Some-text_at-5.ensures.0;
    } in
    let unquoted : AreUnquoted texts = (
      c.in-Some.ensures.2.unquoted,
      c.in-Some-text_at.ensures.2.unquoted,
      c.in-Some-text_at-2.ensures.2.unquoted,
      c.in-Some-text_at-3.ensures.2.unquoted,
      c.in-Some-text_at-4.ensures.2.unquoted,
      c.in-Some-text_at-5.ensures.2.unquoted,
    ) in (
      texts,
      more,
      record {
        stands = (unquoted, object_on.1);
        behind = (end-of _ _ (codes "\"}\n") _ c.in-Some-text_at-5.ensures.2.within c.in-Some-behind_front.ensures, omega arith);
        object = object_on.0;
        rule = rule_on.0;
        severity = severity_on.0;
        section = section_on.0;
        place = place_on.0;
        seen = seen_on.0;
      },
    )

pub overflow_sub-result : goal.overflow_sub-result
overflow_sub-result c = rest-fits _ _ (codes "\"}\n") _ c.in-Some-behind_front.ensures
