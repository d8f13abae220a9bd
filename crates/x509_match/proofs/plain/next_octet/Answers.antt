use Rattle.std.proofs.Common.{sym, ◌∙◌, refl, rules, get_or}
use Rattle.x509_match.proofs.PlainTexts.{next-space, next-letter, next-skipped, next-none}
use Rattle.x509_match.proofs.plain.next_octet.Goals as goal

pub returns-then-is_due-clause-next : goal.returns-then-is_due-clause-next
returns-then-is_due-clause-next c ascii =
    let known = c.loop-rest.invariant.left ascii in
    let made = next-space c.args.begun c.loop-rest.gap (get_or c.loop-rest.rest.now 0 0) 0 c.loop-rest.rest.now c.args.text.now c.in-len1-up.len_at_least refl known.1 (sym c.is_letter.ensures ∙ c.if-is_letter.true) (sym c.is_due.ensures ∙ c.if-is_due.true) known.0 in
    record { octet = made; ascii = known.1 }

pub returns-then-is_letter-clause-next : goal.returns-then-is_letter-clause-next
returns-then-is_letter-clause-next c ascii =
    let known = c.loop-rest.invariant.left ascii in
    let made = next-letter c.args.begun c.loop-rest.gap (get_or c.loop-rest.rest.now 0 0) 0 c.loop-rest.rest.now c.args.text.now c.in-len1-up.len_at_least refl known.1 (sym c.is_letter.ensures ∙ c.if-is_letter.true) (sym c.is_due.ensures ∙ c.if-is_due.false) known.0 in
    record { octet = rw c.to_ascii_lowercase.ensures.value made.0; ascii = made.1 }

pub loop-rest-preserved : goal.loop-rest-preserved
loop-rest-preserved c = record {
  left = λ ascii.
      let known = c.loop-rest.invariant.left ascii in
      rw c.gap_behind-gap.ensures (next-skipped c.args.begun c.loop-rest.gap (get_or c.loop-rest.rest.now 0 0) 0 c.loop-rest.rest.now c.args.text.now c.in-len1-up.len_at_least refl known.1 (sym c.is_letter.ensures ∙ c.if-is_letter.false) known.0);
  within = search rules;
  shorter = search rules;
}

pub returns-clause-next : goal.returns-clause-next
returns-clause-next c ascii =
    let known = c.loop-rest.invariant.left ascii in
    record { octet = next-none c.args.begun c.loop-rest.gap _ _ c.in_default.len_below known.0; ascii = known.1 }
