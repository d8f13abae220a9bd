use Rattle.std.proofs.Common.{◌<◌, ◌++◌, length, string_bytes, inl, inr, ap, sym, ◌∙◌, append_assoc, arith}
use Rattle.x509_text.proofs.Elements.{first_lines}
use Rattle.x509_text.specs.Crls.{entry_lines}
use Rattle.x509_text.specs.Pieces.{elements_lines}
use Rattle.x509_crl_index.specs.Split.{read_entry}
use Rattle.x509_der.specs.ListLaws.{field_shorter}
use Rattle.x509_text.proofs.piece.entries_piece.Goals as goal

pub loop-text-smaller : goal.loop-text-smaller
loop-text-smaller c = field_shorter read_entry _ _ _ c.in-Ok.ensures.exact

pub loop-text-preserved : goal.loop-text-preserved
loop-text-preserved c =
    let kept = c.loop-text.invariant in
    let others = elements_lines c.args.at c.read_field.new.rest.now in
    let text = string_bytes c.loop-text.text in
    let shorter : length c.read_field.new.rest.now < length c.loop-text.rest.now = field_shorter read_entry _ _ _ c.in-Ok.ensures.exact in
    let first = first_lines c.args.at _ _ _ c.in-Ok.ensures.exact kept.are_entries in record {
      lines = kept.lines ∙ ap (λ xs. text ++ xs) first.0 ∙ sym (append_assoc text (entry_lines c.args.at c.in-Ok.entry) others) ∙ ap (λ xs. xs ++ others) (sym c.in_ok-show-in-Ok.ensures);
      are_entries = first.1;
      passed = inl (elim kept.passed [ inl less ↦ omega arith | inr none ↦ rw none.1 at shorter ]);
    }
