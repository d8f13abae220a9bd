use Rattle.std.proofs.Common.{◌≡◌, ◌∙◌, sym}
use Rattle.std.proofs.lemmas.Bool.{eqb-true}
use Rattle.x509_text.specs.Runs.{run_len}
use Rattle.x509_text.proofs.Runs.{run_boundary, written_all, run_written, last_run_written}
use Rattle.x509_text.proofs.line.write_shown.Goals as goal

pub split_at-requires : goal.split_at-requires
split_at-requires c =
    let is : c.run_len.result ≡ run_len c.args.style c.loop-rest.rest.now = rw c.as_bytes.ensures.value at c.run_len.ensures in
    rw is (run_boundary c.args.style c.loop-rest.rest.now)

pub returns-then-is_empty : goal.returns-then-is_empty
returns-then-is_empty c =
    let is : c.run_len.result ≡ run_len c.args.style c.loop-rest.rest.now = rw c.as_bytes.ensures.value at c.run_len.ensures in
    last_run_written c.args.style _ _ c.loop-rest.rest.now _ _ _ c.loop-rest.invariant.utf8
    (rw is at c.split_at.ensures.front) (rw is at c.split_at.ensures.back) c.loop-rest.invariant.so_far
    c.in_ok-push_str.ensures.bytes (eqb-true _ 0 (sym c.if-is_empty.ensures))

pub loop-rest-preserved : goal.loop-rest-preserved
loop-rest-preserved c =
    let is : c.run_len.result ≡ run_len c.args.style c.loop-rest.rest.now = rw c.as_bytes.ensures.value at c.run_len.ensures in
    record {
      utf8 = c.in_ok-rest.ensures.utf8;
      so_far = c.in_ok-rest.ensures.written
          ∙ run_written c.args.style _ _ c.loop-rest.rest.now _ _ _ c.loop-rest.invariant.utf8
          (rw is at c.split_at.ensures.front) (rw is at c.split_at.ensures.back) c.loop-rest.invariant.so_far
          c.in_ok-push_str.ensures.bytes;
    }

pub returns : goal.returns
returns c = written_all c.args.style _ c.loop-rest.rest.now _ (eqb-true _ 0 (sym c.loop-rest-test.ensures)) c.loop-rest.invariant.so_far
