use Rattle.std.proofs.Common.{rules}
use Rattle.x509_test_rows_run.proofs.Rows.{no_space, one_space, no_profile, no_name}
use Rattle.x509_test_rows_run.proofs.row.row_of.Goals as goal

pub returns-in_default : goal.returns-in_default
returns-in_default c name profile text row = no_space _ name text profile c.in_default.ensures row

pub returns-in_default-split_at_space : goal.returns-in_default-split_at_space
returns-in_default-split_at_space c name profile text row =
    one_space _ _ _ name text profile c.in-Some.ensures.0 c.in-Some.ensures.1 c.in_default-split_at_space.ensures row

pub returns-in_default-profile_of : goal.returns-in_default-profile_of
returns-in_default-profile_of c name profile text row =
    no_profile _ _ _ _ _ name text profile c.in-Some.ensures.0 c.in-Some.ensures.1 c.in-Some-split_at_space.ensures.0 c.in-Some-split_at_space.ensures.1 (search rules) row

pub returns-in_default-from_utf8 : goal.returns-in_default-from_utf8
returns-in_default-from_utf8 c name profile text row =
    no_name _ _ _ name text profile c.in-Some.ensures.0 c.in-Some.ensures.1 c.in_default-from_utf8.ensures.cases.0 row
