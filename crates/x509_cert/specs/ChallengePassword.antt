-- ChallengePassword: DirectoryString (RFC 2985 5.4.1)
use Rattle.std.specs.Prelude.{◌≡◌, Ok, refl}
use Rattle.std.proofs.Common.{ap, inl, inr}
use Rattle.x509_cert.specs.declared.request.attributes.ChallengePassword.{ChallengePassword}
use Rattle.x509_der.specs.Outcome.{◌>>=◌}
use Rattle.x509_der.specs.OutcomeLaws.{bind_ok, bind_err, ok_is, not_refused}
use Rattle.x509_der.specs.declared.error.ErrorKind.{ErrorKind}
use Rattle.x509_der.specs.Form.{Form, IsForm}
use Rattle.x509_name.specs.DirectoryString.{directory_string, directory_string_lawful}
use Rattle.x509_name.specs.declared.name.directory_string.DirectoryString.{DirectoryString}

abbrev pub password_of : DirectoryString → ChallengePassword
password_of string = record { 0 = string }

-- the element of its text
abbrev pub challenge_password : Form ChallengePassword
challenge_password = record {
  tag = λ password. directory_string.tag password.0;
  content = λ password. directory_string.content password.0;
  good = λ password. directory_string.good password.0;
  starts = directory_string.starts;
  reading = λ tag content. directory_string.reading tag content >>= λ string. Ok (password_of string);
}

pub challenge_password_lawful : {R : ErrorKind → Type 0} → IsForm R challenge_password
challenge_password_lawful {R} =
    let h : IsForm R directory_string = directory_string_lawful in
    record {
      sound = λ tag content password e.
          let a = bind_ok (directory_string.reading tag content) (λ string. Ok (password_of string)) password e in
          let is : a.0 ≡ password.0 = ap (λ (p : ChallengePassword). p.0) (ok_is (password_of a.0) password a.2) in
          rw (← is) (h.sound tag content a.0 a.1);
      complete = λ password good. rw (h.complete password.0 good) refl;
      refused = λ tag content e r. elim (bind_err (directory_string.reading tag content) (λ string. Ok (password_of string)) e r) [
        | inl k ↦ h.refused tag content e k
        | inr k ↦ not_refused (password_of k.0) e k.2
      ];
      tagged = λ password good. h.tagged password.0 good;
    }
