-- User notices, by their places (RFC 5280 4.2.1.4).
use Rattle.std.specs.Prelude.{ℕ, List, ◌++◌, Option, Some, None}
use Rattle.x509_c_calls.specs.declared.payloads.notice.UserNoticeView.{UserNoticeView}
use Rattle.x509_c_calls.specs.Optional.{IsNowhere, IsPerhapsAt}
use Rattle.x509_c_calls.specs.Place.{IsAt}
use Rattle.x509_c_calls.specs.declared.place.span.Span.{Span}
use Rattle.x509_der.specs.declared.tag.Tag.TheVariants.{Sequence}
use Rattle.x509_der.specs.Frames.{optional_octets}
use Rattle.x509_der.specs.List.{list_of}
use Rattle.x509_der.specs.Form.{Form, spelling, universal}
use Rattle.x509_ext.specs.DisplayText.{display_text}
use Rattle.x509_ext.specs.NoticeReference.{notice_reference}
use Rattle.x509_ext.specs.declared.pkix.user_notice.NoticeReference.{NoticeReference}
use Rattle.x509_ext.specs.declared.pkix.user_notice.UserNotice.{UserNotice}
use Rattle.x509_prim.specs.Integer.{unsigned_integer}

-- SEQUENCE OF INTEGER, each from 0 on
abbrev pub notice_numbers : Form (List (List ℕ))
notice_numbers = universal Sequence (list_of unsigned_integer)

-- the reference and the text as they are written
abbrev pub reference_text : Option NoticeReference → List ℕ
reference_text reference = optional_octets (spelling notice_reference) reference

abbrev pub explicit_octets : UserNotice → List ℕ
explicit_octets notice = optional_octets (spelling display_text) notice.explicit_text

-- where the organization and the numbers of a reference stand, behind which those octets stand; of one that is left out nowhere
abbrev pub IsReference : Option NoticeReference → List ℕ → List ℕ → Span → Span → Type 0
IsReference None behind bytes organization numbers = IsNowhere organization × IsNowhere numbers
IsReference (Some it) behind bytes organization numbers =
    IsAt (spelling display_text it.organization) (optional_octets (spelling notice_numbers) it.notice_numbers ++ behind) bytes organization
    × IsPerhapsAt (spelling notice_numbers) it.notice_numbers behind bytes numbers

-- what the view says of a notice in these bytes, behind which those others stand
pub record IsUserNotice (bytes : List ℕ) (notice : UserNotice) (behind : List ℕ) (view : UserNoticeView) : Type 0 where
  pub reference : IsReference notice.notice_ref (explicit_octets notice ++ behind) bytes view.organization view.notice_numbers
  pub explicit_text : IsPerhapsAt (spelling display_text) notice.explicit_text behind bytes view.explicit_text
