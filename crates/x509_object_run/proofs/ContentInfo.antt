-- A SignedData in its ContentInfo, as it is read field by field.
use Rattle.std.proofs.Common.{◌≡◌, ◌≢◌, ◌⊎◌, eqb, arith, length, ℕ, Bool, true, false, List, [], ◌∷◌, bytes_eq, Option, Some, None, Result, Ok, Err, refl, sym, ap, subst, ◌∙◌, inl, inr}
use Rattle.std.proofs.lemmas.Bool.{cases_Bool, eqb-true}
use Rattle.std.specs.Option.{MatchOption}
use Rattle.std.specs.Result.{is_ok}
use Rattle.x509_der.specs.Any.{any, any_found, any_lawful, any_reading}
use Rattle.x509_der.specs.Arcs.{subidentifier}
use Rattle.x509_der.specs.ElementLaws.{piece_at-sound}
use Rattle.x509_der.specs.ElementReading.{Piece, piece_at}
use Rattle.x509_der.specs.Form.{spelling, under, whole_reading}
use Rattle.x509_der.specs.Frames.{explicit_contents, field_at, fields_reading, optional, optional_at}
use Rattle.x509_der.specs.List.{joined, list_of, list_reading, with_front}
use Rattle.x509_der.specs.ListLaws.{ends, first_read, list_lawful, no_front, none_read}
use Rattle.x509_der.specs.Outcome.{◌>>=◌, IsRefusal}
use Rattle.x509_der.specs.declared.any.Any.{Any}
use Rattle.x509_der.specs.declared.error.ErrorKind.{ErrorKind}
use Rattle.x509_der.specs.declared.error.ErrorKind.TheVariants.{Malformed}
use Rattle.x509_der.specs.TagReading.{tag_at, octet_of-tag_at}
use Rattle.x509_object_run.specs.SignedData.{SignedData, begins, content_info, content_info_contents, content_info_fields, elements_of, id_signed_data, only, signed_data, signed_data_contents, signed_data_fields, unread}
use Rattle.x509_object_run.proofs.Elements.{field_none, field_of, piece_of, whole_none, whole_of}

-- 1.2.840.113549.1.7.2
pub signed_data_octets : id_signed_data ≡ 0x2A ∷ 0x86 ∷ 0x48 ∷ 0x86 ∷ 0xF7 ∷ 0x0D ∷ 0x01 ∷ 0x07 ∷ 0x02 ∷ []
unfolding subidentifier
signed_data_octets = refl

-- ---- elements one after the other

-- the element of a piece
pub any_at : (bytes : List ℕ) (piece : Piece) → piece_at bytes ≡ Ok piece → field_at any_reading bytes ≡ Ok (record { tag = tag_at piece.tag; value = piece.content }, piece.rest)
unfolding field_at
any_at bytes piece h =
    let sound = piece_at-sound bytes piece h in
    rw (h, any_found piece.tag piece.content (tag_at piece.tag) (octet_of-tag_at piece.tag sound.1)) refl

ok_front : (front : List Any) (read : Result (List Any) ErrorKind) → is_ok (with_front front read) ≡ is_ok read
ok_front front (Ok xs) = refl
ok_front front (Err e) = refl

-- one element less
pub elements_behind : (bytes : List ℕ) (piece : Piece) → piece_at bytes ≡ Ok piece → is_ok (list_reading any_reading piece.rest) ≡ is_ok (list_reading any_reading bytes)
elements_behind bytes piece h =
    let first : Any = record { tag = tag_at piece.tag; value = piece.content } in
    sym (ok_front (first ∷ []) (list_reading any_reading piece.rest)) ∙ ap is_ok (first_read any_reading bytes piece.rest first (any_at bytes piece h))

refused_any : (bytes : List ℕ) (e : ErrorKind) → piece_at bytes ≡ Err e → field_at any_reading bytes ≡ Err e
unfolding field_at
refused_any bytes e h = rw h refl

not_empty : (b : ℕ) (bytes : List ℕ) → eqb (length (b ∷ bytes)) 0 ≡ false
not_empty b bytes = elim (cases_Bool (eqb (length (b ∷ bytes)) 0)) [ inl zero ↦ absurd (omega (arith, eqb-true (length (b ∷ bytes)) 0 zero)) | inr more ↦ more ]

-- no element stands there
pub no_element : (bytes : List ℕ) (empty : Bool) (e : ErrorKind) → piece_at bytes ≡ Err e → empty ≡ eqb (length bytes) 0 → empty ≡ is_ok (list_reading any_reading bytes)
no_element [] empty e h is = is ∙ sym (ap is_ok (none_read any_reading [] refl))
no_element (b ∷ bytes) empty e h is =
    let none : empty ≡ false = is ∙ not_empty b bytes in
    let refused : is_ok (list_reading any_reading (b ∷ bytes)) ≡ false =
    ap is_ok (ends any_reading [] (b ∷ bytes) e (list_reading any_reading (b ∷ bytes)) (refused_any (b ∷ bytes) e h) (omega arith) (no_front (list_reading any_reading (b ∷ bytes)))) in
    none ∙ sym refused

ok_found : (read : Result (List Any) ErrorKind) → is_ok read ≡ true → (found : List Any) × (read ≡ Ok found)
ok_found (Ok found) h = (found, refl)
ok_found (Err e) h = absurd cc

err_found : (read : Result (List Any) ErrorKind) → is_ok read ≡ false → (e : ErrorKind) × (read ≡ Err e)
err_found (Ok found) h = absurd cc
err_found (Err e) h = (e, refl)

abbrev Never : ErrorKind → Type 0
Never e = ⊥

abbrev with_rest : List ℕ → Result (List Any) ErrorKind → Result (List Any × List ℕ) ErrorKind
with_rest rest read = read >>= λ found. Ok (found, rest)

abbrev as_some : Result (List Any × List ℕ) ErrorKind → Result (Option (List Any) × List ℕ) ErrorKind
as_some found = found >>= λ x. Ok (Some x.0, x.1)

-- a field that is elements
pub present_read : (identifier : ℕ) (bytes octets rest : List ℕ) → piece_at bytes ≡ Ok (piece_of identifier octets rest) → is_ok (list_reading any_reading octets) ≡ true
    → (found : List Any) × (field_at (under identifier (list_of any)).reading bytes ≡ Ok (found, rest)) × (octets ≡ joined (spelling any) found)
present_read identifier bytes octets rest h ok =
    let read = ok_found (list_reading any_reading octets) ok in
    (read.0, field_of (list_of any) identifier bytes octets rest h ∙ ap (with_rest rest) read.1, ((list_lawful {R = Never} any any_lawful).sound octets read.0 read.1).1)

malformed : (e : ErrorKind) → (e ≡ Malformed) ⊎ Never e → e ≡ Malformed
malformed e (inl h) = h
malformed e (inr h) = absurd h

pub present_refused : (identifier : ℕ) (bytes octets rest : List ℕ) → piece_at bytes ≡ Ok (piece_of identifier octets rest) → is_ok (list_reading any_reading octets) ≡ false
    → field_at (under identifier (list_of any)).reading bytes ≡ Err Malformed
present_refused identifier bytes octets rest h refused =
    let read = err_found (list_reading any_reading octets) refused in
    let kind : read.0 ≡ Malformed = malformed read.0 ((list_lawful {R = Never} any any_lawful).refused octets read.0 read.1) in
    field_of (list_of any) identifier bytes octets rest h ∙ ap (with_rest rest) (read.1 ∙ ap (λ e. Err e) kind)

-- a field that may be absent

pub none_joined : [] ≡ joined (spelling any) []
unfolding joined
none_joined = refl

pub absent : (identifier : ℕ) (bytes : List ℕ) → begins identifier bytes ≡ false → optional_at (identifier ∷ []) (under identifier (list_of any)).reading bytes ≡ Ok (None, bytes)
unfolding optional_at
absent identifier [] h = refl
absent identifier (octet ∷ bytes) h = rw h refl

there : (identifier : ℕ) (bytes : List ℕ) (found : Result (List Any × List ℕ) ErrorKind) → begins identifier bytes ≡ true → field_at (under identifier (list_of any)).reading bytes ≡ found
    → optional_at (identifier ∷ []) (under identifier (list_of any)).reading bytes ≡ as_some found
unfolding optional_at
there identifier [] found h is = absurd cc
there identifier (octet ∷ bytes) found h is = rw (h, is) refl

pub optional_read : {T : Type 0} (octets_of : T → List ℕ) (result : Option T) (identifier : ℕ) (bytes rest : List ℕ) → begins identifier bytes ≡ true
    → MatchOption result (field_at (under identifier (list_of any)).reading bytes ≡ Err Malformed) (λ taken. (found : List Any) × (field_at (under identifier (list_of any)).reading bytes ≡ Ok (found, rest)) × (octets_of taken ≡ joined (spelling any) found))
    → MatchOption result ((optional (under identifier (list_of any))).reading bytes ≡ Err Malformed)
    (λ taken. (found : Option (List Any)) × ((optional (under identifier (list_of any))).reading bytes ≡ Ok (found, rest)) × (octets_of taken ≡ joined (spelling any) (elements_of found)))
optional_read octets_of None identifier bytes rest begin h = there identifier bytes (Err Malformed) begin h
optional_read octets_of (Some taken) identifier bytes rest begin h = (Some h.0, there identifier bytes (Ok (h.0, rest)) begin h.1, h.2)

-- ---- ContentInfo

-- an answer says other things
pub match_option : {T : Type 0} (o : Option T) {P R : Type 0} {Q S : T → Type 0} → (P → R) → ((x : T) → Q x → S x) → MatchOption o P Q → MatchOption o R S
match_option None none some h = none h
match_option (Some x) none some h = some x h

pub refused_piece : (kind : ErrorKind) (piece : Result Piece ErrorKind) → IsRefusal kind piece → kind ≡ Malformed → piece ≡ Err Malformed
refused_piece kind piece h is = subst (λ k. IsRefusal k piece) is h

pub is_nil : (xs : List ℕ) → eqb (length xs) 0 ≡ true → xs ≡ []
is_nil [] h = refl
is_nil (x ∷ xs) h = absurd (omega (arith, eqb-true (length (x ∷ xs)) 0 h))

pub is_some : (xs : List ℕ) → eqb (length xs) 0 ≡ false → xs ≢ []
is_some [] h = absurd cc
is_some (x ∷ xs) h = λ e. absurd cc

module _ (octets : List ℕ) where
  pub no_info : ((content : List ℕ) → piece_at octets ≢ Ok (piece_of 48 content [])) → is_ok (whole_reading content_info.reading octets) ≡ false
  no_info other = ap is_ok (whole_none content_info_contents 48 octets other)

  module _ (content : List ℕ) (whole : piece_at octets ≡ Ok (piece_of 48 content [])) where
    info : whole_reading content_info.reading octets ≡ content_info_contents.reading content
    info = whole_of content_info_contents 48 octets content whole

    no_type_in : ((piece : Piece) → piece_at content ≡ Ok piece → piece.tag ≢ 6) → is_ok (content_info_contents.reading content) ≡ false
    unfolding fields_reading content_info_fields
    no_type_in other = rw (field_none (only id_signed_data) 6 content other) refl

    pub no_type : ((piece : Piece) → piece_at content ≡ Ok piece → piece.tag ≢ 6) → is_ok (whole_reading content_info.reading octets) ≡ false
    no_type other = ap is_ok info ∙ no_type_in other

    module _ (type rest : List ℕ) (typed : piece_at content ≡ Ok (piece_of 6 type rest)) where
      other_type_in : bytes_eq type id_signed_data ≡ false → is_ok (content_info_contents.reading content) ≡ false
      unfolding fields_reading content_info_fields
      other_type_in other = rw (field_of (only id_signed_data) 6 content type rest typed, other) refl

      -- another content type
      pub other_type : bytes_eq type id_signed_data ≡ false → is_ok (whole_reading content_info.reading octets) ≡ false
      other_type other = ap is_ok info ∙ other_type_in other

      module _ (same : bytes_eq type id_signed_data ≡ true) where
        no_held_in : ((piece : Piece) → piece_at rest ≡ Ok piece → piece.tag ≢ 160) → is_ok (content_info_contents.reading content) ≡ false
        unfolding fields_reading content_info_fields
        no_held_in other = rw (field_of (only id_signed_data) 6 content type rest typed, same, field_none (explicit_contents signed_data) 160 rest other) refl

        pub no_held : ((piece : Piece) → piece_at rest ≡ Ok piece → piece.tag ≢ 160) → is_ok (whole_reading content_info.reading octets) ≡ false
        no_held other = ap is_ok info ∙ no_held_in other

        module _ (held behind : List ℕ) (tagged : piece_at rest ≡ Ok (piece_of 160 held behind)) where
          left_over : (read : Result SignedData ErrorKind) (b : ℕ) (more : List ℕ) → whole_reading signed_data.reading held ≡ read → behind ≡ b ∷ more → is_ok (content_info_contents.reading content) ≡ false
          unfolding fields_reading content_info_fields
          left_over (Ok signed) b more is left = rw (field_of (only id_signed_data) 6 content type rest typed, same, field_of (explicit_contents signed_data) 160 rest held behind tagged, is, left) refl
          left_over (Err e) b more is left = rw (field_of (only id_signed_data) 6 content type rest typed, same, field_of (explicit_contents signed_data) 160 rest held behind tagged, is) refl

          left_in : (more : List ℕ) → behind ≡ more → more ≢ [] → is_ok (content_info_contents.reading content) ≡ false
          left_in [] is some = absurd (some refl)
          left_in (b ∷ more) is some = left_over (whole_reading signed_data.reading held) b more refl is

          -- octets stand behind it
          pub info_left : behind ≢ [] → is_ok (whole_reading content_info.reading octets) ≡ false
          info_left some = ap is_ok info ∙ left_in behind refl some

          all_read : (read : Result SignedData ErrorKind) → whole_reading signed_data.reading held ≡ read → behind ≡ [] → content_info_contents.reading content ≡ read
          unfolding fields_reading content_info_fields
          all_read (Ok signed) is none = rw (field_of (only id_signed_data) 6 content type rest typed, same, field_of (explicit_contents signed_data) 160 rest held behind tagged, is, none) refl
          all_read (Err e) is none = rw (field_of (only id_signed_data) 6 content type rest typed, same, field_of (explicit_contents signed_data) 160 rest held behind tagged, is) refl

          -- what is held is a SignedData
          pub info_read : behind ≡ [] → (signed : List ℕ) → piece_at held ≡ Ok (piece_of 48 signed []) → whole_reading content_info.reading octets ≡ signed_data_contents.reading signed
          info_read none signed h = info ∙ all_read (whole_reading signed_data.reading held) refl none ∙ whole_of signed_data_contents 48 held signed h

          pub no_signed : ((signed : List ℕ) → piece_at held ≢ Ok (piece_of 48 signed [])) → behind ≡ [] → is_ok (whole_reading content_info.reading octets) ≡ false
          no_signed other none = ap is_ok (info ∙ all_read (Err Malformed) (whole_none signed_data_contents 48 held other) none)

-- ---- the fields of a SignedData

module _ (content : List ℕ) where
  pub no_version : ((piece : Piece) → piece_at content ≡ Ok piece → piece.tag ≢ 2) → is_ok (signed_data_contents.reading content) ≡ false
  unfolding fields_reading signed_data_fields
  no_version other = rw (field_none unread 2 content other) refl

  module _ (version r1 : List ℕ) (h1 : piece_at content ≡ Ok (piece_of 2 version r1)) where
    pub no_algorithms : ((piece : Piece) → piece_at r1 ≡ Ok piece → piece.tag ≢ 49) → is_ok (signed_data_contents.reading content) ≡ false
    unfolding fields_reading signed_data_fields
    no_algorithms other = rw (field_of unread 2 content version r1 h1, field_none unread 49 r1 other) refl

    module _ (algorithms r2 : List ℕ) (h2 : piece_at r1 ≡ Ok (piece_of 49 algorithms r2)) where
      pub no_content : ((piece : Piece) → piece_at r2 ≡ Ok piece → piece.tag ≢ 48) → is_ok (signed_data_contents.reading content) ≡ false
      unfolding fields_reading signed_data_fields
      no_content other = rw (field_of unread 2 content version r1 h1, field_of unread 49 r1 algorithms r2 h2, field_none unread 48 r2 other) refl

      module _ (held r3 : List ℕ) (h3 : piece_at r2 ≡ Ok (piece_of 48 held r3)) where
        pub no_certificates : (optional (under 160 (list_of any))).reading r3 ≡ Err Malformed → is_ok (signed_data_contents.reading content) ≡ false
        unfolding fields_reading signed_data_fields
        no_certificates none = rw (field_of unread 2 content version r1 h1, field_of unread 49 r1 algorithms r2 h2, field_of unread 48 r2 held r3 h3, none) refl

        module _ (certificates : Option (List Any)) (r4 : List ℕ) (h4 : (optional (under 160 (list_of any))).reading r3 ≡ Ok (certificates, r4)) where
          pub no_crls : (optional (under 161 (list_of any))).reading r4 ≡ Err Malformed → is_ok (signed_data_contents.reading content) ≡ false
          unfolding fields_reading signed_data_fields
          no_crls none = rw (field_of unread 2 content version r1 h1, field_of unread 49 r1 algorithms r2 h2, field_of unread 48 r2 held r3 h3, h4, none) refl

          module _ (crls : Option (List Any)) (r5 : List ℕ) (h5 : (optional (under 161 (list_of any))).reading r4 ≡ Ok (crls, r5)) where
            pub no_signers : ((piece : Piece) → piece_at r5 ≡ Ok piece → piece.tag ≢ 49) → is_ok (signed_data_contents.reading content) ≡ false
            unfolding fields_reading signed_data_fields
            no_signers other = rw (field_of unread 2 content version r1 h1, field_of unread 49 r1 algorithms r2 h2, field_of unread 48 r2 held r3 h3, h4, h5, field_none unread 49 r5 other) refl

            module _ (signers r6 : List ℕ) (h6 : piece_at r5 ≡ Ok (piece_of 49 signers r6)) where
              left_behind : (more : List ℕ) → r6 ≡ more → more ≢ [] → is_ok (signed_data_contents.reading content) ≡ false
              unfolding fields_reading signed_data_fields
              left_behind [] is some = absurd (some refl)
              left_behind (b ∷ more) is some = rw (field_of unread 2 content version r1 h1, field_of unread 49 r1 algorithms r2 h2, field_of unread 48 r2 held r3 h3, h4, h5, field_of unread 49 r5 signers r6 h6, is) refl

              -- octets stand behind them
              pub signed_left : r6 ≢ [] → is_ok (signed_data_contents.reading content) ≡ false
              signed_left some = left_behind r6 refl some

              pub signed_read : r6 ≡ [] → signed_data_contents.reading content ≡ Ok (record { version = version; digest_algorithms = algorithms; encap_content_info = held; certificates = certificates; crls = crls; signer_infos = signers })
              unfolding fields_reading signed_data_fields
              signed_read none = rw (field_of unread 2 content version r1 h1, field_of unread 49 r1 algorithms r2 h2, field_of unread 48 r2 held r3 h3, h4, h5, field_of unread 49 r5 signers r6 h6, none) refl
