-- Attributes read: a text is cut in one place, and what the reader refuses is refused.
use Rattle.std.proofs.Common.{◌≡◌, ◌⊎◌, ◌<◌, ◌≤◌, ℕ, suc, true, false, List, [], ◌∷◌, ◌++◌, length, Some, None, Result, Ok, Err, refl, sym, ap, ◌∙◌, arith, inl, inr, subst}
use Rattle.std.specs.Prelude.{Contains, IfOk, IfErr, IsErrAnd}
use Rattle.std.specs.Str.{IsUtf8}
use Rattle.std.proofs.lemmas.Bool.{cases_lt}
use Rattle.std.proofs.lemmas.List.Elements.{Contains-append_right}
use Rattle.x509_der.specs.Element.{element, limit}
use Rattle.x509_der.specs.Tag.{octet_of}
use Rattle.x509_der.specs.declared.error.Error.{Error}
use Rattle.x509_der.specs.declared.error.ErrorKind.{ErrorKind}
use Rattle.x509_der.specs.declared.error.ErrorKind.TheVariants.{Failed, Memory, Overlength}
use Rattle.x509_der.specs.Arcs.{content_of}
use Rattle.x509_der.specs.ArcLaws.{some_arcs, small_arcs}
use Rattle.x509_der.proofs.TextLaws.{dotted_injective}
use Rattle.x509_der.specs.declared.any.Any.{Any}
use Rattle.x509_der.specs.declared.tag.Tag.{Tag}
use Rattle.x509_name.specs.Escapes.{Unescapes}
use Rattle.x509_name.specs.AttributeNames.{Key}
use Rattle.x509_name.specs.Keys.{KeySays, key_named, tag_for}
use Rattle.x509_name.specs.Attributes.{IsCut, AttributeSays, AttributeReads, AttributeRefused, ValueSays, ValueReads, ValueRefused, ValueSaysTooMuch, SaysTooMuch, begins_with_hash, value_octets}
use Rattle.x509_name.proofs.DottedTexts.{dotted_is_utf8}
use Rattle.x509_name.proofs.TableFacts.{not_dotted}

-- ---- refusals

pub weaker_err : {X : Type 0} (P Q : Error → Type 0) (result : Result X Error) → ((e : Error) → P e → Q e) → IfErr result P → IfErr result Q
weaker_err P Q (Ok x) f h = tt
weaker_err P Q (Err e) f h = f e h

-- ---- the first equals sign

contains_first : (byte : ℕ) (bytes : List ℕ) → byte ≡ 61 → Contains (byte ∷ bytes) 61
contains_first byte bytes e = (0, omega arith, e)

contains_later : (byte : ℕ) (bytes : List ℕ) → Contains bytes 61 → Contains (byte ∷ bytes) 61
contains_later byte bytes found = (suc found.0, (let lt = found.1 in omega arith), found.2)

one_first : (key rest other_key other_rest : List ℕ) → key ++ 61 ∷ rest ≡ other_key ++ 61 ∷ other_rest → (Contains key 61 → ⊥) → (Contains other_key 61 → ⊥) → (key ≡ other_key) × (rest ≡ other_rest)
one_first [] rest [] other_rest e p q = (refl, cc)
one_first [] rest (byte ∷ bytes) other_rest e p q = absurd (q (contains_first byte bytes cc))
one_first (byte ∷ bytes) rest [] other_rest e p q = absurd (p (contains_first byte bytes cc))
one_first (byte ∷ bytes) rest (other ∷ others) other_rest e p q =
    let head : byte ≡ other = cc in
    let tail : bytes ++ 61 ∷ rest ≡ others ++ 61 ∷ other_rest = cc in
    let same = one_first bytes rest others other_rest tail (λ c. p (contains_later byte bytes c)) (λ c. q (contains_later other others c)) in
    ((λ i. head i ∷ same.0 i), same.1)

pub one_cut : (text key rest other_key other_rest : List ℕ) → IsCut text key rest → IsCut text other_key other_rest → (key ≡ other_key) × (rest ≡ other_rest)
one_cut text key rest other_key other_rest p q = one_first key rest other_key other_rest (sym p.joined ∙ q.joined) p.first q.first

-- a text without one says nothing
pub no_cut : (text octets bytes : List ℕ) → (Contains text 61 → ⊥) → AttributeSays text octets bytes → ⊥
no_cut text octets bytes none says =
    none (subst (λ (t : List ℕ). Contains t 61) (sym says.cut.joined) (Contains-append_right says.key (61 ∷ says.rest) 61 (contains_first 61 says.rest refl)))

-- what a text says, where it is cut so
pub said_parts : (text key rest octets bytes : List ℕ) → IsCut text key rest → AttributeSays text octets bytes → KeySays key octets × ValueSays octets rest bytes
said_parts text key rest octets bytes cut says =
    let same = one_cut text says.key says.rest key rest says.cut cut in
    (subst (λ (k : List ℕ). KeySays k octets) same.0 says.names, subst (λ (r : List ℕ). ValueSays octets r bytes) same.1 says.says)

-- ---- keys

some_is : (key other : Key) → Some key ≡ Some other → key ≡ other
some_is key other e = cc

pub one_type : (text octets others : List ℕ) → KeySays text octets → KeySays text others → octets ≡ others
one_type text octets others (inl named) (inl again) =
    named.2 ∙ ap (λ (k : Key). k.octets) (some_is named.0 again.0 (sym named.1 ∙ again.1)) ∙ sym again.2
one_type text octets others (inl named) (inr is_dotted) = absurd (not_dotted text named.0 named.1 is_dotted.0 is_dotted.1 is_dotted.2)
one_type text octets others (inr is_dotted) (inl named) = absurd (not_dotted text named.0 named.1 is_dotted.0 is_dotted.1 is_dotted.2)
one_type text octets others (inr one) (inr other) =
    let arcs = dotted_injective one.0 other.0 (some_arcs one.0 one.1) (some_arcs other.0 other.1) (small_arcs one.0 one.1) (small_arcs other.0 other.1) (sym one.2 ∙ other.2) in
    one.3 ∙ ap content_of arcs ∙ sym other.3

-- what is neither a name nor UTF-8 names no type
pub no_type : (text octets : List ℕ) → key_named text ≡ None → ¬ (IsUtf8 text) → KeySays text octets → ⊥
no_type text octets none not_utf8 (inl named) = absurd (let found = named.1 in cc)
no_type text octets none not_utf8 (inr is_dotted) = not_utf8 (subst IsUtf8 (sym is_dotted.2) (dotted_is_utf8 is_dotted.0 is_dotted.1))

-- ---- values

hash_first : (text digits : List ℕ) → text ≡ 35 ∷ digits → begins_with_hash text ≡ true
hash_first text digits e = rw e refl

pub no_hash : (text digits : List ℕ) → begins_with_hash text ≡ false → text ≡ 35 ∷ digits → ⊥
no_hash text digits none e = absurd (let k = hash_first text digits e in cc)

no_content : (octets text : List ℕ) (kind : ErrorKind) → begins_with_hash text ≡ false → kind ≡ Failed → ((bytes : List ℕ) → Unescapes text bytes → ⊥) → ValueRefused octets text kind
no_content octets text kind plain failed none =
    inr (failed, (λ (much : ValueSaysTooMuch octets text). nothing much.0 much.1), (λ (value : Any) (reads : ValueReads octets text value). nothing (value_octets value) reads.0))
  where
    nothing : (bytes : List ℕ) → ValueSays octets text bytes → ⊥
    nothing bytes (inl in_hex) = no_hash text in_hex.0 plain in_hex.1
    nothing bytes (inr content) = none content.0 content.2

-- what resolving the escapes is refused with
pub content_refused : (octets text : List ℕ) (kind : ErrorKind) → begins_with_hash text ≡ false → (kind ≡ Memory) ⊎ ((kind ≡ Failed) × ((bytes : List ℕ) → Unescapes text bytes → ⊥)) → (kind ≡ Memory) ⊎ ValueRefused octets text kind
content_refused octets text kind plain (inl memory) = inl memory
content_refused octets text kind plain (inr none) = inr (no_content octets text kind plain none.0 none.1)

pub too_long : (octets text content : List ℕ) (kind : ErrorKind) → begins_with_hash text ≡ false → Unescapes text content → kind ≡ Overlength → limit < length (element (octet_of (tag_for octets)) content) → ValueRefused octets text kind
too_long octets text content kind plain says overlong more =
    inl (overlong, (element (octet_of (tag_for octets)) content, inr (content, plain, says, refl), more))

-- a content that stands for itself
module _ (octets text : List ℕ) (plain : begins_with_hash text ≡ false) (says : Unescapes text text) (tag : Tag) (is : tag ≡ tag_for octets) where
  pub itself_read : (result : Result Any Error) → (limit < length (element (octet_of tag) text) → IsErrAnd result (λ e. e.kind ≡ Overlength))
      → IfOk result (λ any. (any.tag ≡ tag) × (any.value ≡ text)) → IfOk result (λ value. ValueReads octets text value)
  itself_read (Err e) long ok = tt
  itself_read (Ok value) long ok =
      let spelled : value_octets value ≡ element (octet_of (tag_for octets)) text = ap (λ (t : Tag). element (octet_of t) value.value) (ok.0 ∙ is) ∙ ap (element (octet_of (tag_for octets))) ok.1 in
      let within : length (element (octet_of tag) text) ≤ limit = elim (cases_lt limit (length (element (octet_of tag) text))) [ inl more ↦ absurd (long more) | inr le ↦ le ] in
      (inr (text, plain, says, spelled), subst (λ (t : List ℕ). length t ≤ limit) (ap (λ (t : Tag). element (octet_of t) text) is ∙ sym spelled) within)

  pub itself_refused : (result : Result Any Error) → (limit < length (element (octet_of tag) text) → IsErrAnd result (λ e. e.kind ≡ Overlength))
      → (length (element (octet_of tag) text) ≤ limit → IfErr result (λ e. (e.kind ≡ Memory) × (24 < length text))) → IfErr result (λ e. (e.kind ≡ Memory) ⊎ ValueRefused octets text e.kind)
  itself_refused (Ok value) long err = tt
  itself_refused (Err e) long err =
      elim (cases_lt limit (length (element (octet_of tag) text))) [
        | inl more ↦ inr (too_long octets text text e.kind plain says (long more) (subst (λ (t : Tag). limit < length (element (octet_of t) text)) is more))
        | inr le ↦ inl (err le).0
      ]

-- ---- attributes

pub refused_cut : (text : List ℕ) (kind : ErrorKind) → (Contains text 61 → ⊥) → kind ≡ Failed → AttributeRefused text kind
refused_cut text kind none failed =
    inr (failed, (λ (much : SaysTooMuch text). no_cut text much.0 much.1 none much.2), (λ (octets : List ℕ) (value : Any) (reads : AttributeReads text octets value). no_cut text octets (value_octets value) none reads.0))

pub refused_key : (text key rest : List ℕ) (kind : ErrorKind) → IsCut text key rest → kind ≡ Failed → ((octets : List ℕ) → KeySays key octets → ⊥) → AttributeRefused text kind
refused_key text key rest kind cut failed none =
    inr (
      failed,
      (λ (much : SaysTooMuch text). none much.0 (said_parts text key rest much.0 much.1 cut much.2).0),
      (λ (octets : List ℕ) (value : Any) (reads : AttributeReads text octets value). none octets (said_parts text key rest octets (value_octets value) cut reads.0).0),
    )

refused_value : (text key rest octets : List ℕ) (kind : ErrorKind) → IsCut text key rest → KeySays key octets → ValueRefused octets rest kind → AttributeRefused text kind
refused_value text key rest octets kind cut names (inl long) =
    inl (long.0, (octets, long.1.0, record { key = key; rest = rest; cut = cut; names = names; says = long.1.1 }, long.1.2))
refused_value text key rest octets kind cut names (inr none) =
    inr (
      none.0,
      (λ (much : SaysTooMuch text). none.1 (much.1, of_type much.0 much.1 much.2, much.3)),
      (λ (others : List ℕ) (value : Any) (reads : AttributeReads text others value). none.2 value (of_type others (value_octets value) reads.0, reads.1)),
    )
  where
    of_type : (others bytes : List ℕ) → AttributeSays text others bytes → ValueSays octets rest bytes
    of_type others bytes says =
        let parts = said_parts text key rest others bytes cut says in
        subst (λ (o : List ℕ). ValueSays o rest bytes) (one_type key others octets parts.0 names) parts.1

-- what reading the value is refused with
pub value_refused : (text key rest octets : List ℕ) (kind : ErrorKind) → IsCut text key rest → KeySays key octets → (kind ≡ Memory) ⊎ ValueRefused octets rest kind → (kind ≡ Memory) ⊎ AttributeRefused text kind
value_refused text key rest octets kind cut names (inl memory) = inl memory
value_refused text key rest octets kind cut names (inr refused) = inr (refused_value text key rest octets kind cut names refused)
