-- Names read again from their text, and texts read as one name at most or are refused by one error.
use Rattle.std.proofs.Common.{◌≡◌, ◌≢◌, ◌<◌, ◌⊎◌, ℕ, List, [], ◌∷◌, length, map, reverse, refl, sym, ap, ◌∙◌, arith, inl, inr, subst}
use Rattle.std.specs.List.{AllByRecursion, AllZip, join_with_byte}
use Rattle.std.specs.List.Sorted.{IsPermutation}
use Rattle.std.proofs.lemmas.List.{reverse-reverse}
use Rattle.std.proofs.lemmas.List.Sorted.{IsPermutation-refl, IsPermutation-sym, IsPermutation-trans}
use Rattle.x509_der.specs.declared.error.ErrorKind.{ErrorKind}
use Rattle.x509_der.specs.declared.error.ErrorKind.TheVariants.{SetDuplicate}
use Rattle.x509_der.specs.Set.{AreDistinct}
use Rattle.x509_der.proofs.OneSet.{one_set}
use Rattle.x509_der.proofs.RisingLists.{distinct_from_rising}
use Rattle.x509_name.specs.TypeAndValue.{types_and_values_lawful}
use Rattle.x509_name.specs.declared.attr.type_and_value.AttributeTypeAndValue.{AttributeTypeAndValue}
use Rattle.x509_name.specs.Attributes.{attribute_text, AttributeRefused, ReadsBack}
use Rattle.x509_name.specs.Parts.{Joined}
use Rattle.x509_name.specs.Refusals.{FirstRefused}
use Rattle.x509_name.proofs.Cuts.{one_cut}
use Rattle.x509_name.proofs.FirstRefusals.{one_of_each, zip_map, zip_apart, refused_once}
use Rattle.x509_name.proofs.WholeTexts.{Whole, Whole-join, join_whole}
use Rattle.x509_name.proofs.AttributeLaws.{attribute_again, one_attribute, reads_apart, one_refusal}
use Rattle.x509_name.proofs.Joins.{all_reverse, some_map, some_join}
use Rattle.x509_name.proofs.WholeAttributes.{whole_attribute_plus, whole_attribute_comma, some_attribute}
use Rattle.x509_name.specs.Text.{Reads}
use Rattle.x509_name.specs.NameText.{rdn_text, name_text, RdnReads, NameReads, RdnRefused, NameRefused, RdnReadsBack, NameReadsBack}

-- ---- lists

map_each : {X Y : Type 0} (P : X → Type 0) (Q : Y → Type 0) (f : X → Y) → ((x : X) → P x → Q (f x)) → (xs : List X) → AllByRecursion P xs → AllByRecursion Q (map f xs)
map_each P Q f step [] h = tt
map_each P Q f step (x ∷ xs) h = (step x h.0, map_each P Q f step xs h.1)

nothing_short : (text : List ℕ) → 0 < length text → text ≢ []
nothing_short [] some is = absurd (omega arith)
nothing_short (byte ∷ text) some is = absurd cc

-- ---- one relative distinguished name

abbrev text_of : AttributeTypeAndValue → List ℕ
text_of a = attribute_text a.oid a.value

abbrev BackOne : AttributeTypeAndValue → Type 0
BackOne a = ReadsBack a.oid a.value

one_again : (a : AttributeTypeAndValue) → BackOne a → Reads (text_of a) a
one_again a back = attribute_again a.oid a.value back

pub rdn_again : (rdn : List AttributeTypeAndValue) → RdnReadsBack rdn → RdnReads (rdn_text rdn) rdn
unfolding rdn_text
rdn_again rdn back = record {
  parts = map text_of rdn;
  attributes = rdn;
  cut = join_whole 43 (map text_of rdn) (some_map text_of rdn back.some) (map_each BackOne (Whole 43) text_of (λ a h. whole_attribute_plus a.oid a.value h) rdn back.each);
  read = zip_map Reads BackOne text_of one_again rdn back.each;
  members = IsPermutation-refl rdn;
  sorted = back.sorted;
}

rdn_whole : (rdn : List AttributeTypeAndValue) → RdnReadsBack rdn → Whole 44 (rdn_text rdn)
unfolding rdn_text
rdn_whole rdn back = Whole-join 44 43 (map text_of rdn) (λ e. omega arith) (λ e. omega arith) (map_each BackOne (Whole 44) text_of (λ a h. whole_attribute_comma a.oid a.value h) rdn back.each)

rdn_some : (rdn : List AttributeTypeAndValue) → RdnReadsBack rdn → 0 < length (rdn_text rdn)
unfolding rdn_text
rdn_some [] back = absurd (back.some refl)
rdn_some (a ∷ rdn) back = some_join 43 (text_of a) (map text_of rdn) (some_attribute a.oid a.value)

one_reads_one : (text : List ℕ) (a b : AttributeTypeAndValue) → Reads text a → Reads text b → a ≡ b
one_reads_one text a b p q = let same = one_attribute text a.oid b.oid a.value b.value p q in λ i. record { oid = same.0 i; value = same.1 i }

same_attributes : (text : List ℕ) (parts others : List (List ℕ)) (xs ys : List AttributeTypeAndValue) → Joined 43 parts text → Joined 43 others text → AllZip Reads parts xs → AllZip Reads others ys → xs ≡ ys
same_attributes text parts others xs ys p q read again =
    one_of_each Reads one_reads_one parts xs ys read (subst (λ t. AllZip Reads t ys) (one_cut 43 text others parts q p) again)

pub one_rdn : (text : List ℕ) (rdn other : List AttributeTypeAndValue) → RdnReads text rdn → RdnReads text other → rdn ≡ other
one_rdn text rdn other p q =
    let same = same_attributes text p.parts q.parts p.attributes q.attributes p.cut q.cut p.read q.read in
    one_set types_and_values_lawful.total types_and_values_lawful.exact rdn other p.sorted q.sorted
    (IsPermutation-trans rdn q.attributes other (subst (λ t. IsPermutation rdn t) same (IsPermutation-sym p.attributes rdn p.members)) q.members)

one_apart : (text : List ℕ) (a : AttributeTypeAndValue) (kind : ErrorKind) → Reads text a → AttributeRefused text kind → ⊥
one_apart text a kind p q = reads_apart text a.oid a.value kind p q

-- what reads has distinct attributes
read_distinct : (text : List ℕ) (rdn : List AttributeTypeAndValue) (p : RdnReads text rdn) → AreDistinct p.attributes
read_distinct text rdn p = distinct_from_rising types_and_values_lawful.total p.attributes rdn p.members p.sorted

pub rdn_apart : (text : List ℕ) (rdn : List AttributeTypeAndValue) (kind : ErrorKind) → RdnReads text rdn → RdnRefused text kind → ⊥
rdn_apart text rdn kind p q = go q.refused
  where
    go : FirstRefused Reads AttributeRefused q.parts kind ⊎ ((attributes : List AttributeTypeAndValue) × AllZip Reads q.parts attributes × (AreDistinct attributes → ⊥) × (kind ≡ SetDuplicate)) → ⊥
    go (inl first) = zip_apart Reads AttributeRefused one_apart p.parts p.attributes kind p.read (subst (λ t. FirstRefused Reads AttributeRefused t kind) (one_cut 43 text q.parts p.parts q.cut p.cut) first)
    go (inr (attributes, read, equal, is)) = equal (subst AreDistinct (same_attributes text p.parts q.parts p.attributes attributes p.cut q.cut p.read read) (read_distinct text rdn p))

pub rdn_once : (text : List ℕ) (kind other : ErrorKind) → RdnRefused text kind → RdnRefused text other → kind ≡ other
rdn_once text kind other p q = go p.refused q.refused
  where
    moved : FirstRefused Reads AttributeRefused q.parts other → FirstRefused Reads AttributeRefused p.parts other
    moved first = subst (λ t. FirstRefused Reads AttributeRefused t other) (one_cut 43 text q.parts p.parts q.cut p.cut) first

    moved_zip : (attributes : List AttributeTypeAndValue) → AllZip Reads q.parts attributes → AllZip Reads p.parts attributes
    moved_zip attributes read = subst (λ t. AllZip Reads t attributes) (one_cut 43 text q.parts p.parts q.cut p.cut) read

    go : FirstRefused Reads AttributeRefused p.parts kind ⊎ ((attributes : List AttributeTypeAndValue) × AllZip Reads p.parts attributes × (AreDistinct attributes → ⊥) × (kind ≡ SetDuplicate)) → FirstRefused Reads AttributeRefused q.parts other ⊎ ((attributes : List AttributeTypeAndValue) × AllZip Reads q.parts attributes × (AreDistinct attributes → ⊥) × (other ≡ SetDuplicate)) → kind ≡ other
    go (inl first) (inl second) = refused_once Reads AttributeRefused one_apart one_refusal p.parts kind other first (moved second)
    go (inl first) (inr (attributes, read, equal, is)) = absurd (zip_apart Reads AttributeRefused one_apart p.parts attributes kind (moved_zip attributes read) first)
    go (inr (attributes, read, equal, is)) (inl second) = absurd (zip_apart Reads AttributeRefused one_apart p.parts attributes other read (moved second))
    go (inr (attributes, read, equal, is)) (inr (others, again, twice, same)) = is ∙ sym same

-- ---- names

name_parts : (name : List (List AttributeTypeAndValue)) → NameReadsBack name → AllByRecursion RdnReadsBack (reverse name)
name_parts name back = all_reverse RdnReadsBack name back

reads_some : (text : List ℕ) (parts : List (List ℕ)) (name : List (List AttributeTypeAndValue)) → text ≢ [] → Joined 44 parts text → AllZip RdnReads parts (reverse name) → NameReads text name
reads_some [] parts name some cut read = absurd (some refl)
reads_some (byte ∷ text) parts name some cut read = (parts, cut, read)

turned_again : (name : List (List AttributeTypeAndValue)) (turned : List (List AttributeTypeAndValue)) → reverse name ≡ turned → AllByRecursion RdnReadsBack turned → NameReads (join_with_byte 44 (map rdn_text turned)) name
turned_again name [] is back = sym (reverse-reverse name) ∙ ap reverse is
turned_again name (rdn ∷ rdns) is back =
    let parts = map rdn_text (rdn ∷ rdns) in
    reads_some (join_with_byte 44 parts) parts name (nothing_short (join_with_byte 44 parts) (some_join 44 (rdn_text rdn) (map rdn_text rdns) (rdn_some rdn back.0)))
    (join_whole 44 parts (omega arith) (map_each RdnReadsBack (Whole 44) rdn_text rdn_whole (rdn ∷ rdns) back))
    (subst (λ t. AllZip RdnReads parts t) (sym is) (zip_map RdnReads RdnReadsBack rdn_text rdn_again (rdn ∷ rdns) back))

pub name_again : (name : List (List AttributeTypeAndValue)) → NameReadsBack name → NameReads (name_text name) name
unfolding name_text
name_again name back = turned_again name (reverse name) refl (name_parts name back)

turned_back : (name other : List (List AttributeTypeAndValue)) → reverse name ≡ reverse other → name ≡ other
turned_back name other same = sym (reverse-reverse name) ∙ ap reverse same ∙ reverse-reverse other

pub one_name : (text : List ℕ) (name other : List (List AttributeTypeAndValue)) → NameReads text name → NameReads text other → name ≡ other
one_name [] name other p q = p ∙ sym q
one_name (byte ∷ text) name other p q =
    turned_back name other (one_of_each RdnReads one_rdn p.0 (reverse name) (reverse other) p.2
    (subst (λ t. AllZip RdnReads t (reverse other)) (one_cut 44 (byte ∷ text) q.0 p.0 q.1 p.1) q.2))

pub name_apart : (text : List ℕ) (name : List (List AttributeTypeAndValue)) (kind : ErrorKind) → NameReads text name → NameRefused text kind → ⊥
name_apart [] name kind p q = q.some refl
name_apart (byte ∷ text) name kind p q =
    zip_apart RdnReads RdnRefused rdn_apart p.0 (reverse name) kind p.2
    (subst (λ t. FirstRefused RdnReads RdnRefused t kind) (one_cut 44 (byte ∷ text) q.parts p.0 q.cut p.1) q.refused)

pub name_once : (text : List ℕ) (kind other : ErrorKind) → NameRefused text kind → NameRefused text other → kind ≡ other
name_once text kind other p q =
    refused_once RdnReads RdnRefused rdn_apart rdn_once p.parts kind other p.refused
    (subst (λ t. FirstRefused RdnReads RdnRefused t other) (one_cut 44 text q.parts p.parts q.cut p.cut) q.refused)

-- ---- two that print alike

pub rdns_apart : (rdn other : List AttributeTypeAndValue) → RdnReadsBack rdn → RdnReadsBack other → rdn_text rdn ≡ rdn_text other → rdn ≡ other
rdns_apart rdn other back again same = one_rdn (rdn_text rdn) rdn other (rdn_again rdn back) (subst (λ text. RdnReads text other) (sym same) (rdn_again other again))

pub names_apart : (name other : List (List AttributeTypeAndValue)) → NameReadsBack name → NameReadsBack other → name_text name ≡ name_text other → name ≡ other
names_apart name other back again same = one_name (name_text name) name other (name_again name back) (subst (λ text. NameReads text other) (sym same) (name_again other again))
