-- Where the texts of a finding stand.
use Rattle.std.proofs.Common.{◌≡◌, ◌≤◌, ◌<◌, ◌+◌, ◌-◌, ◌++◌, ◌∷◌, [], ℕ, Bool, List, drop, take, get_or, length, bytes_eq, false, refl, sym, ap, subst, ◌∙◌, arith, append_assoc, length-append, length-drop, length-take-le, drop-drop, take-append-drop}
use Rattle.std.proofs.lemmas.Bool.{false≢true}
use Rattle.std.proofs.lemmas.List.Elements.{All-tail}
use Rattle.std.proofs.lemmas.Slice.Eq.{bytes_eq-Decides}
use Rattle.std.specs.Prelude.{codes}
use Rattle.x509_c_lint.specs.FindingLines.{AreUnquoted, IsFinding, IsText, IsUnquoted, Texts, StandsAt, finding_line, texts_of}
use Rattle.x509_c_lint.specs.declared.finding.FindingView.{FindingView}
use Rattle.x509_c_calls.specs.Place.{IsAt}
use Rattle.x509_c_calls.specs.declared.place.span.Span.{Span}
use Rattle.x509_lint.specs.Report.{json_line, place_members, what_members}
use Rattle.x509_lint.specs.Rules.{rule_wording}
use Rattle.x509_lint.specs.Wording.{Wording, severity_text}
use Rattle.x509_lint.specs.declared.rule.Rule.{Rule}

-- ---- fronts

-- a front that octets begin with is as many of their first octets
front-taken : (front more : List ℕ) → take (length front) (front ++ more) ≡ front
front-taken [] more = refl
front-taken (x ∷ front) more = ap (λ xs. x ∷ xs) (front-taken front more)

front-dropped : (front more : List ℕ) → drop (length front) (front ++ more) ≡ more
front-dropped [] more = refl
front-dropped (x ∷ front) more = front-dropped front more

pub front-differs : (octets front begin : List ℕ) (same : Bool) → begin ≡ take (length front) octets → same ≡ bytes_eq begin front → same ≡ false
    → (more : List ℕ) → octets ≡ front ++ more → ⊥
front-differs octets front begin same is tested off more e =
    let equal : begin ≡ front = is ∙ ap (take (length front)) e ∙ front-taken front more in
    false≢true (sym off ∙ tested ∙ (bytes_eq-Decides begin front).1 equal)

-- ---- texts

head-unquoted : (x : ℕ) (xs : List ℕ) → IsUnquoted (x ∷ xs) → x ≡ 34 → ⊥
head-unquoted x xs all = all 0 0 (omega arith)

tail-unquoted : (x : ℕ) (xs : List ℕ) → IsUnquoted (x ∷ xs) → IsUnquoted xs
tail-unquoted x xs all = All-tail (λ octet. octet ≡ 34 → ⊥) x xs all

-- where a quotation mark stands, octets have one
no-end : (text more : List ℕ) → IsUnquoted (text ++ 34 ∷ more) → ⊥
no-end [] more all = head-unquoted 34 more all refl
no-end (t ∷ text) more all = no-end text more (tail-unquoted t (text ++ 34 ∷ more) all)

-- a text ends at the first quotation mark
same-text : (x x' text more : List ℕ) → IsUnquoted x → IsUnquoted text → x ++ 34 ∷ x' ≡ text ++ 34 ∷ more → (x ≡ text) × (x' ≡ more)
same-text [] x' [] more a b e = (refl, ap (drop 1) e)
same-text [] x' (t ∷ text) more a b e = absurd (head-unquoted t text b (sym (ap (λ l. get_or l 0 0) e)))
same-text (x ∷ xs) x' [] more a b e = absurd (head-unquoted x xs a (ap (λ l. get_or l 0 0) e))
same-text (x ∷ xs) x' (t ∷ text) more a b e =
    let rest = same-text xs x' text more (tail-unquoted x xs a) (tail-unquoted t text b) (ap (drop 1) e) in
    let first : x ≡ t = ap (λ l. get_or l 0 0) e in
    (λ k. first k ∷ rest.0 k, rest.1)

-- no text ends where no quotation mark stands behind the front
pub unended : (lines front rest text more : List ℕ) (at : ℕ) → drop at lines ≡ front ++ rest → IsUnquoted rest
    → drop at lines ≡ front ++ (text ++ 34 ∷ more) → ⊥
unended lines front rest text more at is unquoted e =
    let same : rest ≡ text ++ 34 ∷ more = sym (front-dropped front rest) ∙ ap (drop (length front)) (sym is ∙ e) ∙ front-dropped front (text ++ 34 ∷ more) in
    no-end text more (subst IsUnquoted same unquoted)

-- the text in front of the first quotation mark stands behind the front
pub text-stands : (lines front rest : List ℕ) (at len : ℕ) → at ≤ length lines → drop at lines ≡ front ++ rest → IsUnquoted (take len rest)
    → drop len rest ≡ 34 ∷ drop (len + 1) rest
    → IsText lines at front (take len rest) (drop (len + 1) rest) (record { place = length lines - length rest; len = len })
text-stands lines front rest at len within e unquoted ends =
    let whole : length lines - at ≡ length front + length rest = sym (length-drop at lines) ∙ ap length e ∙ length-append front rest in
    let inside : length rest - len ≡ length (34 ∷ drop (len + 1) rest) = sym (length-drop len rest) ∙ ap length ends in
    let cut : take len rest ++ 34 ∷ drop (len + 1) rest ≡ rest = ap (λ behind. take len rest ++ behind) (sym ends) ∙ take-append-drop len rest in
    let place : length lines - length rest ≡ at + length front = omega (arith, whole, within) in
    let there : drop (length lines - length rest) lines ≡ rest =
    ap (λ n. drop n lines) place ∙ sym (drop-drop (length front) at lines) ∙ ap (drop (length front)) e ∙ front-dropped front rest in
    let short : len ≤ length rest = omega (arith, inside) in
    let less : len < length rest = omega (arith, inside) in
    record {
      unquoted = unquoted;
      stands = e ∙ ap (λ r. front ++ r) (sym cut);
      is = (there ∙ sym cut, sym (length-take-le len rest short), omega (arith, whole, within));
      within = omega (arith, whole, within, less);
    }

-- behind a text stands the quotation mark that ends it
pub behind-text : (lines front x x' : List ℕ) (at : ℕ) (span : Span) → IsText lines at front x x' span → drop (span.place + span.len) lines ≡ 34 ∷ x'
behind-text lines front x x' at span found =
    sym (drop-drop span.len span.place lines) ∙ ap (drop span.len) found.is.0 ∙ ap (λ n. drop n (x ++ 34 ∷ x')) found.is.1 ∙ front-dropped x (34 ∷ x')

-- the same where the text is known to be another
pub onward : (lines front x x' : List ℕ) (at : ℕ) (span : Span) → IsText lines at front x x' span → (text more : List ℕ) → IsUnquoted text
    → drop at lines ≡ front ++ (text ++ 34 ∷ more)
    → drop (span.place + span.len) lines ≡ 34 ∷ more
onward lines front x x' at span found text more unquoted e =
    let same : x ++ 34 ∷ x' ≡ text ++ 34 ∷ more =
    sym (front-dropped front (x ++ 34 ∷ x')) ∙ ap (drop (length front)) (sym found.stands ∙ e) ∙ front-dropped front (text ++ 34 ∷ more) in
    behind-text lines front x x' at span found ∙ ap (λ l. 34 ∷ l) (same-text x x' text more found.unquoted unquoted same).1

-- what stands behind a text is known from its end on
pub stands-on : (lines front x x' behind : List ℕ) (at : ℕ) (span : Span) → IsText lines at front x x' span → drop (span.place + span.len) lines ≡ behind
    → IsAt x behind lines span × (drop at lines ≡ front ++ (x ++ behind))
stands-on lines front x x' behind at span found e =
    let rest : 34 ∷ x' ≡ behind = sym (behind-text lines front x x' at span found) ∙ e in
    ((found.is.0 ∙ ap (λ l. x ++ l) rest, found.is.1, found.is.2), found.stands ∙ ap (λ l. front ++ (x ++ l)) rest)

-- ---- the end of the lines

-- the place behind what is left
pub end-of : (lines more front : List ℕ) (at : ℕ) → at ≤ length lines → drop at lines ≡ front ++ more → drop (length lines - length more) lines ≡ more
end-of lines more front at within e =
    let whole : length lines - at ≡ length front + length more = sym (length-drop at lines) ∙ ap length e ∙ length-append front more in
    let place : length lines - length more ≡ at + length front = omega (arith, whole, within) in
    ap (λ n. drop n lines) place ∙ sym (drop-drop (length front) at lines) ∙ ap (drop (length front)) e ∙ front-dropped front more

pub rest-fits : (lines more front : List ℕ) (at : ℕ) → drop at lines ≡ front ++ more → length more ≤ length lines
rest-fits lines more front at e =
    let whole : length lines - at ≡ length front + length more = sym (length-drop at lines) ∙ ap length e ∙ length-append front more in
    omega (arith, whole)

-- ---- the linter's lines

-- the texts of a line are known from it
same-line : (t u : Texts) (more others : List ℕ) → AreUnquoted t → AreUnquoted u → finding_line t more ≡ finding_line u others → (t ≡ u) × (more ≡ others)
same-line t u more others a b e =
    let object = same-text t.object _ u.object _ a.0 b.0 (ap (drop 12) e) in
    let rule = same-text t.rule _ u.rule _ a.1 b.1 (ap (drop 11) object.1) in
    let severity = same-text t.severity _ u.severity _ a.2 b.2 (ap (drop 15) rule.1) in
    let section = same-text t.section _ u.section _ a.3 b.3 (ap (drop 14) severity.1) in
    let place = same-text t.place _ u.place _ a.4 b.4 (ap (drop 12) section.1) in
    let seen = same-text t.seen _ u.seen _ a.5 b.5 (ap (drop 11) place.1) in
    let texts : t ≡ u =
    λ k. record { object = object.0 k; rule = rule.0 k; severity = severity.0 k; section = section.0 k; place = place.0 k; seen = seen.0 k } in
    (texts, ap (drop 2) seen.1)

-- a text and what stands behind it, in front of more
onto : (w x behind others : List ℕ) → x ++ behind ≡ others → (w ++ x) ++ behind ≡ w ++ others
onto w x behind others e = append_assoc w x behind ∙ ap (λ l. w ++ l) e

behind-what : (word z : List ℕ) (w : Wording) → what_members word w ++ z
    ≡ codes "\"object\": \"" ++ (word ++ (codes "\", \"rule\": \"" ++ (w.name
    ++ (codes "\", \"severity\": \"" ++ (severity_text w.severity ++ (codes "\"" ++ z))))))
behind-what word z w =
    let severity = onto (severity_text w.severity) (codes "\"") z (codes "\"" ++ z) refl in
    let name = onto w.name _ z _ (ap (λ l. codes "\", \"severity\": \"" ++ l) severity) in
    ap (λ l. codes "\"object\": \"" ++ l) (onto word _ z _ (ap (λ l. codes "\", \"rule\": \"" ++ l) name))

behind-place : (seen z : List ℕ) (w : Wording) → place_members w seen ++ z
    ≡ codes "\"section\": \"" ++ ((w.standard ++ (codes " " ++ w.section)) ++ (codes "\", \"place\": \"" ++ (w.place
    ++ (codes "\", \"seen\": \"" ++ (seen ++ (codes "\"" ++ z))))))
behind-place seen z w =
    let told = onto seen (codes "\"") z (codes "\"" ++ z) refl in
    let place = onto w.place _ z _ (ap (λ l. codes "\", \"seen\": \"" ++ l) told) in
    let section = onto w.section _ z _ (ap (λ l. codes "\", \"place\": \"" ++ l) place) in
    let standard = onto w.standard _ z _ (ap (λ l. codes " " ++ l) section) in
    ap (λ l. codes "\"section\": \"" ++ l)
    (standard ∙ sym (append_assoc w.standard (codes " " ++ w.section) (codes "\", \"place\": \"" ++ (w.place
    ++ (codes "\", \"seen\": \"" ++ (seen ++ (codes "\"" ++ z)))))))

-- the line that the linter tells is that of these texts
told-line : (word seen more : List ℕ) (rule : Rule) → json_line (codes "{") word (rule_wording rule) seen ++ more ≡ finding_line (texts_of word (rule_wording rule) seen) more
told-line word seen more rule =
    let w = rule_wording rule in
    let rest = codes ", " ++ (place_members w seen ++ codes "}\n") in
    let last : rest ++ more ≡ codes ", " ++ (place_members w seen ++ (codes "}\n" ++ more)) =
    ap (λ l. codes ", " ++ l) (append_assoc (place_members w seen) (codes "}\n") more) in
    let all : (what_members word w ++ rest) ++ more ≡ what_members word w ++ (codes ", " ++ (place_members w seen ++ (codes "}\n" ++ more))) =
    append_assoc (what_members word w) rest more ∙ ap (λ l. what_members word w ++ l) last in
    ap (λ l. codes "{" ++ l)
    (all ∙ ap (λ l. what_members word w ++ (codes ", " ++ l)) (behind-place seen (codes "}\n" ++ more) w) ∙ behind-what word _ w)

pub told-found : (lines : List ℕ) (was is : ℕ) (t : Texts) (more : List ℕ) (view : FindingView) → IsFinding lines was is t more view
    → (word seen others : List ℕ) (rule : Rule) → AreUnquoted (texts_of word (rule_wording rule) seen)
    → drop was lines ≡ json_line (codes "{") word (rule_wording rule) seen ++ others
    → IsFinding lines was is (texts_of word (rule_wording rule) seen) others view
told-found lines was is t more view found word seen others rule unquoted e =
    let told = texts_of word (rule_wording rule) seen in
    let same = same-line t told more others found.stands.0 unquoted (sym found.stands.1 ∙ e ∙ told-line word seen others rule) in
    subst (λ rest. IsFinding lines was is told rest view) same.1 (subst (λ texts. IsFinding lines was is texts more view) same.0 found)

pub told-stands : (lines : List ℕ) (at : ℕ) → ((t : Texts) (more : List ℕ) → StandsAt lines at t more → ⊥)
    → (word seen others : List ℕ) (rule : Rule) → AreUnquoted (texts_of word (rule_wording rule) seen)
    → drop at lines ≡ json_line (codes "{") word (rule_wording rule) seen ++ others → ⊥
told-stands lines at none word seen others rule unquoted e =
    none (texts_of word (rule_wording rule) seen) others (unquoted, e ∙ told-line word seen others rule)
