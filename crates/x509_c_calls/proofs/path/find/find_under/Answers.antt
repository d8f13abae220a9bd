use Rattle.std.proofs.Common.{◌↔◌, ◌∙◌, ℕ, List, inl, inr, ap, refl, sym, subst}
use Rattle.std.specs.List.{Contains}
use Rattle.x509_c_calls.proofs.BadLinks.{accepts_but, opened_bad, opened_links}
use Rattle.x509_c_calls.proofs.FoundPlaces.{are_named}
use Rattle.x509_c_calls.proofs.path.find.find_under.Goals as goal
use Rattle.x509_c_calls.specs.PathFinding.{FindsPath, IsAsked, LeftPath, TellsPath, links_in, parts, unlisted}
use Rattle.x509_path_steps.specs.declared.trusted.Trusted.{Trusted}
use Rattle.x509_verify.specs.Found.{Wanted, octets}
use Rattle.x509_verify.specs.Given.{candidates_of, trusted_of}
use Rattle.x509_verify.specs.Named.{IsDecodable, IsNamed}

pub returns-in-Err : goal.returns-in-Err
unfolding FindsPath
returns-in-Err c = inr (c.in-Err.e, refl, refl, inr (inr (inr c.in-Err.ensures)))

pub returns : goal.returns
unfolding FindsPath
returns c =
    let search = c.args.search.now in
    let bytes = search.bytes.now in
    let it = c.in-Ok.sought in
    let is = c.in-Ok.ensures in
    let given : List Trusted = it.trusted.items in
    let wanted : Wanted = record {
      settings = c.args.settings.now;
      trusted = trusted_of c.in-Ok-new.anchors;
      candidates = candidates_of c.in-Ok-new-2.pool;
      max_depth = c.args.max_depth;
      leaf = it.leaf.now;
    } in
    let anchors : (one : Trusted) → Contains wanted.trusted one ↔ (Contains given one × IsNamed one) =
    subst (λ xs. (one : Trusted) → Contains wanted.trusted one ↔ (Contains xs one × IsNamed one)) c.as_slice.ensures.value c.in-Ok-new.ensures in
    let candidates : (b : List ℕ) → Contains wanted.candidates b ↔ (Contains (parts bytes search.candidates.now) b × IsDecodable b) =
    subst (λ xs. (b : List ℕ) → Contains wanted.candidates b ↔ (Contains xs b × IsDecodable b)) (ap octets c.as_slice-2.ensures.value ∙ is.candidates) c.in-Ok-new-2.ensures in
    let asked : IsAsked search given (unlisted it.bad.items) wanted = record {
      settings = c.requires.settings;
      anchors = is.anchors;
      each = is.each;
      trusted = λ one. ((λ among. ((anchors one).0 among).0), (λ among. (anchors one).1 (among, are_named (parts bytes search.anchors.now) given is.each one among)));
      within = is.within;
      candidates = candidates;
      is_within = is.is_within;
      leaf = is.leaf;
      is_certificate = is.is_certificate;
      links = opened_links bytes search.bad.now it.bad.items is.links;
      accepts_but = accepts_but (links_in bytes search.bad.now) it.bad.items (opened_bad bytes search.bad.now it.bad.items is.links);
      max_depth = sym c.requires.depth;
    } in
    let was : LeftPath = record { path = c.args.room.now; found = c.args.found.now } in
    let left : LeftPath = record { path = c.tell.new.room; found = c.tell.new.found } in
    inl (given, unlisted it.bad.items, wanted, asked, subst (λ xs. TellsPath given xs (unlisted it.bad.items) wanted was left c.tell.result) is.candidates c.tell.ensures)
