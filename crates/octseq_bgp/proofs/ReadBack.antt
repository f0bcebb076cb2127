-- What was written is read back.
use Rattle.std.proofs.Common.{◌≡◌, ℕ, ◌+◌, ◌^◌, ◌<◌, ◌≤◌, inl, inr, Bool, true, false, List, [], ◌∷◌, ◌++◌, length, map}
use Rattle.std.proofs.Common.{refl, sym, ap, ◌∙◌, subst, arith, zero-add}
use Rattle.std.specs.List.{AllByRecursion}
use Rattle.octseq.specs.Integer.{octets_be}
use Rattle.octseq.specs.Part.{part_of}
use Rattle.octseq.specs.Window.{Window, whole}
use Rattle.octseq.proofs.WindowsAfter.{rest_after}
use Rattle.octseq_format.specs.Counted.{counted_octets, CountFits, delimited_counted}
use Rattle.octseq_format.specs.Fixed.{delimited_fixed}
use Rattle.octseq_format.specs.Integers.{are_be}
use Rattle.octseq_format.specs.Laws.{Relation, IsReadBack, IsDelimited}
use Rattle.octseq_format.specs.Pair.{both_say, both_octets, same_pair, ◌back_then◌, ◌then◌, ◌also◌, ◌and◌, ◌before◌}
use Rattle.octseq_format.specs.Rest.{IsRest}
use Rattle.octseq_bgp.specs.Composed.{header_octets, long_after, message_octets}
use Rattle.octseq_bgp.specs.Fills.{Whole}
use Rattle.octseq_bgp.specs.Message.{IsBody, IsHeader, IsMessage, IsShortEnough, Message}
use Rattle.octseq_bgp.specs.MessageType as message_type
use Rattle.octseq_bgp.specs.Parts.{IsCounted, IsNumber}
use Rattle.octseq_bgp.specs.Prefix.{AreNlri, Nlri, most_bits, path_nlri, plain_nlri}
use Rattle.octseq_bgp.specs.ReadWritten.{attribute_says, delimited_attribute, delimited_path, delimited_plain}
use Rattle.octseq_bgp.specs.ReadWritten.{nlri_says, path_says, plain_says, update_says}
use Rattle.octseq_bgp.specs.Session.{adds_path}
use Rattle.octseq_bgp.specs.Update.{IsUpdateParts, Update}
use Rattle.octseq_bgp.specs.Written.{PrefixFits, UpdateFits, WrittenPrefix, WrittenUpdate}
use Rattle.octseq_bgp.specs.Written.{attributes_octets, body_octets, longest}
use Rattle.octseq_bgp.specs.Written.{prefixes_octets, update_body, update_octets}
use Rattle.octseq_bgp.proofs.Updates.{longest_most, update_long}
use Rattle.std.specs.Prelude.{if◌then◌else◌}
use Rattle.octseq_bgp.specs.declared.family.Afi.{Afi}
use Rattle.octseq_bgp.specs.declared.family.Afi.TheVariants as addresses
use Rattle.octseq_bgp.specs.declared.family.AfiSafiType.TheVariants as family
use Rattle.octseq_bgp.specs.declared.session.SessionConfig.{SessionConfig}
use Rattle.octseq_bgp.proofs.Composing.{header_parts}
use Rattle.octseq_bgp.proofs.WholesBack.{HasAll, IsExtent, counted_is, extent, extent_back, extent_of, extent_octets}
use Rattle.octseq_bgp.proofs.WholesBack.{fills_back}
use Rattle.octseq_bgp.proofs.WholesBack.{has_extent, whole_back}

-- ---- prefixes

-- what prefixes of a family say
says_plain : (afi : Afi) (row : List (ℕ × Window)) → map nlri_says (map (plain_nlri afi) row) ≡ map plain_says row
says_plain afi [] = refl
says_plain afi (one ∷ row) = ap (λ rest. plain_says one ∷ rest) (says_plain afi row)

says_path : (afi : Afi) (row : List (ℕ × (ℕ × Window))) → map nlri_says (map (path_nlri afi) row) ≡ map path_says row
says_path afi [] = refl
says_path afi (one ∷ row) = ap (λ rest. path_says one ∷ rest) (says_path afi row)

few_bits : (afi : Afi) → most_bits afi < 256
few_bits addresses.Ipv4 = omega arith
few_bits addresses.Ipv6 = omega arith

pub nlri_back : (paths : Bool) (afi : Afi) (w : Window) (said : List WrittenPrefix)
    → AllByRecursion (PrefixFits (most_bits afi) paths) said → HasAll w (prefixes_octets said)
    → (row : List Nlri) × AreNlri paths afi w row × (map nlri_says row ≡ said)
nlri_back true afi w said fits all =
    let row = fills_back (delimited_path (most_bits afi) (few_bits afi)) w said fits all in
    (map (path_nlri afi) row.0, (row.0, row.2, refl), says_path afi row.0 ∙ row.1)
nlri_back false afi w said fits all =
    let row = fills_back (delimited_plain (most_bits afi) (few_bits afi)) w said fits all in
    (map (plain_nlri afi) row.0, (row.0, row.2, refl), says_plain afi row.0 ∙ row.1)

-- ---- a header

abbrev Header : Relation (ℕ × (ℕ × (ℕ × Window)))
Header = IsNumber 16 then IsNumber 2 then IsNumber 1 then IsRest

abbrev SaidHeader : Type 0
SaidHeader = ℕ × (ℕ × (ℕ × (ℕ × (ℕ × List ℕ))))

abbrev header_written : SaidHeader → List ℕ
header_written = octets_be 16 before octets_be 2 before octets_be 1 before extent_octets

abbrev FitsHeader : SaidHeader → Type 0
FitsHeader = (λ n. n < 256 ^ 16) also (λ n. n < 256 ^ 2) also (λ n. n < 256 ^ 1) also IsExtent

header_back : IsReadBack Header ((λ n. n) and (λ n. n) and (λ n. n) and extent) header_written FitsHeader
header_back = delimited_fixed (are_be 16) back_then delimited_fixed (are_be 2) back_then delimited_fixed (are_be 1)
    back_then extent_back

written_as : (length kind : ℕ) (body : List ℕ)
    → header_written (message_type.marker, (length, (kind, extent_of body))) ≡ header_octets length kind ++ body
unfolding both_octets octets_be
written_as length kind body = sym (header_parts length kind body)

-- the body of a message, where its header is read
header_read : (kind : ℕ) (body : List ℕ) → kind < 256 → 19 + length body ≤ 65535
    → (b : Window) × IsHeader (whole (message_octets kind body)) (19 + length body, (kind, b)) × HasAll b body
unfolding both_say
header_read kind body small few =
    let octets = message_octets kind body in
    let n = 19 + length body in
    let said : SaidHeader = (message_type.marker, (n, (kind, extent_of body))) in
    let same = written_as n kind body in
    let fits : FitsHeader said = record {
      first = omega arith;
      second = record {
        first = omega (arith, few);
        second = record { first = omega (arith, small); second = (refl, refl) };
      };
    } in
    let all : HasAll (whole octets) (header_written said) =
    subst (HasAll (whole octets)) (sym same)
    (record { are = rest_after [] octets; end = sym (zero-add (length octets)) }) in
    let taken = whole_back header_back (whole octets) said fits all in
    let b = taken.0.1.1.1 in
    let tells = taken.1 in
    let named = same_pair (ap (λ p. p.0) tells) (same_pair (ap (λ p. p.1.0) tells)
    (same_pair (ap (λ p. p.1.1.0) tells) refl)) in
    (b, subst (Whole Header (whole octets)) named taken.2, has_extent b body (ap (λ p. p.1.1.1) tells))

-- ---- octets after their length

pub counted_extent : (k : ℕ)
    → IsDelimited (IsCounted k) extent (counted_octets k 0 extent_octets) (CountFits k 0 extent_octets IsExtent)
counted_extent k = delimited_counted extent_back

pub counted_fits : (k : ℕ) (o : List ℕ) → length o < 256 ^ k → CountFits k 0 extent_octets IsExtent (extent_of o)
counted_fits k o few = record {
  tag_fits = subst (λ n. n < 256 ^ k) (sym (zero-add (length o))) few;
  inside = record { inside = (refl, refl); many = refl };
}

pub counted_part : (k : ℕ) (o : List ℕ) → counted_octets k 0 extent_octets (extent_of o) ≡ part_of k o
counted_part k o = counted_is k extent_octets (extent_of o)

-- ---- the parts of an UPDATE

parts_back : IsReadBack IsUpdateParts (extent and extent and extent)
    (counted_octets 2 0 extent_octets before counted_octets 2 0 extent_octets before extent_octets)
    (CountFits 2 0 extent_octets IsExtent also CountFits 2 0 extent_octets IsExtent also IsExtent)
parts_back = counted_extent 2 back_then counted_extent 2 back_then extent_back

-- the parts of a window that has a body left
parts_read : (w a n : List ℕ) (b : Window) → HasAll b (body_octets w a n) → length w < 65536 → length a < 65536
    → (parts : Window × (Window × Window)) × Whole IsUpdateParts b parts × HasAll parts.0 w × HasAll parts.1.0 a
    × HasAll parts.1.1 n
unfolding both_say both_octets
parts_read w a n b all few less =
    let first = counted_part 2 w in
    let second = counted_part 2 a in
    let same = ap (λ x. x ++ (counted_octets 2 0 extent_octets (extent_of a) ++ n)) first
    ∙ ap (λ y. part_of 2 w ++ (y ++ n)) second in
    let taken = whole_back parts_back b (extent_of w, (extent_of a, extent_of n))
    (record { first = counted_fits 2 w few; second = record { first = counted_fits 2 a less; second = (refl, refl) } })
    (subst (HasAll b) (sym same) all) in
    let tells = taken.1 in (
      taken.0,
      taken.2,
      has_extent taken.0.0 w (ap (λ t. t.0) tells),
      has_extent taken.0.1.0 a (ap (λ t. t.1.0) tells),
      has_extent taken.0.1.1 n (ap (λ t. t.1.1) tells),
    )

-- ---- a message

-- a value that is read of a body makes a message
pub message_read : {V : Type 0} {s : SessionConfig} {Says : V → Type 0} (make : V → Message) (kind : ℕ) (body : List ℕ)
    → kind < 256 → 19 + length body ≤ 65535 → IsShortEnough s kind (19 + length body)
    → ((b : Window) → HasAll b body → (it : V) × IsBody s b kind (make it) × Says it)
    → (it : V) × IsMessage s (message_octets kind body) (make it) × Says it
message_read {s = s} make kind body small few short reads =
    let header = header_read kind body small few in
    let read = reads header.0 header.2 in
    let count = sym (long_after (19 + length body) kind body) in (
      read.0,
      record {
        kind = kind;
        body = header.0;
        header = subst (λ n. IsHeader (whole (message_octets kind body)) (n, (kind, header.0))) count header.1;
        short = subst (IsShortEnough s kind) count short;
        is = read.1;
      },
      read.2,
    )

-- ---- an UPDATE

short_enough : (s : SessionConfig) (n : ℕ) → n ≤ longest s → IsShortEnough s message_type.update n
short_enough s n fits = by_flag s.extended_message refl fits where
  by_flag : (extended : Bool) → s.extended_message ≡ extended → n ≤ (if extended then 65535 else 4096)
      → IsShortEnough s message_type.update n
  by_flag true is fits = inr (is, λ same. omega (arith, same), λ same. omega (arith, same))
  by_flag false is fits = inl fits

pub update_read_back : (s : SessionConfig) (u : WrittenUpdate) → UpdateFits s u
    → (read : Update) × IsMessage s (update_octets u) (Message.update read) × (update_says read ≡ u)
update_read_back s u fits =
    let short = fits.short in
    let most = longest_most s in
    let all = update_long u in
    let body = update_body u in
    let count = long_after (19 + length body) message_type.update body in
    let few : 19 + length body ≤ longest s = omega (arith, short, count) in
    message_read Message.update message_type.update body (omega arith) (omega (arith, most, few))
    (short_enough s (19 + length body) few) (λ b same.
    let parts = parts_read (prefixes_octets u.withdrawn) (attributes_octets u.attributes)
    (prefixes_octets u.announced) b
    same (omega (arith, short, most, all)) (omega (arith, short, most, all)) in
    let paths = adds_path s.add_path family.Ipv4Unicast in
    let withdrawn = nlri_back paths addresses.Ipv4 parts.0.0 u.withdrawn fits.withdrawn parts.2 in
    let attributes = fills_back delimited_attribute parts.0.1.0 u.attributes fits.attributes parts.3 in
    let announced = nlri_back paths addresses.Ipv4 parts.0.1.1 u.announced fits.announced parts.4 in (
      record { session = s; withdrawn = withdrawn.0; attributes = attributes.0; announced = announced.0 },
      (
        refl,
        record {
          parts = parts.0;
          are = parts.1;
          of_session = refl;
          withdrawn = withdrawn.1;
          attributes = attributes.2;
          announced = announced.1;
        },
      ),
      ap (λ w. record {
        withdrawn = w;
        attributes = map attribute_says attributes.0;
        announced = map nlri_says announced.0;
      }) withdrawn.2
          ∙ ap (λ a. record { withdrawn = u.withdrawn; attributes = a; announced = map nlri_says announced.0 })
          attributes.1
          ∙ ap (λ n. record { withdrawn = u.withdrawn; attributes = u.attributes; announced = n }) announced.2,
    ))
