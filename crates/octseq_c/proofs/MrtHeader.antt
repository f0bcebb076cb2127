-- The header at the front of octets, and whether the whole record is there.
use Rattle.std.proofs.Common.{◌≡◌, ℕ, ◌+◌, ◌≤◌, ◌↔◌, List, length, take, drop, ap, sym, refl, ◌∙◌, arith}
use Rattle.std.proofs.Common.{length-append, take-append-drop}
use Rattle.std.proofs.lemmas.List.{length-take}
use Rattle.octseq.specs.Integer.{be}
use Rattle.octseq.specs.Window.{Window, next, past, whole}
use Rattle.octseq_bgp.specs.Parts.{IsNumber}
use Rattle.octseq_format.specs.Pair.{◌then◌}
use Rattle.octseq_mrt.specs.Header.{IsHeader}
use Rattle.octseq_mrt.specs.OneFrame.{whole_record, record_long}
use Rattle.octseq_mrt.specs.Records.{BeginsWithRecord, record_length}
use Rattle.octseq_mrt.specs.declared.header.CommonHeader.{CommonHeader}
use Rattle.octseq_stream.proofs.Headers.{range_in_front, range_of_front}
use Rattle.octseq_c.specs.MrtRows.{HasMrtHeader}
use Rattle.octseq_c.specs.declared.mrt.header.MrtHeader.{MrtHeader}
use Rattle.octseq_c.proofs.MrtRows.{header_left}

-- a header takes twelve octets
pub header_long : {octets : List ℕ} {row : MrtHeader} → HasMrtHeader octets row → 12 ≤ length octets
header_long {octets} has =
    let few = header_left (whole octets) has.header has.after has.is in
    omega (arith, few)

-- and so many are one
pub some_header : (octets : List ℕ) → 12 ≤ length octets
    → (h : CommonHeader) × IsHeader (whole octets) h (past 12 (whole octets))
some_header octets long =
    let w = whole octets in
    let a = past 4 w in
    let b = past 6 w in
    let c = past 8 w in
    let d = past 12 w in
    let h : CommonHeader =
    record { timestamp = be (next 4 w); type_code = be (next 2 a); subtype = be (next 2 b); length = be (next 4 c) } in
    let last : (IsNumber 2 then IsNumber 4) b (h.subtype, h.length) d =
    (c, (omega (arith, long), refl, refl), (omega (arith, long), refl, refl)) in
    (h, (a, (omega (arith, long), refl, refl), (b, (omega (arith, long), refl, refl), last)))

-- the length of a header is that of the octets
header_length : (octets : List ℕ) (h : CommonHeader) (v : Window) → IsHeader (whole octets) h v
    → h.length ≡ record_length octets
header_length octets h v is =
    let a = is.1.2 in
    let b = is.2.1.2 ∙ ap (past 2) a in
    let c = is.2.2.1.2 ∙ ap (past 2) b in
    is.2.2.2.1 ∙ ap (λ u. be (next 4 u)) c

-- the octets of a record at the front have its length
begins : (octets : List ℕ) → 12 + record_length octets ≤ length octets → BeginsWithRecord octets
begins octets room =
    let n = 12 + record_length octets in
    let size = length-take {A = ℕ} n octets in
    let same : record_length octets ≡ record_length (take n octets) =
    ap be (range_of_front octets n 8 12 (omega arith) (omega arith) room) in (
      take n octets,
      drop n octets,
      whole_record (take n octets) (omega (arith, size, same, room)),
      sym (take-append-drop n octets),
    )

fits : (octets : List ℕ) → BeginsWithRecord octets → 12 + record_length octets ≤ length octets
fits octets (a, more, is, same) =
    let long = record_long a is in
    let both = ap length same ∙ length-append a more in
    let inside : record_length octets ≡ record_length a =
    ap record_length same ∙ ap be (range_in_front a more 8 12 (omega arith) (omega (arith, long))) in
    omega (arith, long, both, inside)

pub begins_iff : {octets : List ℕ} {row : MrtHeader} → HasMrtHeader octets row
    → (row.len ≤ length octets) ↔ BeginsWithRecord octets
begins_iff {octets} {row} has =
    let size = header_length octets has.header has.after has.is in
    let all = has.len in
    (λ few. begins octets (omega (arith, few, size, all)), λ is. omega (arith, fits octets is, size, all))
