-- The header of a record says how many octets the record has.
use Rattle.std.proofs.Common.{◌≡◌, ◌+◌, ◌≤◌, ◌∙◌, ℕ, List, length, take, refl, ap, arith}
use Rattle.octseq.specs.Integer.{be}
use Rattle.octseq.specs.Window.{Window, left, next, past, nested, whole}
use Rattle.octseq_format.specs.Pair.{◌then◌}
use Rattle.octseq_bgp.specs.Parts.{IsNumber}
use Rattle.octseq_mrt.specs.Header.{IsHeader}
use Rattle.octseq_mrt.specs.Records.{record_length, IsRecordOctets}
use Rattle.octseq_mrt.specs.declared.header.CommonHeader.{CommonHeader}
use Rattle.octseq_stream.proofs.Headers.{range_of_front}

-- ---- lemmas: proved below this line, so what the words mean is read above it

-- a header and as many octets as it says
pub whole_record : (octets : List ℕ) → length octets ≡ 12 + record_length octets → IsRecordOctets octets
whole_record octets all =
    let w = whole octets in
    let a = past 4 w in
    let b = past 6 w in
    let c = past 8 w in
    let d = past 12 w in
    let n = record_length octets in
    let h : CommonHeader =
    record { timestamp = be (next 4 w); type_code = be (next 2 a); subtype = be (next 2 b); length = n } in
    let last : (IsNumber 2 then IsNumber 4) b (h.subtype, n) d =
    (c, (omega (arith, all), refl, refl), (omega (arith, all), refl, refl)) in
    let header : IsHeader w h d =
    (a, (omega (arith, all), refl, refl), (b, (omega (arith, all), refl, refl), last)) in
    ((h, nested n d), (past n d, (d, header, (omega (arith, all), refl, refl)), omega (arith, all)))

-- and no others
pub record_long : (octets : List ℕ) → IsRecordOctets octets → length octets ≡ 12 + record_length octets
record_long octets is =
    let header = is.1.1.1 in
    let a = header.1.2 in
    let b = header.2.1.2 ∙ ap (past 2) a in
    let c = header.2.2.1.2 ∙ ap (past 2) b in
    let d = header.2.2.2.2 ∙ ap (past 4) c in
    let long = header.2.2.2.1 ∙ ap (λ u. be (next 4 u)) c in
    let room = header.2.2.2.0 in
    let here = ap left c in
    let there = ap left d in
    let fits = is.1.1.2.0 in
    let end = ap left is.1.1.2.2 in
    let position = ap (λ (u : Window). u.position) d in
    let limit = ap (λ (u : Window). u.end) d in
    let none = is.1.2 in
    omega (arith, long, room, here, there, fits, end, position, limit, none)

pub record_whole : (octets : List ℕ) → IsRecordOctets octets
    → (12 ≤ length octets) × (length octets ≡ 12 + record_length (take 12 octets))
record_whole octets is =
    let all = record_long octets is in
    let same : record_length octets ≡ record_length (take 12 octets) =
    ap be (range_of_front octets 12 8 12 (omega arith) (omega arith) (omega (arith, all))) in
    (omega (arith, all), omega (arith, all, same))
