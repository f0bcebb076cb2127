-- Fields that are read in parts: a name, a number, octets followed by others.
use Rattle.std.proofs.Common.{◌≡◌, ℕ, ◌≤◌, ◌<◌, ◌^◌, List, ◌∷◌, ◌++◌, length, refl, sym, ap, ◌∙◌, subst, arith}
use Rattle.std.proofs.Common.{append_assoc, length-append}
use Rattle.octseq.specs.Integer.{be, octets_be}
use Rattle.octseq.specs.Window.{Window, left, next, rest, past, at}
use Rattle.octseq.proofs.WindowsAfter.{front_comes_next}
use Rattle.octseq.proofs.Windows.{next_and_rest}
use Rattle.octseq.proofs.Written.{length_be, value_be}
use Rattle.octseq_dns_compress.specs.Fields.{AreFields}
use Rattle.octseq_dns_compress.specs.State.{Field}
use Rattle.octseq_dns_data.specs.Format.{IsNumber}
use Rattle.octseq_dns_name.specs.Name.{HasName, IsName}
use Rattle.octseq_dns_name.specs.NameFormat.{name_of_window}

-- what is left begins with the octets that come next
pub octets_first : (w : Window) (octets : List ℕ) → length octets ≤ left w → next (length octets) w ≡ octets
    → rest w ≡ octets ++ rest (past (length octets) w)
octets_first w octets room is =
    sym (next_and_rest w (length octets) room) ∙ ap (λ front. front ++ rest (past (length octets) w)) is

-- octets followed by others are two fields
pub octets_apart : (w v : Window) (octets more : List ℕ) (fields : List Field)
    → AreFields w (Field.octets (octets ++ more) ∷ fields) v
    → AreFields w (Field.octets octets ∷ Field.octets more ∷ fields) v
octets_apart w v octets more fields are =
    let after = rest (past (length (octets ++ more)) w) in
    let all = octets_first w (octets ++ more) are.0 are.1 ∙ append_assoc octets more after in
    let one = front_comes_next w octets (more ++ after) (length octets) all refl in
    let two = front_comes_next (past (length octets) w) more after (length more) one.2 refl in
    let both = length-append octets more in
    (one.0, one.1, (two.0, two.1, subst (λ p. AreFields (at p w) fields v) (omega (arith, both)) are.2))

-- a number
pub number_last : (k n : ℕ) (w v : Window) (fields : List Field) → n < 256 ^ k
    → AreFields w (Field.octets (octets_be k n) ∷ fields) v
    → IsNumber k w n (past k w) × AreFields (past k w) fields v
number_last k n w v fields fits are =
    let wide = length_be k n in
    let room = are.0 in
    let value : n ≡ be (next k w) =
    sym (ap be (ap (λ m. next m w) (sym wide) ∙ are.1) ∙ value_be k n fits) in
    ((omega (arith, room, wide), value, refl), subst (λ m. AreFields (past m w) fields v) wide are.2)

-- and a number followed by octets
pub number_first : (k n : ℕ) (more : List ℕ) (w v : Window) (fields : List Field) → n < 256 ^ k
    → AreFields w (Field.octets (octets_be k n ++ more) ∷ fields) v
    → IsNumber k w n (past k w) × AreFields (past k w) (Field.octets more ∷ fields) v
number_first k n more w v fields fits are =
    number_last k n w v (Field.octets more ∷ fields) fits (octets_apart w v (octets_be k n) more fields are)

-- the window past a name is this window at another position
pub name_first : (w v : Window) (labels : List (List ℕ)) (fields : List Field)
    → AreFields w (Field.name labels ∷ fields) v
    → (p : ℕ) × HasName w (record { place = w; labels = labels }) (at p w) × AreFields (at p w) fields v
name_first w v labels fields are =
    let u = are.0 in
    let of = name_of_window w u labels are.1 in
    let same : u ≡ at u.position w = λ i. record { octets = of.0 i; position = u.position; end = of.1 i } in
    (u.position, (refl, subst (IsName w labels) same are.1), subst (λ u. AreFields u fields v) same are.2)
