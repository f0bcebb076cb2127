-- Headers that are refused, and data of a line that isn't too long.
use Rattle.std.proofs.Common.{ℕ, Option, Some, None, List, [], ◌∷◌, length}
use Rattle.std.proofs.Common.{sym, ◌∙◌, refl, subst, inl, inr, arith}
use Rattle.octseq.specs.Limit.{ExceedsLimit, IsWithin}
use Rattle.octseq_dns_scan.specs.Word.{AreWords, TakesWord}
use Rattle.octseq_dns_scan.proofs.Taken.{word_once, words_once}
use Rattle.octseq_dns_text.specs.Scans.{IsWordFault}
use Rattle.octseq_dns_compose.specs.MessageText.{IsAnyText}
use Rattle.octseq_dns_compose.specs.TextLines.{BeginsWithLines, IsFaultyHeader, IsLongLine}
use Rattle.octseq_dns_compose.specs.TextLines.{IsNextLine, SplitsLines, TakesLine}
use Rattle.octseq_dns_compose.specs.TooLong.{IsMessageTooLong}
use Rattle.octseq_dns_compose.proofs.Faults.{no_text}
use Rattle.octseq_dns_compose.proofs.HeaderLines.{HeaderTexts}
use Rattle.octseq_dns_compose.proofs.LineFaults.{Line, led_broken, no_next, splits_same}
use Rattle.octseq_dns_compose.proofs.MessageFaults.{header_next, no_lines_at_all}

-- ---- at the header

-- a text whose header is refused begins with the lines of no message
no_front : (text : List ℕ) (offset : ℕ) (lines : List Line) (left : List ℕ) → IsFaultyHeader text offset
    → BeginsWithLines lines text left → ¬ IsAnyText lines
no_front text offset [] left fault begins = no_lines_at_all
no_front text offset (words ∷ lines) left fault (rest, takes, begins) =
    no_next IsAnyText [] lines words fault.line fault.after rest offset fault.split.is_line fault.split.ends
    (led_broken (IsNextLine IsAnyText []) HeaderTexts [] header_next fault.line fault.line fault.after 0 0 offset refl
    refl fault.fault) (subst (λ t. TakesLine words t rest) fault.split.whole takes)

-- a text whose header is refused isn't too long
pub no_long_header : (most : ℕ) (limit : Option ℕ) (text : List ℕ) (offset : ℕ) → IsFaultyHeader text offset
    → ¬ IsMessageTooLong most limit text
no_long_header most limit text offset fault (inl long) =
    let front = long.front in
    no_front text offset front.lines long.ahead fault front.begins (front.header, front.entries, front.say)
no_long_header most limit text offset fault (inr long) =
    let front = long.front in
    no_front text offset front.lines long.ahead fault front.begins (front.header, front.entries, front.say)

-- ---- the data of a line

pub not_past : (limit : Option ℕ) (n : ℕ) → IsWithin limit n → ¬ ExceedsLimit limit n
not_past (Some limit) n within past = omega (arith, within, past)
not_past None n within past = past

-- what a long line says after its first word
long_words : (first : List ℕ) (Is : Line → List ℕ → Type 0) (limit : Option ℕ) (text line after rest : List ℕ)
    → SplitsLines text line after → TakesWord first line rest → (long : IsLongLine first Is limit text)
    → AreWords long.words rest
long_words first Is limit text line after rest split taken long =
    let same =
    splits_same long.line line long.after after long.split.is_line split.is_line long.split.ends split.ends
    (sym long.split.whole ∙ split.whole) in
    let one =
    word_once first first line long.rest rest (subst (λ l. TakesWord first l long.rest) same.0 long.taken) taken in
    subst (AreWords long.words) one.1 long.are

-- words that aren't those of a record have no data
pub no_long_fault : (first : List ℕ) (Is : Line → List ℕ → Type 0) (limit : Option ℕ) (text line after rest : List ℕ)
    (start offset : ℕ) → SplitsLines text line after → TakesWord first line rest → IsWordFault Is rest start offset
    → ¬ IsLongLine first Is limit text
no_long_fault first Is limit text line after rest start offset split taken fault long =
    no_text Is rest start offset fault long.words long.octets
    (long_words first Is limit text line after rest split taken long) long.is

-- words that are those of a record have its data alone
pub no_long_read : (first : List ℕ) (Is : Line → List ℕ → Type 0) (limit : Option ℕ) (text line after rest : List ℕ)
    (words : Line) → SplitsLines text line after → TakesWord first line rest → AreWords words rest
    → ((octets : List ℕ) → Is words octets → IsWithin limit (length octets)) → ¬ IsLongLine first Is limit text
no_long_read first Is limit text line after rest words split taken are small long =
    let both = words_once long.words words rest (long_words first Is limit text line after rest split taken long) are in
    not_past limit (length long.octets) (small long.octets (subst (λ ws. Is ws long.octets) both long.is)) long.past
