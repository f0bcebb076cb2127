-- The lines of a text, and how their faults are put together.
use Rattle.std.proofs.Common.{◌≡◌, ◌⊎◌, ℕ, ◌+◌, List, [], ◌∷◌, ◌++◌, length, refl, sym, ap, ◌∙◌, subst, inl, inr}
use Rattle.std.proofs.Common.{None, arith}
use Rattle.std.proofs.Common.{append_assoc}
use Rattle.std.proofs.lemmas.List.{length-append, append-nil}
use Rattle.octseq_dns_scan.specs.Word.{AreWords, TakesWord}
use Rattle.octseq_dns_scan.proofs.Taken.{words_once}
use Rattle.octseq_dns_text.proofs.ReadTexts.{words_more}
use Rattle.octseq_dns_text.specs.Scans.{BeginsWithWords, IsWordFault}
use Rattle.octseq_dns_compose.specs.TextLines.{IsLine, EndsLine, TakesLine, AreLines, BeginsWithLines, SplitsLines}
use Rattle.octseq_dns_compose.specs.TextLines.{IsNextLine}
use Rattle.octseq_dns_compose.specs.RecordText.{BeginsWithList}
use Rattle.octseq_dns_compose.specs.TextLines.{IsUnended, IsLineFault, IsFaultyLine, IsNoneOf}
use Rattle.octseq_dns_compose.specs.TooLong.{IsListLine}
use Rattle.octseq_dns_compose.proofs.Faults.{Leads, led_fault, no_text}

abbrev pub Line : Type 0
Line = List (List ℕ)

-- ---- lines at the front of a text

pub lines_more : (front more : List Line) (text mid rest : List ℕ) → BeginsWithLines front text mid
    → BeginsWithLines more mid rest → BeginsWithLines (front ++ more) text rest
lines_more [] more text mid rest begins on = subst (λ t. BeginsWithLines more t rest) (sym begins) on
lines_more (words ∷ front) more text mid rest begins on =
    (begins.0, begins.1, lines_more front more begins.0 mid rest begins.2 on)

pub lines_end : (front : List Line) (text rest : List ℕ) → BeginsWithLines front text rest → rest ≡ []
    → AreLines front text
lines_end [] text rest begins over = begins ∙ over
lines_end (words ∷ front) text rest begins over =
    (begins.0, begins.1, lines_end front begins.0 rest begins.2 over)

-- a line is split off in one way
pub splits_same : (line other after rest : List ℕ) → IsLine line → IsLine other → EndsLine after → EndsLine rest
    → line ++ after ≡ other ++ rest → (line ≡ other) × (after ≡ rest)
splits_same [] [] after rest is also ends end same = (refl, same)
splits_same [] (y ∷ other) [] rest is also ends end same = absurd (cc)
splits_same [] (y ∷ other) (x ∷ after) rest is also ends end same =
    let first : x ≡ y = cc in
    absurd (also.0 (sym first ∙ ends))
splits_same (x ∷ line) [] after [] is also ends end same = absurd (cc)
splits_same (x ∷ line) [] after (y ∷ rest) is also ends end same =
    let first : x ≡ y = cc in
    absurd (is.0 (first ∙ end))
splits_same (x ∷ line) (y ∷ other) after rest is also ends end same =
    let first : x ≡ y = cc in
    let more : line ++ after ≡ other ++ rest = cc in
    let both = splits_same line other after rest is.1 also.1 ends end more in
    ((λ i. first i ∷ both.0 i), both.1)

pub line_same : (line other rest after : List ℕ) → IsLine line → IsLine other → EndsLine after
    → line ++ 10 ∷ rest ≡ other ++ after → (line ≡ other) × (after ≡ 10 ∷ rest)
line_same line other rest after is also ends same =
    let both = splits_same line other (10 ∷ rest) after is also refl ends same in
    (both.0, sym both.1)

pub line_once : (words others : Line) (text rest left : List ℕ) → TakesLine words text rest
    → TakesLine others text left → (words ≡ others) × (rest ≡ left)
line_once words others text rest left one two =
    let both = line_same one.0 two.0 rest (10 ∷ left) one.2 two.2 refl (sym one.1 ∙ two.1) in
    let same : rest ≡ left = cc (both.1) in
    (words_once words others two.0 (subst (AreWords words) both.0 one.3) two.3, same)

-- a text with lines isn't empty
pub some_line : (words : Line) (text rest : List ℕ) → TakesLine words text rest → ¬ (text ≡ [])
some_line words text rest taken none =
    let size = ap length (sym none ∙ taken.1) ∙ length-append taken.0 (10 ∷ rest) in
    omega (arith, size)

pub lines_after : (front lines : List Line) (text rest : List ℕ) → BeginsWithLines front text rest
    → AreLines lines text → (others : List Line) × (lines ≡ front ++ others) × AreLines others rest
lines_after [] lines text rest begins are = (lines, refl, subst (AreLines lines) begins are)
lines_after (words ∷ front) [] text rest begins are = absurd (some_line words text begins.0 begins.1 are)
lines_after (words ∷ front) (other ∷ lines) text rest begins are =
    let first = line_once words other text begins.0 are.0 begins.1 are.1 in
    let more = lines_after front lines begins.0 rest begins.2 (subst (AreLines lines) (sym first.1) are.2) in
    (more.0, (λ i. sym first.0 i ∷ more.1 i), more.2)

-- ---- texts after lines

-- a fault in a line, or only the lack of its line feed
abbrev pub Broken : (Line → List ℕ → Type 0) → (text after : List ℕ) (start offset : ℕ) → Type 0
Broken Is text after start offset = IsWordFault Is text start offset ⊎ IsUnended Is text after start offset

pub led_broken : (Is Rest : Line → List ℕ → Type 0) (front : Line) → Leads Is Rest front
    → (text ahead after : List ℕ) (start next offset : ℕ) → BeginsWithWords front text ahead
    → next + length ahead ≡ start + length text → Broken Rest ahead after next offset
    → Broken Is text after start offset
led_broken Is Rest front leads text ahead after start next offset begins place (inl fault) =
    inl (led_fault Is Rest front leads text ahead start next offset begins place fault)
led_broken Is Rest front leads text ahead after start next offset begins place (inr fault) =
    let all = leads.into fault.words fault.octets fault.is in
    inr (record {
      words = front ++ fault.words;
      octets = all.0;
      are = words_more front fault.words text ahead begins fault.are;
      is = all.1;
      ends = fault.ends;
      place = fault.place ∙ place;
    })

-- After lines at its front, a text of one kind is a text of another.
pub record LeadsLines (Is Rest : List Line → Type 0) (front : List Line) : Type 0 where
  pub into : (lines : List Line) → Rest lines → Is (front ++ lines)
  pub out : (lines : List Line) → Is (front ++ lines) → Rest lines

pub leads_on : {Is Mid Rest : List Line → Type 0} (front more : List Line) → LeadsLines Is Mid front
    → LeadsLines Mid Rest more → LeadsLines Is Rest (front ++ more)
leads_on {Is = Is} front more one two = record {
  into = λ lines rest. subst Is (sym (append_assoc front more lines)) (one.into (more ++ lines) (two.into lines rest));
  out = λ lines all. two.out lines (one.out (more ++ lines) (subst Is (append_assoc front more lines) all));
}

next_leads : (Is Rest : List Line → Type 0) (front more : List Line) → LeadsLines Is Rest front
    → Leads (IsNextLine Is (front ++ more)) (IsNextLine Rest more) []
next_leads Is Rest front more leads = record {
  into = λ words octets next.
      ([], (next.0, subst Is (sym (append_assoc front more (words ∷ next.0))) (leads.into _ next.1)));
  out = λ words octets next.
      ([], (next.0, leads.out _ (subst Is (append_assoc front more (words ∷ next.0)) next.1)));
}

pub led_line_fault : (Is Rest : List Line → Type 0) (front : List Line) → LeadsLines Is Rest front
    → (text ahead : List ℕ) (first next number offset : ℕ) → BeginsWithLines front text ahead
    → next ≡ first + length front → IsLineFault Rest ahead next number offset
    → IsLineFault Is text first number offset
led_line_fault Is Rest front leads text ahead first next number offset begins place fault = record {
  front = front ++ fault.front;
  line = fault.line;
  after = fault.after;
  begins = lines_more front fault.front text ahead (fault.line ++ fault.after) begins fault.begins;
  is_line = fault.is_line;
  ended = fault.ended;
  place =
      let size = length-append front fault.front in
      let here = fault.place in
      omega (arith, size, here, place);
  fault = led_broken (IsNextLine Is (front ++ fault.front)) (IsNextLine Rest fault.front) []
      (next_leads Is Rest front fault.front leads) fault.line fault.line fault.after 0 0 offset refl refl fault.fault;
  ends = λ over is. fault.ends over (leads.out fault.front is);
}

-- where a fault is, no text goes on with a line
pub no_next : (Is : List Line → Type 0) (front others : List Line) (words : Line) (line after rest : List ℕ)
    (offset : ℕ) → IsLine line → EndsLine after
    → Broken (IsNextLine Is front) line after 0 offset → TakesLine words (line ++ after) rest
    → ¬ Is (front ++ words ∷ others)
no_next Is front others words line after rest offset is ends fault takes whole =
    let both = line_same takes.0 line rest after takes.2 is ends (sym takes.1) in
    none fault both.1 (subst (AreWords words) both.0 takes.3)
  where
    none : Broken (IsNextLine Is front) line after 0 offset → after ≡ 10 ∷ rest → AreWords words line → ⊥
    none (inl fault) feed are = no_text (IsNextLine Is front) line 0 offset fault words [] are (others, whole)
    none (inr fault) feed are = let over = fault.ends in absurd (cc (feed, over))

-- so there is no text
not_next : (Is : List Line → Type 0) (front others : List Line) (line after : List ℕ) (offset : ℕ) → IsLine line
    → EndsLine after → Broken (IsNextLine Is front) line after 0 offset → (line ++ after ≡ [] → ¬ Is front)
    → AreLines others (line ++ after) → ¬ Is (front ++ others)
not_next Is front [] line after offset is ends fault over are whole =
    over are (subst Is (append-nil front) whole)
not_next Is front (words ∷ others) line after offset is ends fault over are whole =
    no_next Is front others words line after are.0 offset is ends fault are.1 whole

pub no_lines : (Is : List Line → Type 0) (text : List ℕ) (first number offset : ℕ)
    → IsLineFault Is text first number offset → (lines : List Line) → AreLines lines text → ¬ Is lines
no_lines Is text first number offset fault lines are is =
    let split = lines_after fault.front lines text (fault.line ++ fault.after) fault.begins are in
    not_next Is fault.front split.0 fault.line fault.after offset fault.is_line fault.ended fault.fault fault.ends
    split.2 (subst Is split.1 is)

-- ---- the first line

pub none_of : (first text line after : List ℕ) → SplitsLines text line after
    → ((rest : List ℕ) → ¬ TakesWord first line rest) → IsNoneOf first text
none_of first text line after split none other left rest also taken =
    let same = splits_same line other after left split.is_line also.is_line split.ends also.ends
    (sym split.whole ∙ also.whole) in
    none rest (subst (λ l. TakesWord first l rest) (sym same.0) taken)

-- a fault in it
pub faulty_words : (first : List ℕ) (Is : Line → List ℕ → Type 0) (text line after rest : List ℕ) (start offset : ℕ)
    → SplitsLines text line after → TakesWord first line rest → start + length rest ≡ length line
    → IsWordFault Is rest start offset → IsFaultyLine first Is text offset
faulty_words first Is text line after rest start offset split taken place fault = record {
  line = line;
  after = after;
  split = split;
  rest = rest;
  start = start;
  taken = taken;
  place = place;
  fault = inl fault;
}

pub no_feed : (first : List ℕ) (Is : Line → List ℕ → Type 0) (text line after rest : List ℕ) (start : ℕ)
    (words : Line) (octets : List ℕ) → SplitsLines text line after → TakesWord first line rest
    → start + length rest ≡ length line → AreWords words rest → Is words octets → after ≡ []
    → IsFaultyLine first Is text (length line)
no_feed first Is text line after rest start words octets split taken place are is over = record {
  line = line;
  after = after;
  split = split;
  rest = rest;
  start = start;
  taken = taken;
  place = place;
  fault = inr (record {
    words = words;
    octets = octets;
    are = are;
    is = is;
    ends = over;
    place = sym place;
  });
}

-- data in it that ends in a list
pub list_line : (P : Type 0) (first text line after rest : List ℕ) → SplitsLines text line after
    → TakesWord first line rest → P ⊎ BeginsWithList None rest → P ⊎ IsListLine first text
list_line P first text line after rest split taken (inl is) = inl is
list_line P first text line after rest split taken (inr list) =
    inr (record { line = line; after = after; split = split; rest = rest; taken = taken; list = list })
