-- Words that are taken in an order, each at most once.
use Rattle.std.proofs.Common.{◌≡◌, ℕ, ◌+◌, Bool, true, false, not, ◌&&◌, List, [], ◌∷◌, ◌++◌, length}
use Rattle.std.proofs.Common.{refl, sym, ◌∙◌, subst}
use Rattle.std.proofs.Math.Bool.{true≢false}
use Rattle.std.proofs.lemmas.Bool.{and_parts, not-true}
use Rattle.std.proofs.lemmas.List.{append-nil}
use Rattle.std.proofs.lemmas.Slice.Eq.{bytes_eq-Decides}
use Rattle.std.specs.Prelude.{bytes_eq}
use Rattle.octseq_dns_scan.specs.Word.{TakesWord}
use Rattle.octseq_dns_text.specs.Scans.{IsWordFault}
use Rattle.octseq_dns_compose.specs.Take.{IsTaken}
use Rattle.octseq_dns_compose.specs.HeaderLine.{flag_word, flag_names, AreFlags, ArePicked, Picks}
use Rattle.octseq_dns_message.specs.declared.header.Flags.{Flags}

-- a name is none of the others
abbrev pub is_apart : List ℕ → List (List ℕ) → Bool
is_apart name [] = true
is_apart name (other ∷ names) = not (bytes_eq name other) && is_apart name names

pub not_same : (a b : List ℕ) → not (bytes_eq a b) ≡ true → ¬ (a ≡ b)
not_same a b apart same = true≢false (sym ((bytes_eq-Decides a b).1 same) ∙ not-true (bytes_eq a b) apart)

-- so words of the others don't begin with it
pub not_picked : (name : List ℕ) (names words : List (List ℕ)) → is_apart name names ≡ true
    → ¬ ArePicked names (name ∷ words)
not_picked name [] words apart are = absurd (cc)
not_picked name (other ∷ names) words apart (true, more, is, are) =
    let parts = and_parts (not (bytes_eq name other)) (is_apart name names) apart in
    let same : name ≡ other = cc in
    not_same name other parts.0 same
not_picked name (other ∷ names) words apart (false, more, is, are) =
    let parts = and_parts (not (bytes_eq name other)) (is_apart name names) apart in
    not_picked name names words parts.1 (subst (ArePicked names) (sym is) are)

-- ---- one more name

stops_taken : (name : List ℕ) (names words : List (List ℕ)) (mid rest : List ℕ) → is_apart name names ≡ true
    → Picks names mid words rest → (word left : List ℕ) → TakesWord word rest left → (more : List (List ℕ))
    → ¬ ArePicked (name ∷ names) (((name ∷ words) ++ word ∷ []) ++ more)
stops_taken name names words mid rest apart picks word left taken more (true, others, is, are) =
    let same : (words ++ word ∷ []) ++ more ≡ others = cc in
    picks.stops word left taken more (subst (ArePicked names) (sym same) are)
stops_taken name names words mid rest apart picks word left taken more (false, others, is, are) =
    not_picked name names ((words ++ word ∷ []) ++ more) apart (subst (ArePicked names) (sym is) are)

stops_passed : (name : List ℕ) (names words : List (List ℕ)) (ahead rest : List ℕ)
    → ((left : List ℕ) → ¬ TakesWord name ahead left) → Picks names ahead words rest → (word left : List ℕ)
    → TakesWord word rest left → (more : List (List ℕ)) → ¬ ArePicked (name ∷ names) ((words ++ word ∷ []) ++ more)
stops_passed name names words ahead rest none picks word left taken more (false, others, is, are) =
    picks.stops word left taken more (subst (ArePicked names) (sym is) are)
stops_passed name names [] ahead rest none picks word left taken more (true, others, is, are) =
    let same : word ≡ name = cc in
    none left (subst (λ w. TakesWord w ahead left) same (subst (λ t. TakesWord word t left) (sym picks.begins) taken))
stops_passed name names (first ∷ words) ahead rest none picks word left taken more (true, others, is, are) =
    let same : first ≡ name = cc in
    none picks.begins.0 (subst (λ w. TakesWord w ahead picks.begins.0) same picks.begins.1)

pub pick : (picked : Bool) (name : List ℕ) (names words : List (List ℕ)) (ahead mid rest : List ℕ)
    → is_apart name names ≡ true → IsTaken name picked ahead mid → Picks names mid words rest
    → Picks (name ∷ names) ahead (flag_word picked name ++ words) rest
pick true name names words ahead mid rest apart taken picks = record {
  begins = (mid, taken, picks.begins);
  are = (true, words, refl, picks.are);
  stops = stops_taken name names words mid rest apart picks;
}
pick false name names words ahead mid rest apart taken picks =
    let here : Picks names ahead words rest = subst (λ t. Picks names t words rest) taken.0 picks in
    record {
      begins = here.begins;
      are = (false, words, refl, here.are);
      stops = stops_passed name names words ahead rest taken.1 here;
    }

-- no names
pub pick_none : (ahead : List ℕ) → Picks [] ahead [] ahead
pick_none ahead = record { begins = refl; are = refl; stops = λ word left taken more is. absurd (cc) }

-- ---- the flags of a header

-- the words of those names that are picked
abbrev pub picked_words : List (List ℕ) → List Bool → List (List ℕ)
picked_words [] picked = []
picked_words (name ∷ names) [] = []
picked_words (name ∷ names) (is ∷ picked) = flag_word is name ++ picked_words names picked

none_picked : (names : List (List ℕ)) → ArePicked names []
none_picked [] = refl
none_picked (name ∷ names) = (false, [], refl, none_picked names)

pub words_picked : (names : List (List ℕ)) (picked : List Bool) → ArePicked names (picked_words names picked)
words_picked [] picked = refl
words_picked (name ∷ names) [] = none_picked (name ∷ names)
words_picked (name ∷ names) (is ∷ picked) = (is, picked_words names picked, refl, words_picked names picked)

pub picked_are : (flags : Flags) (words : List (List ℕ)) → AreFlags flags words → ArePicked flag_names words
picked_are flags words are =
    let all = flags.qr ∷ flags.aa ∷ flags.tc ∷ flags.rd ∷ flags.ra ∷ flags.ad ∷ flags.cd ∷ [] in
    subst (ArePicked flag_names) (sym are.1) (words_picked flag_names all)

pub are_picked : (words : List (List ℕ)) → ArePicked flag_names words → (flags : Flags) × AreFlags flags words
are_picked words (qr, a, is_a, after_qr) =
    let (aa, b, is_b, after_aa) = after_qr in
    let (tc, c, is_c, after_tc) = after_aa in
    let (rd, d, is_d, after_rd) = after_tc in
    let (ra, e, is_e, after_ra) = after_rd in
    let (ad, f, is_f, after_ad) = after_ra in
    let (cd, g, is_g, over) = after_ad in (
      record { qr = qr; aa = aa; tc = tc; rd = rd; ra = ra; z = false; ad = ad; cd = cd },
      (refl, cc (is_a, is_b, is_c, is_d, is_e, is_f, is_g, over)),
    )

-- another word than a flag, where the flags that are there are passed
pub flags_fault : (ahead rest : List ℕ) (words : List (List ℕ)) (start offset : ℕ) → Picks flag_names ahead words rest
    → offset + length rest ≡ start + length ahead → ¬ (rest ≡ [])
    → IsWordFault (λ ws octets. (flags : Flags) × AreFlags flags ws) ahead start offset
flags_fault ahead rest words start offset picks place some = record {
  front = words;
  rest = rest;
  begins = picks.begins;
  place = place;
  goes =
      let flags = are_picked words picks.are in
      ([], [], (flags.0, subst (AreFlags flags.0) (sym (append-nil words)) flags.1));
  stops = λ word left taken on.
      picks.stops word left taken on.0 (picked_are on.2.0 ((words ++ word ∷ []) ++ on.0) on.2.1);
  ends = λ none. absurd (some none);
}
