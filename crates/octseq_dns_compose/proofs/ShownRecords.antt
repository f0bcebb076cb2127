-- The text of a record and that of a question are read back.
use Rattle.std.proofs.Common.{◌≡◌, ℕ, ◌+◌, ◌≤◌, ◌<◌, ◌^◌, None, List, [], ◌∷◌, ◌++◌, length, inl, refl, sym, ap, ◌∙◌}
use Rattle.std.proofs.Common.{subst, append_assoc, arith, decimal}
use Rattle.std.specs.Prelude.{slice_range}
use Rattle.octseq.proofs.Windows.{next_and_rest}
use Rattle.octseq.specs.Integer.{be}
use Rattle.octseq.specs.Window.{Window, at, left, next, past, rest}
use Rattle.octseq_dns_data.proofs.Mnemonics.{reads_shown}
use Rattle.octseq_dns_data.specs.Data.{ParsedRdata}
use Rattle.octseq_dns_data.specs.Format.{IsNumber}
use Rattle.octseq_dns_data.specs.Mnemonic.{ReadsClass, ReadsRtype, class_text, rtype_text}
use Rattle.octseq_dns_data.specs.RdataText.{rdata_text}
use Rattle.octseq_dns_message.specs.Entry.{IsQuestion, IsRecord, Question, Record}
use Rattle.octseq_dns_message.specs.HeaderText.{question_text}
use Rattle.octseq_dns_message.specs.MessageText.{record_text}
use Rattle.octseq_dns_message.specs.RecordData.{IsDataOf}
use Rattle.octseq_dns_name.proofs.LabelLaws.{named_labels, named_octets}
use Rattle.octseq_dns_name.proofs.Spellings.{name_spelled}
use Rattle.octseq_dns_name.specs.Name.{HasName, Name}
use Rattle.octseq_dns_name.specs.NameFormat.{onward_name}
use Rattle.octseq_dns_name.specs.OneName.{Named}
use Rattle.octseq_dns_name.specs.Text.{name_text}
use Rattle.octseq_dns_scan.proofs.Numerals.{shown_digits, shown_short, shown_value}
use Rattle.octseq_dns_scan.proofs.Taken.{taken_end}
use Rattle.octseq_dns_scan.specs.Word.{AreWords}
use Rattle.octseq_dns_text.proofs.NameWords.{name_first}
use Rattle.octseq_dns_text.proofs.OrdinaryTexts.{class_first, decimal_first, rtype_first}
use Rattle.octseq_dns_text.proofs.ShownData.{says_shown}
use Rattle.octseq_dns_text.proofs.SpacedWords.{IsFeedless, feedless_both, words_before}
use Rattle.octseq_format.specs.Canonical.{IsSoundWindow, many_rest, sound_nested, sound_on, sound_past}
use Rattle.octseq_format.specs.Fixed.{canonical_fixed}
use Rattle.octseq_format.specs.Integers.{are_be}
use Rattle.octseq_dns_compose.specs.MessageShown.{AreRecordWords, ShowsWords, said_of}
use Rattle.octseq_dns_compose.specs.QuestionText.{IsQuestionText}
use Rattle.octseq_dns_compose.specs.RecordText.{IsClassWord, IsOwnerWord, IsRecordTypeWord, IsTtlWord}

-- ---- words

name_read : (w : Window) (name : Name) (v : Window) → IsSoundWindow w → HasName w name v
    → IsOwnerWord None name.labels (name_text name.labels)
name_read w name v sound is =
    let labels : Named w = (name.labels, ∣ (v, is.1) ∣₁) in (
      named_labels w labels sound.within,
      is.1.short,
      name_spelled name.labels (named_octets w labels sound.each),
    )

ttl_read : (ttl : ℕ) → ttl < 4294967296 → IsTtlWord ttl (decimal ttl)
ttl_read ttl few =
    let small : ttl < 2 ^ 64 = omega (arith, few) in
    (shown_digits ttl small, shown_short ttl few, shown_value ttl small, omega (arith, few))

class_read : (class : ℕ) → class < 65536 → IsClassWord class (class_text class)
unfolding ReadsClass class_text
class_read class few = reads_shown _ _ class few

rtype_read : (rtype : ℕ) → rtype < 65536 → IsRecordTypeWord rtype (rtype_text rtype)
unfolding ReadsRtype rtype_text
rtype_read rtype few = reads_shown _ _ rtype few

-- a word, a space, and what follows them
pub before_feedless : (word text : List ℕ) → IsFeedless word → IsFeedless text → IsFeedless (word ++ 32 ∷ text)
before_feedless word text one two = feedless_both word (32 ∷ text) one (λ same. omega (arith, same), two)

-- ---- numbers at a place

pub fixed_fits : (k n : ℕ) (w v : Window) → IsSoundWindow w → IsNumber k w n v → n < 256 ^ k
fixed_fits k n w v sound is = ((canonical_fixed (are_be k)).written w n v sound is).0

fixed_on : (k n : ℕ) (w v : Window) → IsSoundWindow w → IsNumber k w n v → IsSoundWindow v
fixed_on k n w v sound is = (canonical_fixed (are_be k)).on w n v sound is

fixed_octets : (k n : ℕ) (w v : Window) → IsNumber k w n v → v.octets ≡ w.octets
fixed_octets k n w v is = ap (λ (x : Window). x.octets) is.2

fixed_end : (k n : ℕ) (w v : Window) → IsNumber k w n v → v.end ≡ w.end
fixed_end k n w v is = ap (λ (x : Window). x.end) is.2

-- ---- questions

pub question_shown : (w : Window) (q : Question) (v : Window) → IsSoundWindow w → IsQuestion w q v
    → ShowsWords (IsQuestionText q.qname.labels q.qclass q.qtype) (question_text q)
question_shown w q v sound (u, named, (a, rtype, class)) =
    let on = sound_on onward_name w q.qname u sound named in
    let few_type = fixed_fits 2 q.qtype u a on rtype in
    let few_class = fixed_fits 2 q.qclass a v (fixed_on 2 q.qtype u a on rtype) class in
    let name = name_first q.qname.labels in
    let second = class_first q.qclass few_class in
    let third = rtype_first q.qtype few_type in
    let first = name_text q.qname.labels in
    let middle = class_text q.qclass in
    let last = rtype_text q.qtype in
    let ends : AreWords (last ∷ []) last = ([], taken_end last third.0, refl) in
    let same = sym (append_assoc first (32 ∷ middle) (32 ∷ last)) in
    record {
      words = first ∷ middle ∷ last ∷ [];
      are = subst (AreWords (first ∷ middle ∷ last ∷ [])) same
          (words_before first (middle ++ 32 ∷ last) (middle ∷ last ∷ []) name.0
          (words_before middle last (last ∷ []) second.0 ends));
      one_line = subst IsFeedless same
          (before_feedless first (middle ++ 32 ∷ last) name.1 (before_feedless middle last second.1 third.1));
      is = (name_read w q.qname u sound named, (class_read q.qclass few_class, (rtype_read q.qtype few_type, refl)));
    }

-- ---- records

-- The data of a record is in the window of its owner: its octets come next at its place.
pub record HasItsData (r : Record) : Type 0 where
  pub in_message : r.rdata.octets ≡ r.owner.place.octets
  pub more : List ℕ
  pub there : rest (at r.rdata.position r.owner.place) ≡ rest r.rdata ++ more
  pub long : r.rdata.position + length (rest r.rdata) ≡ r.rdata.end

has_its_data : (r : Record) → IsSoundWindow r.rdata → r.rdata.octets ≡ r.owner.place.octets
    → r.rdata.end ≤ r.owner.place.end
    → HasItsData r
has_its_data r sound same within =
    let n = left r.rdata in
    let ordered = sound.ordered in
    let place = at r.rdata.position r.owner.place in
    let position = r.rdata.position in
    let next_is : next n place ≡ rest r.rdata = ap (λ octets. slice_range octets position (position + n)) (sym same)
    ∙ ap (λ end. slice_range r.rdata.octets position end) (omega (arith, ordered)) in
    let many = many_rest r.rdata sound in
    record {
      in_message = same;
      more = rest (past n place);
      there = sym (next_and_rest place n (omega (arith, within))) ∙ ap (λ t. t ++ rest (past n place)) next_is;
      long = omega (arith, many, ordered);
    }

-- The values of a record fit, and its data is in its windows.
pub record IsFit (w u : Window) (r : Record) : Type 0 where
  pub named : HasName w r.owner u
  pub rtype : r.rtype < 65536
  pub class : r.class < 65536
  pub ttl : r.ttl < 4294967296
  pub place : IsSoundWindow (at r.rdata.position r.owner.place)
  pub inside : IsSoundWindow r.rdata
  pub few : left r.rdata ≤ 65535
  pub own : HasItsData r

pub record_fit : (w : Window) (r : Record) (v : Window) → IsSoundWindow w → IsRecord w r v → (u : Window) × IsFit w u r
record_fit w r v sound (u, named, (a, rtype, (b, class, (c, ttl, (has, is, moved))))) =
    let s0 = sound_on onward_name w r.owner u sound named in
    let s1 = fixed_on 2 r.rtype u a s0 rtype in
    let s2 = fixed_on 2 r.class a b s1 class in
    let s3 = fixed_on 4 r.ttl b c s2 ttl in
    let s4 = sound_past 2 c s3 has.0 in
    let n = be (next 2 c) in
    let inside = sound_nested n (past 2 c) s4 has.1 in
    let few = fixed_fits 2 n c (past 2 c) s3 (has.0, refl, refl) in
    let many = ap left is in
    let place = ap (λ (x : Window). x.position) is in
    let on = onward_name.on w r.owner u sound.ordered named in
    let end = on.1 in
    let end_a = fixed_end 2 r.rtype u a rtype in
    let end_b = fixed_end 2 r.class a b class in
    let end_c = fixed_end 4 r.ttl b c ttl in
    let here : IsSoundWindow (at r.rdata.position w) = record {
      each = sound.each;
      ordered = omega (arith, place, s4.ordered, end, end_a, end_b, end_c);
      within = sound.within;
    } in
    let fit : IsSoundWindow r.rdata = subst IsSoundWindow (sym is) inside in
    let same : r.rdata.octets ≡ r.owner.place.octets = ap (λ (x : Window). x.octets) is ∙ fixed_octets 4 r.ttl b c ttl
    ∙ fixed_octets 2 r.class a b class ∙ fixed_octets 2 r.rtype u a rtype ∙ on.0
    ∙ ap (λ (x : Window). x.octets) (sym named.0) in
    let whole = ap (λ (x : Window). x.end) is in
    let owner = ap (λ (x : Window). x.end) named.0 in (
      u,
      record {
        named = named;
        rtype = fixed_fits 2 r.rtype u a s0 rtype;
        class = fixed_fits 2 r.class a b s1 class;
        ttl = fixed_fits 4 r.ttl b c s2 ttl;
        place = subst (λ p. IsSoundWindow (at r.rdata.position p)) (sym named.0) here;
        inside = fit;
        few = omega (arith, many, few);
        own = has_its_data r fit same (omega (arith, whole, owner, end, end_a, end_b, end_c, has.0, has.1));
      },
    )

pub record_shown : (w : Window) (r : Record) (v : Window) (rdata : ParsedRdata) → IsSoundWindow w → IsRecord w r v
    → IsDataOf r rdata
    → ShowsWords (AreRecordWords (said_of r rdata)) (record_text r rdata)
record_shown w r v rdata sound is says =
    let (u, fit) = record_fit w r v sound is in
    let place = at r.rdata.position r.owner.place in
    let shown = says_shown r.rtype r.class place r.rdata rdata fit.place fit.inside fit.few says in
    let first = name_text r.owner.labels in
    let second = decimal r.ttl in
    let third = class_text r.class in
    let fourth = rtype_text r.rtype in
    let name = name_first r.owner.labels in
    let ttl = decimal_first r.ttl (let small = fit.ttl in omega (arith, small)) in
    let class = class_first r.class fit.class in
    let rtype = rtype_first r.rtype fit.rtype in
    let text = rdata_text rdata in
    let after_type = fourth ++ 32 ∷ text in
    let after_class = third ++ 32 ∷ after_type in
    let after_ttl = second ++ 32 ∷ after_class in
    let same = sym (append_assoc (first ++ 32 ∷ second ++ 32 ∷ third) (32 ∷ fourth) (32 ∷ text)
    ∙ append_assoc (first ++ 32 ∷ second) (32 ∷ third) (32 ∷ after_type)
    ∙ append_assoc first (32 ∷ second) (32 ∷ after_class)) in
    let words = first ∷ second ∷ third ∷ fourth ∷ shown.words in
    record {
      words = words;
      are = subst (AreWords words) same
          (words_before first after_ttl (second ∷ third ∷ fourth ∷ shown.words) name.0
          (words_before second after_class (third ∷ fourth ∷ shown.words) ttl.0
          (words_before third after_type (fourth ∷ shown.words) class.0
          (words_before fourth text shown.words rtype.0 shown.are))));
      one_line = subst IsFeedless same
          (before_feedless first after_ttl name.1 (before_feedless second after_class ttl.1
          (before_feedless third after_type class.1 (before_feedless fourth text rtype.1 shown.one_line))));
      is = (
        name_read w r.owner u sound fit.named,
        inl (ttl_read r.ttl fit.ttl, (class_read r.class fit.class, (rtype_read r.rtype fit.rtype, shown.is))),
      );
    }
