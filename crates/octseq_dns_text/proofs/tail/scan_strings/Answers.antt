use Rattle.std.proofs.Common.{◌≡◌, ℕ, ◌+◌, List, [], ◌∷◌, ◌++◌, length, refl, sym, ap, ◌∙◌, subst, rules}
use Rattle.octseq_dns_scan.proofs.Taken.{word_once}
use Rattle.octseq_dns_scan.specs.Word.{TakesWord}
use Rattle.octseq_dns_scan.specs.Words.{ahead_of, offset_of}
use Rattle.octseq_dns_text.proofs.Appended.{grows_none, grows_more}
use Rattle.octseq_dns_text.proofs.ReadTexts.{takes_some, reads_malformed, reached_none, reached_same, reached_word}
use Rattle.octseq_dns_text.proofs.ReadTexts.{reached_fault, reached_ok, reached_short}
use Rattle.octseq_dns_text.proofs.StringTexts.{strings_word, strings_stop, strings_go}
use Rattle.octseq_dns_text.specs.Scans.{Goes}
use Rattle.octseq_dns_text.specs.Tails.{AreStrings}
use Rattle.octseq_dns_text.proofs.tail.scan_strings.Goals as goal

pub words-init : goal.words-init
words-init g c = record {
  reached = reached_none AreStrings (ahead_of c.args.words) (offset_of c.args.words) g.B.AsOctets.limit
      (g.B.AsOctets.content c.args.target.now) refl;
  grows = grows_none (g.B.AsOctets.content c.args.target.now);
  borrows = refl;
}

pub words-preserved : goal.words-preserved
words-preserved g c =
    let so_far = c.words.invariant in
    let word = c.in-Some.word.octets.now in
    let base = g.B.AsOctets.content c.args.target.now in
    let old = g.B.AsOctets.content c.words.target in
    let new = g.B.AsOctets.content c.append.new.target in
    let made = c.in-Some-string_octets.octets.content in
    let same : c.as_slice.result.now ≡ made = search rules in record {
      reached = reached_word AreStrings AreStrings (ahead_of c.args.words) (offset_of c.args.words)
          g.B.AsOctets.limit base (ahead_of c.words.ahead) (ahead_of c.next_word.new.self) (offset_of c.words.ahead)
          (offset_of c.next_word.new.self) c.words.full c.in-Ok.past old new word made so_far.reached
          c.in-Some.ensures.some c.in-Some.ensures.end
          (λ front front_made are. strings_word front front_made word made are c.in-Some-string_octets.ensures.some)
          (rw (← same) c.in-Ok.ensures.ok);
      grows = grows_more base old new so_far.grows c.append.ensures.grows;
      borrows = c.append.ensures.borrows ∙ so_far.borrows;
    }

pub returns-in-None-clause-reads : goal.returns-in-None-clause-reads
returns-in-None-clause-reads g c =
    let so_far = c.words.invariant in
    let ahead = ahead_of c.words.ahead in
    let word = c.in-Some.word.octets.now in
    let base = g.B.AsOctets.content c.args.target.now in
    let taken : TakesWord word ahead (ahead_of c.next_word.new.self) = c.in-Some.ensures.some in
    rw c.in-Some.ensures.offset (reads_malformed AreStrings g.B.AsOctets.limit g.B.AsOctets.asks
    (ahead_of c.args.words) (offset_of c.args.words) (offset_of c.words.ahead) base
    (g.B.AsOctets.content c.words.target)
    (reached_fault AreStrings AreStrings (ahead_of c.args.words) (offset_of c.args.words) g.B.AsOctets.limit base ahead
    (offset_of c.words.ahead) c.words.full (g.B.AsOctets.content c.words.target) so_far.reached strings_go
    (λ front made other left are takes. subst (λ w. ¬ Goes AreStrings (front ++ w ∷ []))
    (sym (word_once other word ahead left (ahead_of c.next_word.new.self) takes taken).0)
    (strings_stop front word (c.in-None.ensures.none refl)))
    (λ front made octets are none. absurd (takes_some word ahead (ahead_of c.next_word.new.self) taken none))))

pub returns-then-not-is_at_end-clause-reads : goal.returns-then-not-is_at_end-clause-reads
returns-then-not-is_at_end-clause-reads g c =
    let so_far = c.words.invariant in
    let ahead = ahead_of c.next_word.new.self in
    let base = g.B.AsOctets.content c.args.target.now in
    let reached = reached_same AreStrings (ahead_of c.args.words) (offset_of c.args.words) g.B.AsOctets.limit base
    (ahead_of c.words.ahead) ahead (offset_of c.words.ahead) (offset_of c.next_word.new.self) c.words.full
    (g.B.AsOctets.content c.words.target) so_far.reached c.in_default.ensures.kept c.in_default.ensures.end in
    let some : ¬ (ahead ≡ []) = search rules in
    rw c.offset.ensures (reads_malformed AreStrings g.B.AsOctets.limit g.B.AsOctets.asks
    (ahead_of c.args.words) (offset_of c.args.words) (offset_of c.next_word.new.self) base
    (g.B.AsOctets.content c.words.target)
    (reached_fault AreStrings AreStrings (ahead_of c.args.words) (offset_of c.args.words) g.B.AsOctets.limit base ahead
    (offset_of c.next_word.new.self) c.words.full (g.B.AsOctets.content c.words.target) reached strings_go
    (λ front made word left are takes. absurd (c.in_default.ensures.none refl word left
    (subst (λ text. TakesWord word text left) c.in_default.ensures.kept takes)))
    (λ front made octets are none. absurd (some none))))

pub returns-then-full-clause-reads : goal.returns-then-full-clause-reads
returns-then-full-clause-reads g c =
    let so_far = c.words.invariant in
    let base = g.B.AsOctets.content c.args.target.now in
    let none : ahead_of c.words.ahead ≡ [] = sym c.in_default.ensures.kept ∙ (search rules) in
    reached_short AreStrings AreStrings (ahead_of c.args.words) (offset_of c.args.words) g.B.AsOctets.limit
    g.B.AsOctets.asks base (ahead_of c.words.ahead) (offset_of c.words.ahead) (g.B.AsOctets.content c.words.target)
    (rw (← c.if-full.true) so_far.reached) none (λ front made are. are)

pub returns-clause-reads : goal.returns-clause-reads
returns-clause-reads g c =
    let so_far = c.words.invariant in
    let base = g.B.AsOctets.content c.args.target.now in
    let none : ahead_of c.words.ahead ≡ [] = sym c.in_default.ensures.kept ∙ (search rules) in
    reached_ok AreStrings AreStrings (ahead_of c.args.words) (offset_of c.args.words) g.B.AsOctets.limit
    g.B.AsOctets.asks base (ahead_of c.words.ahead) (offset_of c.words.ahead) (g.B.AsOctets.content c.words.target)
    (rw (← c.if-full.false) so_far.reached) none (λ front made are. are)
