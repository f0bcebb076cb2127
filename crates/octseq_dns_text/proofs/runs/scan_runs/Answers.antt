use Rattle.std.proofs.Common.{◌≡◌, ℕ, ◌+◌, List, [], ◌∷◌, ◌++◌, length, refl, sym, ap, ◌∙◌, subst, rules}
use Rattle.std.specs.List.{concat}
use Rattle.octseq_dns_scan.proofs.Taken.{word_once}
use Rattle.octseq_dns_scan.specs.Word.{TakesWord}
use Rattle.octseq_dns_scan.specs.Words.{ahead_of, offset_of}
use Rattle.octseq_dns_text.proofs.Appended.{grows_none, grows_more}
use Rattle.octseq_dns_text.proofs.ReadTexts.{takes_some, reads_malformed, reached_none, reached_same, reached_word}
use Rattle.octseq_dns_text.proofs.ReadTexts.{reached_fault, reached_ok, reached_short}
use Rattle.octseq_dns_text.proofs.RunTexts.{read_word, runs_go, runs_stop}
use Rattle.octseq_dns_text.specs.Runs.{AreRuns}
use Rattle.octseq_dns_text.specs.Scans.{Goes}
use Rattle.octseq_dns_text.proofs.runs.scan_runs.Goals as goal

pub words-init : goal.words-init
words-init g c = record {
  reached = reached_none (λ front made. g.R.RunReader.has_read c.args.reader c.args.reader (concat front) made)
      (ahead_of c.args.words) (offset_of c.args.words) g.B.AsOctets.limit (g.B.AsOctets.content c.args.target.now)
      c.requires;
  grows = grows_none (g.B.AsOctets.content c.args.target.now);
  borrows = refl;
}

pub words-preserved : goal.words-preserved
words-preserved g c =
    let so_far = c.words.invariant in
    let read = c.in-Ok.ensures.ok in
    let base = g.B.AsOctets.content c.args.target.now in
    let old = g.B.AsOctets.content c.words.target in
    let new = g.B.AsOctets.content c.append_run.new.target in record {
      reached = reached_word (λ front made. g.R.RunReader.has_read c.args.reader c.words.after (concat front) made)
          (λ front made. g.R.RunReader.has_read c.args.reader c.in-Ok.read.0 (concat front) made)
          (ahead_of c.args.words) (offset_of c.args.words) g.B.AsOctets.limit base (ahead_of c.words.ahead)
          (ahead_of c.next_word.new.self) (offset_of c.words.ahead) (offset_of c.next_word.new.self) c.words.full
          c.in-Ok.read.1 old new c.in-Some.word.octets.now read.0 so_far.reached c.in-Some.ensures.some
          c.in-Some.ensures.end
          (read_word (g.R.RunReader.has_read c.args.reader) c.words.after c.in-Ok.read.0 c.in-Some.word.octets.now
          read.0 (read.1 c.args.reader))
          read.2;
      grows = grows_more base old new so_far.grows c.append_run.ensures.grows;
      borrows = c.append_run.ensures.borrows ∙ so_far.borrows;
    }

pub returns-in-Err-Malformed-clause-reads : goal.returns-in-Err-Malformed-clause-reads
returns-in-Err-Malformed-clause-reads g c =
    let so_far = c.words.invariant in
    let start = c.args.reader in
    let Is = g.R.RunReader.is_text start in
    let ahead = ahead_of c.words.ahead in
    let word = c.in-Some.word.octets.now in
    let base = g.B.AsOctets.content c.args.target.now in
    let taken : TakesWord word ahead (ahead_of c.next_word.new.self) = c.in-Some.ensures.some in
    rw c.in-Some.ensures.offset (reads_malformed (AreRuns Is) g.B.AsOctets.limit g.B.AsOctets.asks
    (ahead_of c.args.words) (offset_of c.args.words) (offset_of c.words.ahead) base
    (g.B.AsOctets.content c.append_run.new.target)
    (reached_fault (λ front made. g.R.RunReader.has_read start c.words.after (concat front) made) (AreRuns Is)
    (ahead_of c.args.words) (offset_of c.args.words) g.B.AsOctets.limit base ahead (offset_of c.words.ahead)
    c.words.full (g.B.AsOctets.content c.words.target) so_far.reached
    (λ front made read. runs_go Is front (c.has_text.ensures start (concat front) made read))
    (λ front made other left read takes. subst (λ w. ¬ Goes (AreRuns Is) (front ++ w ∷ []))
    (sym (word_once other word ahead left (ahead_of c.next_word.new.self) takes taken).0)
    (runs_stop Is front word (c.in-Err-Malformed.ensures.malformed (cc) start (concat front) made read)))
    (λ front made octets read none. absurd (takes_some word ahead (ahead_of c.next_word.new.self) taken none))))

pub returns-then-not-is_at_end-clause-reads : goal.returns-then-not-is_at_end-clause-reads
returns-then-not-is_at_end-clause-reads g c =
    let so_far = c.words.invariant in
    let start = c.args.reader in
    let Is = g.R.RunReader.is_text start in
    let ahead = ahead_of c.next_word.new.self in
    let base = g.B.AsOctets.content c.args.target.now in
    let IsFront : List (List ℕ) → List ℕ → Type 0 =
    λ front made. g.R.RunReader.has_read start c.words.after (concat front) made in
    let reached = reached_same IsFront (ahead_of c.args.words) (offset_of c.args.words) g.B.AsOctets.limit base
    (ahead_of c.words.ahead) ahead (offset_of c.words.ahead) (offset_of c.next_word.new.self) c.words.full
    (g.B.AsOctets.content c.words.target) so_far.reached c.in_default.ensures.kept c.in_default.ensures.end in
    let some : ¬ (ahead ≡ []) = search rules in
    rw c.offset.ensures (reads_malformed (AreRuns Is) g.B.AsOctets.limit g.B.AsOctets.asks
    (ahead_of c.args.words) (offset_of c.args.words) (offset_of c.next_word.new.self) base
    (g.B.AsOctets.content c.words.target)
    (reached_fault IsFront (AreRuns Is) (ahead_of c.args.words) (offset_of c.args.words) g.B.AsOctets.limit base ahead
    (offset_of c.next_word.new.self) c.words.full (g.B.AsOctets.content c.words.target) reached
    (λ front made read. runs_go Is front (c.has_text-2.ensures start (concat front) made read))
    (λ front made word left read takes. absurd (c.in_default.ensures.none refl word left
    (subst (λ text. TakesWord word text left) c.in_default.ensures.kept takes)))
    (λ front made octets read none. absurd (some none))))

pub returns-then-not-is_whole-clause-reads : goal.returns-then-not-is_whole-clause-reads
returns-then-not-is_whole-clause-reads g c =
    let so_far = c.words.invariant in
    let start = c.args.reader in
    let Is = g.R.RunReader.is_text start in
    let ahead = ahead_of c.next_word.new.self in
    let base = g.B.AsOctets.content c.args.target.now in
    let IsFront : List (List ℕ) → List ℕ → Type 0 =
    λ front made. g.R.RunReader.has_read start c.words.after (concat front) made in
    let reached = reached_same IsFront (ahead_of c.args.words) (offset_of c.args.words) g.B.AsOctets.limit base
    (ahead_of c.words.ahead) ahead (offset_of c.words.ahead) (offset_of c.next_word.new.self) c.words.full
    (g.B.AsOctets.content c.words.target) so_far.reached c.in_default.ensures.kept c.in_default.ensures.end in
    rw c.offset-then-not-is_whole.ensures (reads_malformed (AreRuns Is) g.B.AsOctets.limit g.B.AsOctets.asks
    (ahead_of c.args.words) (offset_of c.args.words) (offset_of c.next_word.new.self) base
    (g.B.AsOctets.content c.words.target)
    (reached_fault IsFront (AreRuns Is) (ahead_of c.args.words) (offset_of c.args.words) g.B.AsOctets.limit base ahead
    (offset_of c.next_word.new.self) c.words.full (g.B.AsOctets.content c.words.target) reached
    (λ front made read. runs_go Is front (c.has_text-2.ensures start (concat front) made read))
    (λ front made word left read takes. absurd (c.in_default.ensures.none refl word left
    (subst (λ text. TakesWord word text left) c.in_default.ensures.kept takes)))
    (λ front made octets read none is. c.if-not-is_whole.ensures.open (search rules) start (concat front) made octets
    read is.0 is.1)))

pub returns-then-full-clause-reads : goal.returns-then-full-clause-reads
returns-then-full-clause-reads g c =
    let so_far = c.words.invariant in
    let start = c.args.reader in
    let IsFront : List (List ℕ) → List ℕ → Type 0 =
    λ front made. g.R.RunReader.has_read start c.words.after (concat front) made in
    let base = g.B.AsOctets.content c.args.target.now in
    let none : ahead_of c.words.ahead ≡ [] = sym c.in_default.ensures.kept ∙ (search rules) in
    reached_short IsFront (AreRuns (g.R.RunReader.is_text start)) (ahead_of c.args.words) (offset_of c.args.words)
    g.B.AsOctets.limit g.B.AsOctets.asks base (ahead_of c.words.ahead) (offset_of c.words.ahead)
    (g.B.AsOctets.content c.words.target) (rw (← c.if-full.true) so_far.reached) none
    (λ front made read. (
      g.met.R.RunReader.made start c.words.after (concat front) made read,
      c.if-not-is_whole.ensures.whole (search rules) start (concat front) made read,
    ))

pub returns-clause-reads : goal.returns-clause-reads
returns-clause-reads g c =
    let so_far = c.words.invariant in
    let start = c.args.reader in
    let IsFront : List (List ℕ) → List ℕ → Type 0 =
    λ front made. g.R.RunReader.has_read start c.words.after (concat front) made in
    let base = g.B.AsOctets.content c.args.target.now in
    let none : ahead_of c.words.ahead ≡ [] = sym c.in_default.ensures.kept ∙ (search rules) in
    reached_ok IsFront (AreRuns (g.R.RunReader.is_text start)) (ahead_of c.args.words) (offset_of c.args.words)
    g.B.AsOctets.limit g.B.AsOctets.asks base (ahead_of c.words.ahead) (offset_of c.words.ahead)
    (g.B.AsOctets.content c.words.target) (rw (← c.if-full.false) so_far.reached) none
    (λ front made read. (
      g.met.R.RunReader.made start c.words.after (concat front) made read,
      c.if-not-is_whole.ensures.whole (search rules) start (concat front) made read,
    ))
