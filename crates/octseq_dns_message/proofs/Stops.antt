-- Reading stops at one offset.
use Rattle.std.proofs.Common.{◌≡◌, ◌∙◌, ◌+◌, ℕ, zero, suc, List, inl, inr, refl, sym, subst, arith}
use Rattle.octseq.specs.Window.{Window, whole}
use Rattle.octseq_dns_message.proofs.Headers.{one_header}
use Rattle.octseq_dns_message.specs.Entry.{Question, Record, IsQuestion, IsRecord}
use Rattle.octseq_dns_message.specs.OneEntry.{one_question, one_record}
use Rattle.octseq_dns_message.specs.declared.header.Header.{Header}
use Rattle.octseq_dns_message.specs.declared.header.HeaderCounts.{HeaderCounts}
use Rattle.octseq_dns_message.specs.Stop.{IsStop, QuestionsStop, RecordsStop}

-- one more record was skipped
pub record_step : (left count offset : ℕ) (w v : Window) (r : Record) → left ≡ suc count → IsRecord w r v
    → RecordsStop count v offset → RecordsStop left w offset
record_step left count offset w v r e is stop = subst (λ n. RecordsStop n w offset) (sym e) (inl (r, v, is, stop))

-- no record is there
pub record_stop : (left count : ℕ) (w : Window) → left ≡ suc count → ((r : Record) (v : Window) → ¬ IsRecord w r v)
    → RecordsStop left w w.position
record_stop left count w e none = subst (λ n. RecordsStop n w w.position) (sym e) (inr (none, refl))

-- one more question was skipped
pub question_step : (left count records offset : ℕ) (w v : Window) (q : Question) → left ≡ suc count → IsQuestion w q v
    → QuestionsStop count records v offset → QuestionsStop left records w offset
question_step left count records offset w v q e is stop =
    subst (λ n. QuestionsStop n records w offset) (sym e) (inl (q, v, is, stop))

-- no question is there
pub question_stop : (left count records : ℕ) (w : Window) → left ≡ suc count
    → ((q : Question) (v : Window) → ¬ IsQuestion w q v) → QuestionsStop left records w w.position
question_stop left count records w e none =
    subst (λ n. QuestionsStop n records w w.position) (sym e) (inr (none, refl))

one_records : (count : ℕ) (w : Window) (x y : ℕ) → RecordsStop count w x → RecordsStop count w y → x ≡ y
one_records zero w x y p q = p ∙ sym q
one_records (suc count) w x y (inl (r, v, is, p)) (inl (s, u, it, q)) =
    let same = one_record.same w r s v u is it in
    one_records count u x y (subst (λ v. RecordsStop count v x) same.1 p) q
one_records (suc count) w x y (inl (r, v, is, p)) (inr (none, e)) = absurd (none r v is)
one_records (suc count) w x y (inr (none, e)) (inl (r, v, is, p)) = absurd (none r v is)
one_records (suc count) w x y (inr (none, e)) (inr (also, f)) = e ∙ sym f

one_questions : (count records : ℕ) (w : Window) (x y : ℕ) → QuestionsStop count records w x
    → QuestionsStop count records w y → x ≡ y
one_questions zero records w x y p q = one_records records w x y p q
one_questions (suc count) records w x y (inl (r, v, is, p)) (inl (s, u, it, q)) =
    let same = one_question.same w r s v u is it in
    one_questions count records u x y (subst (λ v. QuestionsStop count records v x) same.1 p) q
one_questions (suc count) records w x y (inl (r, v, is, p)) (inr (none, e)) = absurd (none r v is)
one_questions (suc count) records w x y (inr (none, e)) (inl (r, v, is, p)) = absurd (none r v is)
one_questions (suc count) records w x y (inr (none, e)) (inr (also, f)) = e ∙ sym f

-- reading stops at one offset
pub one_stop : (octets : List ℕ) (x y : ℕ) → IsStop octets x → IsStop octets y → x ≡ y
one_stop octets x y (inl (long, e)) (inl (also, f)) = e ∙ sym f
one_stop octets x y (inl (long, e)) (inr (inl (few, none, f))) = absurd (omega arith)
one_stop octets x y (inl (long, e)) (inr (inr (few, h, c, v, is, p))) = absurd (omega arith)
one_stop octets x y (inr (inl (few, none, e))) (inl (long, f)) = absurd (omega arith)
one_stop octets x y (inr (inl (few, none, e))) (inr (inl (also, others, f))) = e ∙ sym f
one_stop octets x y (inr (inl (few, none, e))) (inr (inr (also, h, c, v, is, p))) = absurd (none h c v is)
one_stop octets x y (inr (inr (few, h, c, v, is, p))) (inl (long, f)) = absurd (omega arith)
one_stop octets x y (inr (inr (few, h, c, v, is, p))) (inr (inl (also, none, f))) = absurd (none h c v is)
one_stop octets x y (inr (inr (few, h, c, v, is, p))) (inr (inr (also, k, d, u, it, q))) =
    let same = one_header (whole octets) h k c d v u is it in
    let StopsAt : HeaderCounts → Window → Type 0 = λ counts w.
    QuestionsStop counts.qdcount (counts.ancount + counts.nscount + counts.arcount) w x in
    one_questions d.qdcount (d.ancount + d.nscount + d.arcount) u x y
    (subst (λ counts. StopsAt counts u) same.1 (subst (StopsAt c) same.2 p)) q
