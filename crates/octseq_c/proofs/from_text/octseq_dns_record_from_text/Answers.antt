use Rattle.std.proofs.Common.{List, ℕ, None, Err, ◌++◌, length, refl, ap, sym, ◌∙◌, subst, arith}
use Rattle.octseq_dns_compose.specs.Read.{head_of}
use Rattle.octseq_dns_compose.specs.RecordText.{IsRecordText}
use Rattle.octseq_dns_scan.specs.Word.{AreWords}
use Rattle.octseq_c.proofs.Puts.{puts_copies, puts_none}
use Rattle.octseq_c.proofs.TextRecords.{one_record_wire}
use Rattle.octseq_c.proofs.from_text.octseq_dns_record_from_text.Goals as goal

pub returns-in-Ok-clause-puts : goal.returns-in-Ok-clause-puts
returns-in-Ok-clause-puts c =
    let (all, octets, are, is, content) = c.in-Ok.ensures.ok in
    let head = head_of c.in-Ok.head in
    let made = c.as_slice.result.now in
    let same = c.as_slice.ensures.content ∙ content ∙ ap (λ made. made.content ++ octets) c.new-octets.ensures in
    puts_copies (one_record_wire c.args.text.now) _ (record {
      words = all;
      head = head;
      data_octets = made;
      are = subst (AreWords all) c.new.ensures.ahead are;
      is = subst (IsRecordText None head all) (sym same) is;
      fits = omega (arith, c.as_slice.ensures.size, ap (λ (made : List ℕ). length made) c.as_slice.ensures.content);
      made_is = refl;
    }) c.put_record.ensures

pub returns-in-Err-Malformed-clause-puts : goal.returns-in-Err-Malformed-clause-puts
returns-in-Err-Malformed-clause-puts c = puts_none 2 (omega arith) (one_record_wire c.args.text.now)

pub returns-in-Err-Short-clause-puts : goal.returns-in-Err-Short-clause-puts
returns-in-Err-Short-clause-puts c = puts_none 5 (omega arith) (one_record_wire c.args.text.now)

pub returns-in-Err-Short-clause-too_long : goal.returns-in-Err-Short-clause-too_long
returns-in-Err-Short-clause-too_long c = λ e.
    let (words, octets, are, is, past) = c.in-Err-Short.ensures.short (ap Err c.in-Err-Short.field-0-is) in
    let none = ap (λ (made : List ℕ). length made) (ap (λ made. made.content) c.new-octets.ensures) in
    record {
      words = words;
      data_octets = octets;
      are = subst (AreWords words) c.new.ensures.ahead are;
      is = is;
      long = omega (arith, past, none);
    }

pub returns-in-Err-Memory-clause-puts : goal.returns-in-Err-Memory-clause-puts
returns-in-Err-Memory-clause-puts c = puts_none 9 (omega arith) (one_record_wire c.args.text.now)
