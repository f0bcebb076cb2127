use Rattle.std.proofs.Common.{◌≡◌, [], codes, sym, subst, rules}
use Rattle.octseq_dns_scan.specs.Word.{TakesWord}
use Rattle.octseq_dns_scan.specs.Words.{ahead_of}
use Rattle.octseq_dns_compose.specs.Take.{IsUpTo}
use Rattle.octseq_dns_compose.proofs.Faults.{at_front, kept_fault, reached_fault}
use Rattle.octseq_dns_compose.proofs.HeaderLines.{AfterRcode, Any}
use Rattle.octseq_dns_compose.proofs.HeaderLines.{fault_after_flags, fault_at_flags, id_fault, line_words, opcode_fault}
use Rattle.octseq_dns_compose.proofs.HeaderLines.{past_field, past_id, past_opcode, past_rcode, rcode_fault}
use Rattle.octseq_dns_compose.proofs.header.scan_header.Goals as goal

pub returns-in_default : goal.returns-in_default
returns-in_default c = record {
  some = tt;
  none = λ _. id_fault c.in_default.ensures.end (c.in_default.ensures.taken.none (search rules));
}

pub returns-in_default-take_field : goal.returns-in_default-take_field
returns-in_default-take_field c =
    let one = past_field past_id at_front c.in-Some.ensures.taken.some c.in-Some.ensures.end in
    record {
      some = tt;
      none = λ _. reached_fault one
          (opcode_fault c.in_default-take_field.ensures.end
          (c.in_default-take_field.ensures.taken.none (search rules)));
    }

pub returns-in_default-take_field-2 : goal.returns-in_default-take_field-2
returns-in_default-take_field-2 c =
    let one = past_field past_id at_front c.in-Some.ensures.taken.some c.in-Some.ensures.end in
    let second = c.in-Some-take_field.ensures in
    let two = past_field past_opcode one second.taken.some second.end in
    record {
      some = tt;
      none = λ _. reached_fault two
          (rcode_fault c.in_default-take_field-2.ensures.end
          (c.in_default-take_field-2.ensures.taken.none (search rules)));
    }

pub returns-then-not-take_word : goal.returns-then-not-take_word
returns-then-not-take_word c =
    let one = past_field past_id at_front c.in-Some.ensures.taken.some c.in-Some.ensures.end in
    let second = c.in-Some-take_field.ensures in
    let two = past_field past_opcode one second.taken.some second.end in
    let third = c.in-Some-take_field-2.ensures in
    let three = past_field past_rcode two third.taken.some third.end in
    let none = c.if-not-take_word.ensures.taken in
    record {
      some = tt;
      none = λ _. reached_fault three
          (kept_fault (Any AfterRcode) _ _ _ _ none.0 c.if-not-take_word.ensures.end (fault_at_flags _ _ none.1));
    }

pub returns-then-not-is_at_end : goal.returns-then-not-is_at_end
returns-then-not-is_at_end c =
    let one = past_field past_id at_front c.in-Some.ensures.taken.some c.in-Some.ensures.end in
    let second = c.in-Some-take_field.ensures in
    let two = past_field past_opcode one second.taken.some second.end in
    let third = c.in-Some-take_field-2.ensures in
    let three = past_field past_rcode two third.taken.some third.end in
    let word : TakesWord (codes "flags") (ahead_of c.take_field-3.new.words) (ahead_of c.take_word.new.words) =
    c.if-not-take_word.ensures.taken in
    let flags = c.take_flags-flags.ensures.taken in
    let some : ¬ (ahead_of c.take_flags-flags.new.words ≡ []) = search rules in
    record {
      some = tt;
      none = λ _. reached_fault three
          (fault_after_flags _ _ _ flags.0 _ _ _ word c.if-not-take_word.ensures.end flags.1
          c.take_flags-flags.ensures.end some);
    }

pub returns : goal.returns
returns c =
    let id = c.in-Some.ensures.taken.some in
    let opcode = c.in-Some-take_field.ensures.taken.some in
    let rcode = c.in-Some-take_field-2.ensures.taken.some in
    let word : TakesWord (codes "flags") (ahead_of c.take_field-3.new.words) (ahead_of c.take_word.new.words) =
    c.if-not-take_word.ensures.taken in
    let flags = c.take_flags-flags.ensures.taken in
    let over : ahead_of c.take_flags-flags.new.words ≡ [] = search rules in
    record {
      some = line_words (ahead_of c.args.words.now) id.0 (ahead_of c.take_field.new.words) opcode.0
          (ahead_of c.take_field-2.new.words) rcode.0 (ahead_of c.take_field-3.new.words)
          (ahead_of c.take_word.new.words) (ahead_of c.take_flags-flags.new.words) id.1 opcode.1 rcode.1 flags.0
          (record {
            id = c.in-Some.id;
            flags = c.take_flags-flags.result;
            opcode = c.from_int.result;
            rcode = c.from_int-2.result;
          })
          id.2 id.3 id.4 opcode.2 opcode.3
          (subst (λ n. IsUpTo 15 n opcode.1) (sym c.from_int.ensures) opcode.4) rcode.2 rcode.3
          (subst (λ n. IsUpTo 15 n rcode.1) (sym c.from_int-2.ensures) rcode.4) word flags.1 over flags.2;
      none = λ is. absurd (search rules);
    }
