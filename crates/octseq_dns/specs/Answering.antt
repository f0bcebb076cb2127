-- Answers to messages: RFC 1035, 4.1.1.
use Rattle.std.specs.Prelude.{ℕ, true, false, List, [], map}
use Rattle.octseq.specs.declared.AsOctets.{Ghosts}
use Rattle.octseq_dns_message.specs.Entry as entry
use Rattle.octseq_dns_message.specs.Parsed.{header_of, questions_of}
use Rattle.octseq_dns_message.specs.declared.header.Header.{Header}
use Rattle.octseq_dns_message.specs.declared.message.Message.{Message as Parsed}
use Rattle.octseq_dns.specs.Contents.{Message}
use Rattle.octseq_dns.specs.ReadBack.{bare}

-- The header of an answer: the ID, the opcode and the RD flag of the message that it answers, the QR flag, and a
-- response code. No other flag is set.
abbrev pub answer_header : Header → ℕ → Header
answer_header asked rcode = record {
  id = asked.id;
  flags = record {
    qr = true;
    aa = false;
    tc = false;
    rd = asked.flags.rd;
    ra = false;
    z = false;
    ad = false;
    cd = false;
  };
  opcode = asked.opcode;
  rcode = rcode;
}

-- with the questions, and no records yet
abbrev pub answer_with : Header → List entry.Question → ℕ → Message
answer_with asked questions rcode = record {
  header = answer_header asked rcode;
  questions = map bare questions;
  answers = [];
  authorities = [];
  additionals = [];
}

-- an answer to a message that was read, before its records
abbrev pub answer_to : {R : Type 0} {g : Ghosts R} → Parsed R g → ℕ → Message
answer_to message rcode = answer_with (header_of message) (questions_of message) rcode
