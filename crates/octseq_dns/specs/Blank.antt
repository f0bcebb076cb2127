-- A message of zeros: a header in which nothing is set, and no entries.
use Rattle.std.specs.Prelude.{false, []}
use Rattle.octseq_dns_message.specs.declared.header.Header.{Header}
use Rattle.octseq_dns.specs.Contents.{Message}

abbrev pub blank_header : Header
blank_header = record {
  id = 0;
  flags = record { qr = false; aa = false; tc = false; rd = false; ra = false; z = false; ad = false; cd = false };
  opcode = 0;
  rcode = 0;
}

-- a message at its start
abbrev pub blank_message : Message
blank_message =
    record { header = blank_header; questions = []; answers = []; authorities = []; additionals = [] }
