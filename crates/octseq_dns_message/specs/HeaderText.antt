-- The text of headers and questions.
use Rattle.std.specs.Prelude.{ℕ, Bool, true, false, List, [], ◌∷◌, ◌++◌, codes}
use Rattle.std.specs.Fmt.{decimal}
use Rattle.octseq_dns_message.specs.Entry.{Question}
use Rattle.octseq_dns_data.specs.Mnemonic.{class_text, rtype_text}
use Rattle.octseq_dns_name.specs.Text.{name_text}
use Rattle.octseq_dns_message.specs.declared.header.Flags.{Flags}
use Rattle.octseq_dns_message.specs.declared.header.Header.{Header}

-- a flag that is set, after a space (32)
abbrev pub flag_text : Bool → List ℕ → List ℕ
flag_text true name = 32 ∷ name
flag_text false name = []

-- the flags that are set, from the highest bit to the lowest; the reserved bit isn't shown
abbrev pub flags_text : Flags → List ℕ
flags_text flags = flag_text flags.qr (codes "QR") ++ flag_text flags.aa (codes "AA") ++ flag_text flags.tc (codes "TC")
    ++ flag_text flags.rd (codes "RD") ++ flag_text flags.ra (codes "RA") ++ flag_text flags.ad (codes "AD")
    ++ flag_text flags.cd (codes "CD")

-- the identifier, the opcode, the response code, and the flags
abbrev pub header_text : Header → List ℕ
header_text h = codes "id " ++ decimal h.id ++ codes " opcode " ++ decimal h.opcode ++ codes " rcode "
    ++ decimal h.rcode
    ++ codes " flags" ++ flags_text h.flags

-- a name, a class and a type
abbrev pub question_text : Question → List ℕ
question_text q = name_text q.qname.labels ++ 32 ∷ class_text q.qclass ++ 32 ∷ rtype_text q.qtype
