-- What the text of data consists of: RFC 1035, 5.1.
use Rattle.std.specs.Prelude.{List}
use Rattle.octseq_dns_data.specs.declared.layout.Field.{Field}
use Rattle.octseq_dns_data.specs.declared.layout.Tail.{Tail}

-- Fields, each of them one word, and what comes after them.
pub record TextLayout : Type 0 where
  pub fields : List Field
  pub tail : Tail

abbrev pub layout_value : List Field → Tail → TextLayout
layout_value fields tail = record { fields = fields; tail = tail }
