-- Whatever is made of the rows, a message so far becomes it by what is made of those that are left.
use Rattle.std.proofs.Common.{◌≡◌, ◌+◌, ◌≤◌, List, None, drop, length}
use Rattle.std.specs.List.{AllByRecursion, AllZip}
use Rattle.octseq_dns.specs.Contents.{Message, Record}
use Rattle.octseq_dns.specs.Writes.{ComposesMessage}
use Rattle.octseq_c.specs.Made.{IsRecordAt, IsRow, in_section, offsets_kept}
use Rattle.octseq_c.proofs.RowsPushed.{Left}
use Rattle.octseq_c.proofs.answer.push_rows.Given as goal

abbrev pub invariant-loop-row : goal.invariant-loop-row
invariant-loop-row g l = record {
  left : (m : Message) (written : List Record)
      → ComposesMessage offsets_kept m l.fn.builder.state l.fn.builder.header l.fn.builder.counts
      → AllZip (IsRecordAt l.source) (in_section l.section l.rows) written
      → Left l.source g.S.RecordSection.more m written (in_section l.section (drop l.row-index l.rows))
      l.message.state l.message.header l.message.counts (length l.fn.builder.state.octets);
  records : (rest : List Record)
      → AllZip (IsRecordAt l.source) (in_section l.section (drop l.row-index l.rows)) rest
      → (written : List Record) × AllZip (IsRecordAt l.source) (in_section l.section l.rows) written;
  rows : AllByRecursion (IsRow l.source) (drop l.row-index l.rows);
  unlimited : l.message.push_limit ≡ None;
  room : g.S.RecordSection.count l.message.counts
      ≤ g.S.RecordSection.count l.fn.builder.counts + l.row-index;
}
