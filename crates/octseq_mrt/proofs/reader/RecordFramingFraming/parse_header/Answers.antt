use Rattle.std.proofs.Common.{◌≡◌, ◌++◌, refl, ap, arith}
use Rattle.std.proofs.lemmas.List.{length-append}
use Rattle.octseq.specs.Integer.{be}
use Rattle.octseq_mrt.specs.OneFrame.{whole_record}
use Rattle.octseq_mrt.specs.Records.{record_length}
use Rattle.octseq_stream.proofs.Headers.{range_in_front}
use Rattle.octseq_mrt.proofs.reader.RecordFramingFraming.parse_header.Goals as goal

-- a header, and as many octets as it says, are a record
pub returns-clause-header : goal.returns-clause-header
returns-clause-header c =
    let header = c.args.octets.now in
    let may = c.requires in
    let there = c.if-octets-lt-HEADER.false in
    let says = c.length_of.ensures in
    record {
      long = omega (arith, may, there);
      fits = λ octets all.
          let both = length-append header octets in
          let kept : record_length (header ++ octets) ≡ record_length header =
          ap be (range_in_front header octets 8 12 (omega arith) (omega (arith, may, there))) in
          whole_record (header ++ octets) (omega (arith, may, there, says, all, both, kept));
      whole = λ _ _. refl;
    }
