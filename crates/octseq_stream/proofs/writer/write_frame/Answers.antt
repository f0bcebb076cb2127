use Rattle.std.proofs.Common.{◌≡◌, length, subst, rules}
use Rattle.std.proofs.KnownBytes.{Appends-trans}
use Rattle.std.specs.Io.KnownBytes.{Appends}
use Rattle.octseq.proofs.Written.{written_2}
use Rattle.octseq.specs.Integer.{octets_be}
use Rattle.octseq.specs.Parts.{StartsWith}
use Rattle.octseq_stream.proofs.Writing.{front_of_length, front_of_message}
use Rattle.octseq_stream.proofs.writer.write_frame.Goals as goal

pub returns-clause-ok : goal.returns-clause-ok
returns-clause-ok g c =
    let before = g.W.Write.contents c.args.writer.now in
    let mid = g.W.Write.contents c.write_octets.new.writer in
    let after = g.W.Write.contents c.write_octets-2.new.writer in
    let first : Appends before mid (octets_be 2 (length c.args.octets.now)) = search (rules, written_2) in
    let second : Appends mid after c.args.octets.now = search rules in
    Appends-trans before mid after (octets_be 2 (length c.args.octets.now)) c.args.octets.now first second

pub returns-in_err-write_octets-clause-front : goal.returns-in_err-write_octets-clause-front
returns-in_err-write_octets-clause-front g c =
    let sent = c.write_octets.ensures.front in
    let head : c.to_be_bytes.result ≡ octets_be 2 (length c.args.octets.now) = search (rules, written_2) in
    (sent.0, front_of_length c.args.octets.now sent.0 (subst (StartsWith sent.0) head sent.1), sent.2)

pub returns-in_err-write_octets-2-clause-front : goal.returns-in_err-write_octets-2-clause-front
returns-in_err-write_octets-2-clause-front g c =
    let W = g.W.Write.contents in
    front_of_message (W c.args.writer.now) (W c.write_octets.new.writer) (W c.write_octets-2.new.writer)
    c.args.octets.now (search (rules, written_2)) c.write_octets-2.ensures.front

pub returns-clause-front : goal.returns-clause-front
returns-clause-front g c =
    let W = g.W.Write.contents in
    front_of_message (W c.args.writer.now) (W c.write_octets.new.writer) (W c.write_octets-2.new.writer)
    c.args.octets.now (search (rules, written_2)) c.write_octets-2.ensures.front
