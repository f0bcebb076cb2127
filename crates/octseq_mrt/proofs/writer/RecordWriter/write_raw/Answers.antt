use Rattle.std.proofs.Common.{◌≡◌, ℕ, List, ◌++◌, Option, rules, sym, ap, ◌∙◌, append_assoc}
use Rattle.std.proofs.KnownBytes.{Appends-trans}
use Rattle.std.specs.Io.KnownBytes.{Appends}
use Rattle.octseq.proofs.Fronts.{front_then}
use Rattle.octseq.specs.Parts.{StartsWith}
use Rattle.octseq_mrt.specs.RecordWriter.{writer_of}
use Rattle.octseq_mrt.proofs.writer.RecordWriter.write_raw.Goals as goal

-- a front of what follows the first octets, after them
front_of_second : (before mid after : Option (List ℕ)) (whole first second : List ℕ) → whole ≡ first ++ second
    → Appends before mid first → ((front : List ℕ) × StartsWith front second × Appends mid after front)
    → (front : List ℕ) × StartsWith front whole × Appends before after front
front_of_second before mid after whole first second split one (front, (rest, e), two) = (
  first ++ front,
  (rest, split ∙ ap (λ o. first ++ o) e ∙ sym (append_assoc first front rest)),
  Appends-trans before mid after first front one two,
)

pub returns-in_err-write_octets-clause-front : goal.returns-in_err-write_octets-clause-front
returns-in_err-write_octets-clause-front g c =
    let sent = c.write_octets.ensures.front in
    let whole = c.header_octets-header.ensures c.args.octets.now (search rules) in
    (sent.0, front_then sent.0 _ _ sent.1 (c.args.octets.now, whole), sent.2)

pub returns-in_err-write_octets-2-clause-front : goal.returns-in_err-write_octets-2-clause-front
returns-in_err-write_octets-2-clause-front g c =
    let W = g.W.Write.contents in
    front_of_second (W (writer_of c.args.self.now)) (W c.write_octets.new.writer) (W c.write_octets-2.new.writer) _
    c.header_octets-header.result c.args.octets.now (c.header_octets-header.ensures c.args.octets.now (search rules))
    (search rules) c.write_octets-2.ensures.front

pub returns-clause-front : goal.returns-clause-front
returns-clause-front g c =
    let W = g.W.Write.contents in
    front_of_second (W (writer_of c.args.self.now)) (W c.write_octets.new.writer) (W c.write_octets-2.new.writer) _
    c.header_octets-header.result c.args.octets.now (c.header_octets-header.ensures c.args.octets.now (search rules))
    (search rules) c.write_octets-2.ensures.front
