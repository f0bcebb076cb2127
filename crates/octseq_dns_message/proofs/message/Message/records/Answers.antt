use Rattle.octseq.specs.Parser.{window}
use Rattle.octseq.specs.Window.{at, whole}
use Rattle.octseq_dns_message.proofs.InSections.{all_held_at, all_listed_at}
use Rattle.octseq_dns_message.proofs.message.Message.records.Goals as goal

pub invariant_of-result : goal.invariant_of-result
invariant_of-result g c =
    let self = c.args.self.now in
    let all = whole (g.R.AsOctets.content self.octets) in
    record {
      ahead = all_held_at self.header.counts (at self.answers all) (at self.authorities all) (at self.additionals all)
          self.answered self.authorized self.added self.past_answers self.past_authorities
          (window c.parser_at-parser.result) c.parser_at-parser.ensures;
    }

pub returns-clause-sections : goal.returns-clause-sections
returns-clause-sections g c =
    let self = c.args.self.now in
    let all = whole (g.R.AsOctets.content self.octets) in
    (all_listed_at self.header.counts (at self.answers all) (at self.authorities all) (at self.additionals all)
    self.answered self.authorized self.added self.past_answers self.past_authorities
    (window c.parser_at-parser.result) c.parser_at-parser.ensures c.result-1.given.0).0

pub returns-clause-records : goal.returns-clause-records
returns-clause-records g c =
    let self = c.args.self.now in
    let all = whole (g.R.AsOctets.content self.octets) in
    (all_listed_at self.header.counts (at self.answers all) (at self.authorities all) (at self.additionals all)
    self.answered self.authorized self.added self.past_answers self.past_authorities
    (window c.parser_at-parser.result) c.parser_at-parser.ensures c.result-1.given.0).1
