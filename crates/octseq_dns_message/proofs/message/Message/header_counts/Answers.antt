use Rattle.octseq_dns_data.proofs.Rows.{held_count}
use Rattle.octseq_dns_message.proofs.message.Message.header_counts.Goals as goal

pub returns-clause-qdcount : goal.returns-clause-qdcount
returns-clause-qdcount g c = held_count _ _ _ c.args.self.now.asked

pub returns-clause-ancount : goal.returns-clause-ancount
returns-clause-ancount g c = held_count _ _ _ c.args.self.now.answered

pub returns-clause-nscount : goal.returns-clause-nscount
returns-clause-nscount g c = held_count _ _ _ c.args.self.now.authorized

pub returns-clause-arcount : goal.returns-clause-arcount
returns-clause-arcount g c = held_count _ _ _ c.args.self.now.added
