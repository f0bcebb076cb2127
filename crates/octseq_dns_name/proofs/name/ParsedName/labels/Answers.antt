use Rattle.octseq_dns_name.proofs.name.ParsedName.labels.Goals as goal

pub returns : goal.returns
returns g c = record { labels = c.at.ensures.labels c.args.self.now.named; ahead = c.at.ensures.ahead }
