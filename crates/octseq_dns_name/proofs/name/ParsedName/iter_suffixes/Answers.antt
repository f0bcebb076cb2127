use Rattle.octseq_dns_name.specs.Read.{labels_of, place_of}
use Rattle.octseq_dns_name.proofs.Names.{ahead_of_name}
use Rattle.octseq_dns_name.proofs.Parents.{few_suffixes}
use Rattle.octseq_dns_name.proofs.name.ParsedName.iter_suffixes.Goals as goal

pub returns-clause-most : goal.returns-clause-most
returns-clause-most g c =
    let name = c.args.self.now in
    few_suffixes (labels_of name) c.a_name_has_labels.ensures.labels (ahead_of_name (place_of name) name.named).1
