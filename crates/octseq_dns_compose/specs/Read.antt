-- What contracts see of the head of a record, and of an origin.
use Rattle.octseq_dns_name.specs.Owned.{owned_labels}
use Rattle.octseq_dns_compose.specs.RecordText.{Head}
use Rattle.octseq_dns_compose.specs.declared.record.RecordHead.{RecordHead}

abbrev pub head_of : RecordHead → Head
head_of head = record { labels = owned_labels head.owner; ttl = head.ttl; class = head.class; rtype = head.rtype }
