use Rattle.std.specs.Prelude.{refl}
use Rattle.std.proofs.lemmas.Iterator.Consumers.{map_from_collect, YieldsList-from_first}
use Rattle.octseq_dns_message.specs.Said.{record_of}
use Rattle.octseq_dns_message.specs.Walk.{records_left}
use Rattle.octseq_dns_message.proofs.message.collect.collect_records.Goals as goal

pub returns : goal.returns
returns g c =
    map_from_collect c.collect.result c.collect.ensures.ran (YieldsList-from_first record_of records_left _ refl)
