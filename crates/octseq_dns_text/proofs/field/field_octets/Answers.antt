use Rattle.octseq_dns_text.proofs.field.field_octets.Goals as goal

pub returns-in-Rtype-clause-none : goal.returns-in-Rtype-clause-none
returns-in-Rtype-clause-none g c = rw c.in-Rtype.is c.rtype_octets.ensures.none

pub returns-in-Time-clause-none : goal.returns-in-Time-clause-none
returns-in-Time-clause-none g c = rw c.in-Time.is c.time_octets.ensures.none

pub returns-in-Name-clause-none : goal.returns-in-Name-clause-none
returns-in-Name-clause-none g c = rw c.in-Name.is c.name_octets.ensures.none

pub returns-in-String-clause-none : goal.returns-in-String-clause-none
returns-in-String-clause-none g c = rw c.in-String.is c.string_octets.ensures.none

pub returns-in-Tag-clause-none : goal.returns-in-Tag-clause-none
returns-in-Tag-clause-none g c = rw c.in-Tag.is c.tag_octets.ensures.none

pub returns-in-Salt-clause-none : goal.returns-in-Salt-clause-none
returns-in-Salt-clause-none g c = rw c.in-Salt.is c.salt_octets.ensures.none

pub returns-in-OwnerHash-clause-none : goal.returns-in-OwnerHash-clause-none
returns-in-OwnerHash-clause-none g c = rw c.in-OwnerHash.is c.hash_octets.ensures.none
