-- What contracts see of octets that have a form: the window of them.
use Rattle.octseq.specs.declared.AsOctets.{Ghosts}
use Rattle.octseq.specs.Parser.{window}
use Rattle.octseq.specs.Window.{Window}
use Rattle.octseq_dns_data.specs.declared.data.some_octets.CaaTag.{CaaTag}
use Rattle.octseq_dns_data.specs.declared.data.some_octets.OwnerHash.{OwnerHash}
use Rattle.octseq_dns_data.specs.declared.data.some_octets.SomeOctets.{SomeOctets}

abbrev pub some_place : {R : Type 0} {g : Ghosts R} → SomeOctets R g → Window
some_place some = window some.parser

abbrev pub hash_place : {R : Type 0} {g : Ghosts R} → OwnerHash R g → Window
hash_place hash = window hash.parser

abbrev pub tag_place : {R : Type 0} {g : Ghosts R} → CaaTag R g → Window
tag_place tag = window tag.parser
