-- The options so far are appended, and the others are left.
use Rattle.std.proofs.Common.{◌≡◌, drop}
use Rattle.octseq_dns_compress.specs.State.{with_octets}
use Rattle.octseq_dns.specs.OptWritten.{options_octets}
use Rattle.octseq_dns.proofs.edns.append_options.Given as goal

abbrev pub invariant-loop-option : goal.invariant-loop-option
invariant-loop-option g l = record {
  ahead : with_octets l.message.state (options_octets (drop l.option-index l.options))
      ≡ with_octets l.fn.message.state (options_octets l.options);
  begun : l.message.begun ≡ l.fn.message.begun;
  data_start : l.message.data_start ≡ l.fn.message.data_start;
  borrows : g.B.AsOctets.borrows l.message.octets ≡ g.B.AsOctets.borrows l.fn.message.octets;
}
