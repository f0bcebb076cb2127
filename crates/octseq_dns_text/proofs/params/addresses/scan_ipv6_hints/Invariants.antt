-- The items so far are addresses.
use Rattle.std.proofs.Common.{◌≡◌, ℕ, List, length}
use Rattle.std.specs.List.{concat}
use Rattle.octseq_dns_scan.specs.Address.{IsIpv6Word}
use Rattle.octseq_dns_text.specs.ParamText.{IsAddressText}
use Rattle.octseq_dns_text.proofs.Items.{ReadsItems}
use Rattle.octseq_dns_text.proofs.params.addresses.scan_ipv6_hints.Given as goal

abbrev pub invariant-hints : goal.invariant-hints
invariant-hints l = record {
  addresses : List (List ℕ);
  reads : ReadsItems (IsAddressText IsIpv6Word 16) l.fn.said l.list addresses;
  octets : l.value.items ≡ concat addresses;
}

abbrev pub decreases-hints : goal.decreases-hints
decreases-hints l = length l.list
