-- This many labels have their offsets, and the others are left.
use Rattle.std.proofs.Common.{◌≡◌, ◌≤◌, ◌*◌, ◌+◌, ◌++◌, length, take}
use Rattle.octseq_dns_name.specs.Name.{wire_length}
use Rattle.octseq_dns_name.specs.NextLabel.{ahead_of}
use Rattle.octseq_dns_name.specs.Read.{labels_left, labels_of, place_of}
use Rattle.octseq_dns_compress.specs.LabelOffsets.{AreWhole, labels_at}
use Rattle.octseq_dns_compress.proofs.plain.place_labels.Given as goal

abbrev pub invariant-places : goal.invariant-places
invariant-places g l = record {
  few : 2 * l.count + wire_length (labels_left l.label-iterator) ≤ wire_length (labels_of l.name);
  summed : l.len + wire_length (labels_left l.label-iterator) ≡ wire_length (labels_of l.name);
  most : l.len ≤ 64 * l.count;
  within : l.count ≤ g.row.N;
  room : length l.starts ≡ g.row.N;
  same : (ahead_of l.label-iterator).octets ≡ (place_of l.name).octets;
  end : (ahead_of l.label-iterator).end ≡ (place_of l.name).end;
  whole : AreWhole (place_of l.name).octets (take l.count l.starts);
  are : labels_at (place_of l.name).octets (take l.count l.starts) ++ labels_left l.label-iterator
      ≡ labels_of l.name;
}
