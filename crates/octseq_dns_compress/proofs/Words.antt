-- The names of the specs that most proofs cite, passed on from one place.
pub use Rattle.octseq_dns_compress.specs.TableMatches.{TableMatches, HasTarget, IsOfName, name_offset, target_of}
pub use Rattle.octseq_dns_compress.specs.Apart.{AreTargetsApart, IsApart}
pub use Rattle.octseq_dns_compress.specs.Composed.{Composed, Composes, before}
pub use Rattle.octseq_dns_compress.specs.SuffixMatch.{IsSuffixAt, IsSuffixMatch}
pub use Rattle.octseq_dns_compress.specs.Fields.{AreFields}
pub use Rattle.octseq_dns_compress.specs.Fits.{FitsField, NameFits}
pub use Rattle.octseq_dns_compress.specs.FoundNames.{alike_there, get_new, get_other, labels_total, none_found}
pub use Rattle.octseq_dns_compress.specs.FoundNames.{place_there, put_cases, some_or_none}
pub use Rattle.octseq_dns_compress.specs.Key.{AreTargets, HasKeyAt, HasNoKey, IsPosition, IsWholeLabel, key, key_cmp}
pub use Rattle.octseq_dns_compress.specs.Key.{key_of, with_digest}
unfoldable pub use Rattle.octseq_dns_compress.specs.Key.{digest_of, label_at}
pub use Rattle.octseq_dns_compress.specs.NamesOf.{NamesOf, found, missing, name_key}
pub use Rattle.octseq_dns_compress.specs.LabelsThere.{AreAt, AreNamed, IsWellNamed}
pub use Rattle.octseq_dns_compress.specs.Named.{AppendsName}
pub use Rattle.octseq_dns_compress.specs.Names.{Names, Place, at_or_zero, ended, first_labels, is_kept, is_there}
pub use Rattle.octseq_dns_compress.specs.Names.{label_no, labels_cmp, last_place, name_octets, names_with}
pub use Rattle.octseq_dns_compress.specs.Names.{pointers_from, prefixed, labels_wire, with_labels}
pub use Rattle.octseq_dns_compress.specs.LabelOffsets.{AreWhole, label_of, labels_at}
pub use Rattle.octseq_dns_compress.specs.PlainNames.{plain_labels}
pub use Rattle.octseq_dns_compress.specs.Sound.{IsSoundMessage, MessageWithTargets, composed_of, message_once, state_of}
pub use Rattle.octseq_dns_compress.specs.State.{Entry, Field, State, with_counted, with_data, with_entries, with_entry}
pub use Rattle.octseq_dns_compress.specs.State.{with_field, with_fields, with_header, with_name, with_octets}
pub use Rattle.octseq_dns_compress.specs.Written.{AreLabelsWritten}
pub use Rattle.octseq_dns_compress.specs.declared.search.SuffixMatch.{SuffixMatch}
pub use Rattle.octseq_dns_compress.specs.declared.table.Target.{Target}
