-- What holds of a message that is being composed.
use Rattle.std.specs.Prelude.{ℕ, ◌≤◌, List, length, take}
use Rattle.std.specs.Coded.{le_prop}
use Rattle.octseq_dns_compress.specs.Apart.{AreTargetsApart, apart_once}
use Rattle.octseq_dns_compress.specs.Composed.{Composed, before}
use Rattle.octseq_dns_compress.specs.NamesOf.{NamesOf, known_once}
use Rattle.octseq_dns_compress.specs.State.{State}
use Rattle.octseq_dns_compress.specs.declared.table.Target.{Target}

-- A message with a header, and its targets: at most `most`, which are those of names.
pub record MessageWithTargets (most : ℕ) (octets : List ℕ) (held : List Target) : Type 0 where
  pub known : NamesOf octets held
  pub few : length held ≤ most
  pub headed : 12 ≤ length octets
  pub short : length octets ≤ 65535

-- its octets and names
abbrev pub state_of : {most : ℕ} {octets : List ℕ} {held : List Target} → MessageWithTargets most octets held → State
state_of {octets = octets} message = record { octets = octets; names = message.known.0 }

-- A message in which an entry begins at one offset, and data at another: what is before the entry is a message too, and
-- no label is in the two octets before the data.
pub record IsSoundMessage (most : ℕ) (octets : List ℕ) (held : List Target) (entry_start data_start : ℕ) : Type 0 where
  pub now : MessageWithTargets most octets held
  pub begun : MessageWithTargets most (take entry_start octets) (before entry_start held)
  pub within : entry_start ≤ length octets
  pub data_within : data_start ≤ length octets
  pub apart : AreTargetsApart octets data_start held

-- what contracts see of it
abbrev pub composed_of : {B T : Type 0} {most : ℕ} {octets : List ℕ} {held : List Target} {entry_start data_start : ℕ}
    → B → T → IsSoundMessage most octets held entry_start data_start → Composed B T
composed_of {data_start = data_start} builder table sound = record {
  octets = builder;
  table = table;
  state = state_of sound.now;
  begun = state_of sound.begun;
  data_start = data_start;
}

-- ---- lemmas: proved below this line, so what the words mean is read above it

-- these are facts
pub message_once : (most : ℕ) (octets : List ℕ) (held : List Target) → IsProp (MessageWithTargets most octets held)
message_once most octets held a b i = record {
  known = known_once octets held a.known b.known i;
  few = le_prop a.few b.few i;
  headed = le_prop a.headed b.headed i;
  short = le_prop a.short b.short i;
}

pub sound_once : (most : ℕ) (octets : List ℕ) (held : List Target) (entry_start data_start : ℕ)
    → IsProp (IsSoundMessage most octets held entry_start data_start)
sound_once most octets held entry_start data_start a b i = record {
  now = message_once most octets held a.now b.now i;
  begun = message_once most (take entry_start octets) (before entry_start held) a.begun b.begun i;
  within = le_prop a.within b.within i;
  data_within = le_prop a.data_within b.data_within i;
  apart = apart_once octets data_start held a.apart b.apart i;
}
