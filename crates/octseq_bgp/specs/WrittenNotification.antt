-- A NOTIFICATION to be written: RFC 4271, 4.5, and RFC 9003 for shutdown communications.
use Rattle.std.specs.Prelude.{ℕ, List, ◌∷◌, ◌++◌, length, drop, slice_index}
use Rattle.octseq_bgp.specs.Composed.{message_octets}
use Rattle.octseq.specs.Window.{Window, rest}
use Rattle.octseq_bgp.specs.WrittenMessage.{IsWrittenMessage}

-- A code, a subcode and data.
pub record WrittenNotification : Type 0 where
  pub code : ℕ
  pub subcode : ℕ
  pub «data» : List ℕ

abbrev pub notification_octets : WrittenNotification → List ℕ
notification_octets n = message_octets 3 (n.code ∷ n.subcode ∷ n.«data»)

-- with more data
abbrev pub notification_with_data : WrittenNotification → List ℕ → WrittenNotification
notification_with_data n octets = record n { «data» = n.«data» ++ octets }

-- a text after its length: RFC 9003, 2
abbrev pub communication_octets : List ℕ → List ℕ
communication_octets text = length text ∷ text

-- the NOTIFICATION that octets are
abbrev pub notification_in : List ℕ → WrittenNotification
notification_in octets = record {
  code = slice_index octets 19;
  subcode = slice_index octets 20;
  «data» = drop 21 octets;
}

abbrev pub IsNotificationWritten : ℕ → List ℕ → Type 0
IsNotificationWritten = IsWrittenMessage notification_octets (λ _. Unit {0}) notification_in

-- what a NOTIFICATION that was read says
abbrev pub notification_says : ℕ × (ℕ × Window) → WrittenNotification
notification_says it = record { code = it.0; subcode = it.1.0; «data» = rest it.1.1 }
