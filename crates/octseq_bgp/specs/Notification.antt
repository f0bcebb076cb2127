-- What the data of a NOTIFICATION says: RFC 9003, 2.
use Rattle.std.specs.Prelude.{◌≡◌, ℕ, ◌⊎◌}
use Rattle.octseq.specs.Window.{Window}
use Rattle.octseq_format.specs.Counted.{Counted}
use Rattle.octseq_format.specs.Text.{IsText}
use Rattle.octseq_bgp.specs.Fills.{Whole}

-- What the data says: why the session ends, as text, or opaque octets.
pub data NotificationData : Type 0 where
  shutdown : Window → NotificationData
  opaque : Window → NotificationData

-- the codes of an administrative shutdown and an administrative reset
abbrev pub IsShutdown : ℕ → ℕ → Type 0
IsShutdown code subcode = (code ≡ 6) × ((subcode ≡ 2) ⊎ (subcode ≡ 4))

-- the data is a length and that many octets of UTF-8, up to its end
abbrev pub IsCommunication : ℕ → ℕ → Window → Window → Type 0
IsCommunication code subcode w text = IsShutdown code subcode × Whole (Counted 1 0 IsText) w text

-- what the data says
abbrev pub IsNotificationData : ℕ → ℕ → Window → NotificationData → Type 0
IsNotificationData code subcode w (NotificationData.shutdown text) = IsCommunication code subcode w text
IsNotificationData code subcode w (NotificationData.opaque octets) =
    (octets ≡ w) × ((text : Window) → ¬ IsCommunication code subcode w text)
