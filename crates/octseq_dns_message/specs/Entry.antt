-- The entries of a message: questions (RFC 1035, 4.1.2) and records (RFC 1035, 4.1.3). A TTL is unsigned: RFC 2181, 8.
use Rattle.std.specs.Prelude.{ℕ}
use Rattle.octseq.specs.Window.{Window}
use Rattle.octseq_dns_data.specs.Format.{IsNumber, IsData}
use Rattle.octseq_dns_name.specs.Name.{Name, HasName}
use Rattle.octseq_format.specs.Pair.{◌then◌}

-- A question: the name, the type and the class that are asked for.
pub record Question : Type 0 where
  pub qname : Name
  pub qtype : ℕ
  pub qclass : ℕ

-- what follows the name of a question: a type and a class
abbrev pub IsAfterName : Window → ℕ × ℕ → Window → Type 0
IsAfterName = IsNumber 2 then IsNumber 2

-- a name, followed by that
abbrev pub IsQuestion : Window → Question → Window → Type 0
IsQuestion w q v = (HasName then IsAfterName) w (q.qname, (q.qtype, q.qclass)) v

-- A record: its owner, type, class and TTL, and the window of its data in the message.
pub record Record : Type 0 where
  pub owner : Name
  pub rtype : ℕ
  pub class : ℕ
  pub ttl : ℕ
  pub rdata : Window

-- what follows the owner of a record: a type, a class, a TTL, and data after its length
abbrev pub IsAfterOwner : Window → ℕ × (ℕ × (ℕ × Window)) → Window → Type 0
IsAfterOwner = IsNumber 2 then IsNumber 2 then IsNumber 4 then IsData

-- a name, followed by that
abbrev pub IsRecord : Window → Record → Window → Type 0
IsRecord w r v = (HasName then IsAfterOwner) w (r.owner, (r.rtype, (r.class, (r.ttl, r.rdata)))) v
