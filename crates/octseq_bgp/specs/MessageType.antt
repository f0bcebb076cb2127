-- The numbers of the types of messages: RFC 4271, 4.1, and RFC 2918, 3. And what each message begins with.
use Rattle.std.specs.Prelude.{ℕ, ◌^◌, ◌-◌}

abbrev pub opens : ℕ
opens = 1

abbrev pub update : ℕ
update = 2

abbrev pub notification : ℕ
notification = 3

abbrev pub keepalive : ℕ
keepalive = 4

abbrev pub route_refresh : ℕ
route_refresh = 5

-- the marker, 16 octets of 255, as a number
abbrev pub marker : ℕ
marker = 256 ^ 16 - 1
