-- What contracts see of a `CowOctets`.
use Rattle.std.specs.Prelude.{ℕ, Bool, true, false, List}
use Rattle.octseq_core.specs.declared.cow.CowOctets.{CowOctets}
use Rattle.octseq_core.specs.declared.cow.CowOctets.TheVariants.{Borrowed, Owned}

-- the octets, borrowed or owned
abbrev pub cow_content : CowOctets → List ℕ
cow_content (Borrowed slice alloc) = slice.now
cow_content (Owned vec) = vec.items

-- whether they are borrowed
abbrev pub is_borrowed : CowOctets → Bool
is_borrowed (Borrowed slice alloc) = true
is_borrowed (Owned vec) = false
