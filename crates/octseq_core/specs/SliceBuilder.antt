-- What contracts see of a `SliceBuilder`.
use Rattle.std.specs.Prelude.{ℕ, List, take}
use Rattle.std.specs.Borrow.{GName}
use Rattle.octseq_core.specs.declared.slice_builder.Room.{Ghosts}
use Rattle.octseq_core.specs.declared.slice_builder.SliceBuilder.{SliceBuilder}

module _ {K : Type 0} {g : Ghosts K} where
  -- all octets of the slice; the content is at the front
  abbrev pub slice_octets : SliceBuilder K g → List ℕ
  slice_octets b = b.octets.now

  -- the content
  abbrev pub slice_content : SliceBuilder K g → List ℕ
  slice_content b = take b.len b.octets.now

  -- the name of the borrow of the slice
  abbrev pub lender : SliceBuilder K g → GName
  lender b = b.octets.ghost_name
