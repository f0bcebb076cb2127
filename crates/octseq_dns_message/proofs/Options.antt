-- Options, as a format finds them: a number, and octets after their length.
use Rattle.std.proofs.Common.{◌≡◌, ℕ, ◌≤◌, List, map, arith}
use Rattle.octseq.specs.Window.{Window}
use Rattle.octseq_dns_data.specs.Format.{IsNumber}
use Rattle.octseq_dns_data.specs.OneRow.{row_end}
use Rattle.octseq_dns_message.specs.OneOption.{option_from, option_item, option_parts}
use Rattle.octseq_dns_message.specs.Opt.{EdnsOption, HasOption}
use Rattle.octseq_format.specs.Counted.{Counted}
use Rattle.octseq_format.specs.Laws.{Relation, NoneAt}
use Rattle.octseq_format.specs.Pair.{◌then◌}
use Rattle.octseq_format.specs.Rest.{IsRest}
use Rattle.octseq_format.specs.Row.{Row, RowTo, Moved}
use Rattle.octseq_format.proofs.Parts.{part_of_counted, counted_of_part}
use Rattle.octseq_format.proofs.RowSteps.{row_by}

abbrev pub IsFound : Relation (ℕ × Window)
IsFound = IsNumber 2 then Counted 2 0 IsRest

-- what was found is an option
pub option_is : (w : Window) (found : ℕ × Window) (v : Window) → IsFound w found v → HasOption w (option_from found) v
option_is w found v is = (is.0, is.1, part_of_counted 2 is.0 found.1 v is.2)

-- and an option is found
pub option_found : (w : Window) (option : EdnsOption) (v : Window) → HasOption w option v
    → IsFound w (option_parts option) v
option_found w option v is = (is.0, is.1, counted_of_part 2 is.0 option.octets v is.2)

-- the same for those up to the end of a window
pub options_are : (w : Window) (found : List (ℕ × Window)) (v : Window) → RowTo (Moved IsFound) w found v
    → Row HasOption w (map option_from found) v
options_are w found v is =
    row_by (Moved IsFound) HasOption option_from (λ w found v is. option_is w found v is.0) w v found is.0

pub options_end : (w : Window) (found : List (ℕ × Window)) (v : Window) → v.position ≤ v.end
    → RowTo (Moved IsFound) w found v → v.position ≡ w.end
options_end w found v ordered is =
    let end = row_end HasOption option_item w v (map option_from found) (options_are w found v is) in
    let none = is.1 in
    omega (arith, ordered, end, none)

pub no_options : (w : Window) → NoneAt (RowTo (Moved IsFound)) w → (row : List EdnsOption) (v : Window)
    → Row HasOption w row v → v.position ≡ w.end → ⊥
no_options w none row v is ends =
    let end = row_end HasOption option_item w v row is in
    none (map option_parts row) v (
      row_by HasOption (Moved IsFound) option_parts
          (λ w option v is. (option_found w option v is, option_item.moving.on w option v is)) w v row is,
      omega (arith, ends, end),
    )
