-- Octets that are options, as the format of options finds them.
use Rattle.std.proofs.Common.{◌≡◌, ℕ, ◌≤◌, List, map, sym, ap, ◌∙◌, subst}
use Rattle.octseq.specs.Window.{Window, whole}
use Rattle.octseq_dns_message.proofs.Options.{IsFound, no_options, options_are, options_end}
use Rattle.octseq_dns_message.specs.OneOption.{option_from}
use Rattle.octseq_dns_message.specs.Opt.{HasOption}
use Rattle.octseq_format.specs.Laws.{NoneAt}
use Rattle.octseq_format.specs.Row.{Moved, Row, RowTo}
use Rattle.octseq_c.specs.Edns.{AreOptions}

pub options_found : (octets : List ℕ) (w v : Window) (found : List (ℕ × Window)) → w ≡ whole octets
    → v.position ≤ v.end → RowTo (Moved IsFound) w found v → AreOptions octets
options_found octets w v found same ordered is = record {
  options = map option_from found;
  end = v;
  are = subst (λ w. Row HasOption w (map option_from found) v) same (options_are w found v is);
  ends = options_end w found v ordered is ∙ ap (λ (w : Window). w.end) same;
}

pub options_none : (octets : List ℕ) (w : Window) → w ≡ whole octets → NoneAt (RowTo (Moved IsFound)) w
    → ¬ AreOptions octets
options_none octets w same none is = no_options w none is.options is.end
    (subst (λ w. Row HasOption w is.options is.end) (sym same) is.are) (is.ends ∙ ap (λ (w : Window). w.end) (sym same))
