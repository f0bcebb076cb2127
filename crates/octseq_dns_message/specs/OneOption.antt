-- At most one row of options is at a place and ends at another, so a value may keep it as a fact.
use Rattle.std.specs.Prelude.{ℕ, refl}
use Rattle.std.proofs.Common.{ap, ◌∙◌, arith}
use Rattle.std.specs.Coded.{Coded, code_by, coded×, coded_ℕ}
use Rattle.octseq.specs.Window.{Window, left}
use Rattle.octseq_dns_data.specs.Format.{one_data, one_number}
use Rattle.octseq_dns_data.specs.OneRow.{IsOneItem, IsRowTo, reached_once}
use Rattle.octseq_dns_message.specs.Opt.{EdnsOption, HasOption}
use Rattle.octseq_format.specs.Laws.{IsOne, one_by}
use Rattle.octseq_format.specs.Pair.{◌one_then◌}
use Rattle.octseq_format.specs.Rest.{window_code}

-- EDNS options
abbrev pub option_code : Coded EdnsOption
option_code = code_by (ℕ × Window) (coded× coded_ℕ window_code) (λ o. (o.code, o.octets))
    (λ c. record { code = c.0; octets = c.1 }) (λ _. refl)

abbrev pub option_parts : EdnsOption → ℕ × Window
option_parts option = (option.code, option.octets)

abbrev pub option_from : ℕ × Window → EdnsOption
option_from option = record { code = option.0; octets = option.1 }

-- the options up to a window's end
abbrev pub OptionsAhead : Window → Type 0
OptionsAhead w = IsRowTo HasOption w w.end

-- ---- lemmas: proved below this line, so what the words mean is read above it

one_option : IsOne HasOption
one_option = one_by option_parts option_from (λ _. refl) (one_number 2 one_then one_data)

pub option_item : IsOneItem HasOption
option_item = record {
  one = one_option;
  moving = record {
    on = λ w a v is.
        let code = ap left is.1.2 in
        let octets = ap left is.2.2 in
        let room = is.1.0 in
        omega (arith, code, octets, room);
  };
  ends = λ w a v is. ap (λ (x : Window). x.end) is.2.2 ∙ ap (λ (x : Window). x.end) is.1.2;
}

pub options_once : (w : Window) → IsProp (OptionsAhead w)
options_once w = reached_once option_code HasOption option_item w w.end
