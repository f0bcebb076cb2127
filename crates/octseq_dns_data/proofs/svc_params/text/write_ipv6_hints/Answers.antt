use Rattle.std.proofs.Common.{◌≡◌, refl, subst, [], ◌∷◌, ◌++◌, ap, ◌∙◌, append_assoc, arith, rules}
use Rattle.std.proofs.Output.{has_written_append}
use Rattle.std.proofs.lemmas.Str.{encode_ascii}
use Rattle.std.specs.Fmt.{HasWritten}
use Rattle.std.specs.List.{flat_map}
use Rattle.octseq.specs.Parser.{window}
use Rattle.octseq.specs.Window.{rest}
use Rattle.octseq.specs.OctetsText.{ipv6_address_text}
use Rattle.octseq_dns_data.specs.Pieces.{pieces, split_octets}
use Rattle.octseq_dns_data.specs.SvcParamsText.{with_commas}
use Rattle.octseq_dns_data.proofs.Pieces.{IsMoving, is_octets}
use Rattle.octseq_dns_data.proofs.SvcParamsTexts.{first_text, more_text}
use Rattle.octseq_dns_data.proofs.svc_params.text.write_ipv6_hints.Goals as goal
use Rattle.octseq.proofs.Codes.{rest_whole}

moving : IsMoving (split_octets 16)
moving = (is_octets 16 (omega arith)).moving

pub hints-init : goal.hints-init
hints-init g c = λ plain.
    let octets = c.args.octets.now in
    let ahead = rest (window c.from_ref-ahead.result) in
    let same : ahead ≡ octets = ap rest c.from_ref-ahead.ensures.window ∙ rest_whole octets in (
      ipv6_address_text c.in-Ok.first,
      search rules,
      first_text (split_octets 16) moving ipv6_address_text ahead c.in-Ok.first (rest (window c.take_octets.new.parser))
          c.in-Ok.ensures.octets ∙ ap (λ octets. with_commas ipv6_address_text (pieces (split_octets 16) octets)) same,
    )

pub hints-preserved : goal.hints-preserved
hints-preserved g c = λ plain.
    let so_far = c.hints.invariant plain in
    let ahead = rest (window c.hints.ahead) in
    let more = rest (window c.take_octets-in-hints.new.parser) in
    let item = c.in-Ok-take_octets.hint in
    let took = g.W.Write.write_str_gives in
    let comma : HasWritten took c.hints.f (44 ∷ []) c.write_char.new.self =
    subst (λ text. HasWritten took c.hints.f text c.write_char.new.self) (encode_ascii 44 (omega arith))
    (c.in_ok-write_char.ensures.writes so_far.1.plain refl) in
    let after = c.write_ipv6-in-Ok-take_octets.new.f in
    let one : HasWritten took c.write_char.new.self (ipv6_address_text item) after = search rules in
    let text = 44 ∷ ipv6_address_text item in (
      so_far.0 ++ text,
      has_written_append _ _ _ _ _ _ so_far.1 (has_written_append _ _ _ _ _ _ comma one),
      append_assoc so_far.0 text (flat_map (λ item. 44 ∷ ipv6_address_text item) (pieces (split_octets 16) more))
          ∙ ap (λ ahead. so_far.0 ++ ahead)
          (more_text (split_octets 16) moving (λ item. 44 ∷ ipv6_address_text item) ahead
          item more
          c.in-Ok-take_octets.ensures.octets) ∙ so_far.2,
    )
