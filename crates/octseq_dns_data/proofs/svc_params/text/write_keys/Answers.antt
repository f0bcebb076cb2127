use Rattle.std.proofs.Common.{◌≡◌, refl, subst, [], ◌∷◌, ◌++◌, ap, ◌∙◌, append_assoc, arith, rules}
use Rattle.std.proofs.Output.{has_written_append}
use Rattle.std.proofs.lemmas.Str.{encode_ascii}
use Rattle.std.specs.Fmt.{HasWritten}
use Rattle.std.specs.List.{flat_map}
use Rattle.octseq.specs.Parser.{window}
use Rattle.octseq.specs.Window.{rest}
use Rattle.octseq_dns_data.specs.Pieces.{pieces, split_number}
use Rattle.octseq_dns_data.specs.SvcParamsText.{key_text, with_commas}
use Rattle.octseq_dns_data.proofs.Params.{key_split}
use Rattle.octseq_dns_data.proofs.SvcParamsTexts.{first_text, more_text}
use Rattle.octseq_dns_data.proofs.svc_params.text.write_keys.Goals as goal
use Rattle.octseq.proofs.Codes.{rest_whole}

pub keys-init : goal.keys-init
keys-init g c = λ plain.
    let octets = c.args.octets.now in
    let ahead = rest (window c.from_ref-ahead.result) in
    let same : ahead ≡ octets = ap rest c.from_ref-ahead.ensures.window ∙ rest_whole octets in (
      key_text c.in-Ok.first,
      search rules,
      first_text (split_number 2) key_split.moving key_text ahead c.in-Ok.first (rest (window c.take_key.new.parser))
          c.in-Ok.ensures.key ∙ ap (λ octets. with_commas key_text (pieces (split_number 2) octets)) same,
    )

pub keys-preserved : goal.keys-preserved
keys-preserved g c = λ plain.
    let so_far = c.keys.invariant plain in
    let ahead = rest (window c.keys.ahead) in
    let more = rest (window c.take_key-in-keys.new.parser) in
    let item = c.in-Ok-take_key.key in
    let took = g.W.Write.write_str_gives in
    let comma : HasWritten took c.keys.f (44 ∷ []) c.write_char.new.self =
    subst (λ text. HasWritten took c.keys.f text c.write_char.new.self) (encode_ascii 44 (omega arith))
    (c.in_ok-write_char.ensures.writes so_far.1.plain refl) in
    let one : HasWritten took c.write_char.new.self (key_text item) c.write_key-in-Ok-take_key.new.f = search rules in
    let text = 44 ∷ key_text item in (
      so_far.0 ++ text,
      has_written_append _ _ _ _ _ _ so_far.1 (has_written_append _ _ _ _ _ _ comma one),
      append_assoc so_far.0 text (flat_map (λ item. 44 ∷ key_text item) (pieces (split_number 2) more))
          ∙ ap (λ ahead. so_far.0 ++ ahead) (more_text (split_number 2) key_split.moving (λ item. 44 ∷ key_text item)
          ahead item more
          c.in-Ok-take_key.ensures.key) ∙ so_far.2,
    )
