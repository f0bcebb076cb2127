use Rattle.std.proofs.Common.{◌≡◌, refl, subst, [], ◌∷◌, ◌++◌, sym, ap, ◌∙◌, append_assoc, arith, rules}
use Rattle.std.proofs.Output.{has_written_append}
use Rattle.std.proofs.lemmas.Str.{encode_ascii}
use Rattle.std.specs.Fmt.{HasWritten}
use Rattle.std.specs.List.{flat_map}
use Rattle.octseq.specs.Parser.{window}
use Rattle.octseq.specs.Window.{rest}
use Rattle.octseq_dns_data.specs.SvcParams.{ids_of}
use Rattle.octseq_dns_data.specs.SvcParamsRead.{ids_left}
use Rattle.octseq_dns_data.specs.SvcParamsText.{with_commas}
use Rattle.octseq_dns_data.proofs.SvcParamsTexts.{id_text, ids_text_is}
use Rattle.octseq_dns_data.proofs.svc_params.text.write_ids.Goals as goal
use Rattle.octseq.proofs.Codes.{rest_whole}

pub loop-id-init : goal.loop-id-init
loop-id-init g c = λ plain.
    let octets = c.args.octets.now in
    let ahead : rest (window c.from_ref.result) ≡ octets = ap rest c.from_ref.ensures.window ∙ rest_whole octets in
    let all : ids_left c.from_value-ids.result ≡ ids_of octets = c.from_value-ids.ensures ∙ ap ids_of ahead in
    let first = c.peek_all.result.now in
    let same : ids_left c.into_iter-id-iterator.result ≡ ids_left c.next.new.self = search rules in (
      id_text first,
      search rules,
      ap (λ id. id_text id ++ flat_map (λ id. 44 ∷ id_text id) (ids_left c.into_iter-id-iterator.result))
          c.peek_all.ensures.content
          ∙ ap (λ ids. id_text (rest (window c.in-Some.first)) ++ flat_map (λ id. 44 ∷ id_text id) ids) same
          ∙ ap (with_commas id_text) (sym c.in-Some.ensures.steps ∙ all) ∙ sym (ids_text_is (ids_of octets)),
    )

pub loop-id-preserved : goal.loop-id-preserved
loop-id-preserved g c = λ plain.
    let so_far = c.loop-id.invariant plain in
    let more = ids_left c.next-in-loop-id.new.self in
    let id = c.peek_all-in-loop-id.result.now in
    let took = g.W.Write.write_str_gives in
    let comma : HasWritten took c.loop-id.f (44 ∷ []) c.write_char.new.self =
    subst (λ text. HasWritten took c.loop-id.f text c.write_char.new.self) (encode_ascii 44 (omega arith))
    (c.in_ok-write_char.ensures.writes so_far.1.plain refl) in
    let one : HasWritten took c.write_char.new.self (id_text id) c.write_id-in-loop-id.new.f = search rules in
    let text = 44 ∷ id_text id in (
      so_far.0 ++ text,
      has_written_append _ _ _ _ _ _ so_far.1 (has_written_append _ _ _ _ _ _ comma one),
      append_assoc so_far.0 text (flat_map (λ id. 44 ∷ id_text id) more)
          ∙ ap (λ id. so_far.0 ++ ((44 ∷ id_text id) ++ flat_map (λ id. 44 ∷ id_text id) more))
          c.peek_all-in-loop-id.ensures.content
          ∙ ap (λ ids. so_far.0 ++ flat_map (λ id. 44 ∷ id_text id) ids) (sym c.in-Some-id.ensures.steps) ∙ so_far.2,
    )
