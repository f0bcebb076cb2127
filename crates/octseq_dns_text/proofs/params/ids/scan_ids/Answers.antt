use Rattle.std.proofs.Common.{◌≡◌, ◌^◌, ◌<◌, ◌≤◌, ℕ, List, [], ◌∷◌, ◌++◌, length, length-append, sym, ap, ◌∙◌, subst}
use Rattle.std.proofs.Common.{arith, rules}
use Rattle.std.specs.List.{All, flat_map}
use Rattle.std.proofs.Math.Bool.{true≢false}
use Rattle.std.proofs.lemmas.List.{nil_from_length}
use Rattle.std.proofs.lemmas.List.Elements.{All-nil, All-push}
use Rattle.octseq.specs.Part.{part_of}
use Rattle.octseq_dns_scan.proofs.Mades.{head}
use Rattle.octseq_dns_text.proofs.IdsTexts.{after_is, ids_last, ids_more, ids_next, ids_none, parts_more}
use Rattle.octseq_dns_text.proofs.Outcomes.{if_ok}
use Rattle.octseq_dns_text.proofs.Sortings.{all_mid}
use Rattle.octseq_dns_text.proofs.params.ids.scan_ids.Goals as goal

abbrev IsId : List ℕ → Type 0
IsId id = (1 ≤ length id) × (length id < 2 ^ 8)

pub ids-init : goal.ids-init
ids-init c = record {
  done = [];
  reads = ids_none c.args.said.now;
  value = c.new-value.ensures.items;
  each = All-nil IsId;
}

pub returns-then-not-is_id-clause-malformed : goal.returns-then-not-is_id-clause-malformed
returns-then-not-is_id-clause-malformed c = λ _ value is.
    let so_far = c.ids.invariant in
    let parts = c.in-Ok.ensures in
    let next = ids_next so_far.done c.args.said.now c.ids.list.now c.in-Ok.id.items c.in-Ok.rest.now so_far.reads
    parts.0 parts.1 is.ids is.are.some is.spelled in
    let one = all_mid IsId so_far.done c.in-Ok.id.items next.0 (subst (All IsId) next.1 is.are.each) in
    let here = subst IsId (sym c.as_slice.ensures.value) one in
    true≢false (sym (c.is_id.ensures.1 here) ∙ c.if-not-is_id.true)

pub returns-in_default-split_first-clause-ok : goal.returns-in_default-split_first-clause-ok
returns-in_default-split_first-clause-ok c =
    let so_far = c.ids.invariant in
    let parts = c.in-Ok.ensures in
    let id = c.in-Ok.id.items in
    let end = nil_from_length c.in-Ok.rest.now c.in_default-split_first.ensures.cases in
    let made = if_ok c.append_part_u8.result _ c.append_part_u8.ensures.appended.ok (search rules) in
    let one = subst IsId c.as_slice.ensures.value (c.is_id.ensures.0 c.if-not-is_id.false) in
    record {
      ids = so_far.done ++ id ∷ [];
      spelled = ids_last so_far.done c.args.said.now c.ids.list.now id c.in-Ok.rest.now so_far.reads parts.0 end;
      are = record {
        spelled = made ∙ ap (λ l. l ++ part_of 1 c.as_slice-in-ids.result.now) so_far.value
            ∙ ap (λ l. flat_map (part_of 1) so_far.done ++ part_of 1 l) c.as_slice-in-ids.ensures.value
            ∙ sym (parts_more so_far.done id);
        some = omega (arith, length-append so_far.done (id ∷ []));
        each = All-push IsId so_far.done id so_far.each one;
      };
    }

pub returns-then-first-ne44-clause-malformed : goal.returns-then-first-ne44-clause-malformed
returns-then-first-ne44-clause-malformed c = λ _ value is.
    let so_far = c.ids.invariant in
    let parts = c.in-Ok.ensures in
    let split : c.in-Ok.rest.now ≡ c.in-Some.first.now ∷ c.in-Some.next.now = search rules in
    let next = ids_next so_far.done c.args.said.now c.ids.list.now c.in-Ok.id.items c.in-Ok.rest.now so_far.reads
    parts.0 parts.1 is.ids is.are.some is.spelled in
    after_is next.0 c.in-Ok.rest.now next.2 (λ none. let e = ap length (sym split ∙ none) in absurd (omega (arith, e)))
    (λ more comma. c.if-first-ne44.true (head (sym split ∙ comma)))

pub ids-preserved : goal.ids-preserved
ids-preserved c =
    let so_far = c.ids.invariant in
    let parts = c.in-Ok.ensures in
    let id = c.in-Ok.id.items in
    let split : c.in-Ok.rest.now ≡ c.in-Some.first.now ∷ c.in-Some.next.now = search rules in
    let comma = split ∙ ap (λ o. o ∷ c.in-Some.next.now) c.if-first-ne44.false in
    let made = if_ok c.append_part_u8.result _ c.append_part_u8.ensures.appended.ok (search rules) in
    let one = subst IsId c.as_slice.ensures.value (c.is_id.ensures.0 c.if-not-is_id.false) in
    record {
      done = so_far.done ++ id ∷ [];
      reads = ids_more so_far.done c.args.said.now c.ids.list.now id c.in-Ok.rest.now c.in-Some.next.now so_far.reads
          parts.0 comma;
      value = made ∙ ap (λ l. l ++ part_of 1 c.as_slice-in-ids.result.now) so_far.value
          ∙ ap (λ l. flat_map (part_of 1) so_far.done ++ part_of 1 l) c.as_slice-in-ids.ensures.value
          ∙ sym (parts_more so_far.done id);
      each = All-push IsId so_far.done id so_far.each one;
    }
