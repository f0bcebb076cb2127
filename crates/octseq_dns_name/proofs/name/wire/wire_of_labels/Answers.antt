use Rattle.std.proofs.Common.{◌≡◌, ◌+◌, Bor, ℕ, List, [], ◌∷◌, ◌++◌, length, get_or, take, drop, sym, ap, ◌∙◌, subst}
use Rattle.std.proofs.Common.{arith}
use Rattle.std.proofs.Common.{Err, rules}
use Rattle.std.proofs.lemmas.List.{flat_map_more, take_all}
use Rattle.octseq_dns_name.specs.Name.{wire_length}
use Rattle.octseq_dns_name.specs.NameFormat.{bodies}
use Rattle.octseq_dns_name.specs.Wire.{AreLabels}
use Rattle.octseq_dns_name.proofs.Unfits.{contents, parted, taken}
use Rattle.octseq_dns_name.proofs.Wires.{bodies_length, one_more}
use Rattle.octseq_dns_name.proofs.name.wire.wire_of_labels.Goals as goal

pub returns-in_err-try_append_label-clause-wrong : goal.returns-in_err-try_append_label-clause-wrong
returns-in_err-try_append_label-clause-wrong c =
    let default : Bor (List ℕ) = record { ref_ptr = (0, 0); now = [] } in
    let labels = c.args.labels.now in
    let i = c.loop-label.label-index in
    let so_far = c.loop-label.invariant in
    let before = contents (take i labels) in
    let room = so_far.room in
    let is : length c.loop-label.octets.content + 1 ≡ wire_length before =
    ap (λ l. length l + 1) so_far.appended ∙ bodies_length before in
    let reported : c.from_residual.result ≡ Err c.in_err-try_append_label.field-0.0 = search rules in
    rw reported (
      before,
      (get_or labels i default).now,
      contents (drop (i + 1) labels),
      parted labels i default c.loop-label-test.true,
      so_far.each,
      omega (arith, room, is),
      c.in_err-try_append_label.ensures.wrong before is,
    )

pub loop-label-preserved : goal.loop-label-preserved
loop-label-preserved c =
    let default : Bor (List ℕ) = record { ref_ptr = (0, 0); now = [] } in
    let labels = c.args.labels.now in
    let i = c.loop-label.label-index in
    let label = (get_or labels i default).now in
    let before = contents (take i labels) in
    let so_far = c.loop-label.invariant in
    let right = c.in_ok-try_append_label.ensures.right in
    let more = taken labels i default c.loop-label-test.true in
    record {
      each = subst AreLabels (sym more) (one_more before label so_far.each right.0 right.1);
      appended = c.in_ok-try_append_label.ensures.ok ∙ ap (λ front. front ++ length label ∷ label) so_far.appended
          ∙ flat_map_more (λ l. length l ∷ l) [] before label ∙ ap bodies (sym more);
      room = c.in_ok-try_append_label.ensures.room;
    }

pub returns-clause-ok : goal.returns-clause-ok
returns-clause-ok c =
    let labels = c.args.labels.now in
    let i = c.loop-label.label-index in
    let so_far = c.loop-label.invariant in
    let whole : contents (take i labels) ≡ contents labels = ap contents (take_all i labels (search rules)) in
    let room = so_far.room in
    let appended = so_far.appended ∙ ap bodies whole in
    let all = ap length appended in
    let is = bodies_length (contents labels) in (
      c.with_root.ensures ∙ ap (λ front. front ++ 0 ∷ []) appended,
      subst AreLabels whole so_far.each,
      omega (arith, room, all, is),
    )
