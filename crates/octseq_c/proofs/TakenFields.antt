-- One more field is taken, and its row is written after those of the fields before it.
use Rattle.std.proofs.Common.{◌≡◌, ℕ, ◌+◌, ◌<◌, List, [], ◌∷◌, ◌++◌, suc, length, take, drop, set, refl, ap, sym, ◌∙◌}
use Rattle.std.proofs.Common.{subst, arith, append_assoc, length-append}
use Rattle.std.proofs.lemmas.List.{length-drop, set_split}
use Rattle.octseq.specs.Window.{Window}
use Rattle.octseq_dns_data.specs.declared.layout.Field.{Field}
use Rattle.octseq_c.proofs.OneFields.{one_field}
use Rattle.octseq_c.proofs.Placed.{placed_after}
use Rattle.octseq_c.specs.Fields.{AreFieldRows, IsField}
use Rattle.octseq_c.specs.declared.fields.FieldRow.{FieldRow}

module _ (all : List Field) {left next : List Field} {f : Field} (w u v : Window) (row : FieldRow)
    (is_cons : left ≡ f ∷ next) (is : IsField f u row v) where
  -- if some rows, and any of the fields that are left, are rows of all, then so they are with one more
  pub more_fields : (done : List FieldRow)
      → ((more : List FieldRow) (end : Window) → AreFieldRows left u more end → AreFieldRows all w (done ++ more) end)
      → (more : List FieldRow) (end : Window) → AreFieldRows next v more end
      → AreFieldRows all w ((done ++ row ∷ []) ++ more) end
  more_fields done whole more end are =
      let here = subst (λ fields. AreFieldRows fields u (row ∷ more) end) (sym is_cons) (row, more, v, is, are, refl) in
      subst (λ rows. AreFieldRows all w rows end) (sym (append_assoc done (row ∷ []) more))
      (whole (row ∷ more) end here)

  -- if all have rows, then so have those that are left
  pub ahead_fields : ((rows : List FieldRow) (end : Window) → AreFieldRows all w rows end
      → (more : List FieldRow) × AreFieldRows left u more end)
      → (rows : List FieldRow) (end : Window) → AreFieldRows all w rows end
      → (more : List FieldRow) × AreFieldRows next v more end
  ahead_fields ahead rows end are =
      let (more, they_are) = ahead rows end are in
      let (one, rest, x, it, then, e) = subst (λ fields. AreFieldRows fields u more end) is_cons they_are in
      (rest, subst (λ x. AreFieldRows next x rest end) ((one_field f).same u one row x v it is).1 then)

-- the row is written after the others
pub written_row : (old mid done : List FieldRow) (row : FieldRow) (index : ℕ) {at : ℕ} → at ≡ index
    → length done ≡ index → index < length old → mid ≡ done ++ drop index old
    → set mid at row ≡ (done ++ row ∷ []) ++ drop (index + 1) old
written_row old mid done row index {at} same long room m =
    let one : suc index ≡ index + 1 = omega arith in
    let many = ap length m in
    let both = length-append done (drop index old) in
    let left = length-drop index old in
    ap (λ i. set mid i row) same
    ∙ placed_after old mid (set mid index row) done (row ∷ []) index (index + 1) long refl m
    (set_split mid index row (omega (arith, room, many, both, left, long))
    ∙ ap (λ i. take index mid ++ row ∷ drop i mid) one)
