use Rattle.std.proofs.Common.{◌+◌, ◌++◌, length, refl, sym, ap, ◌∙◌, subst}
use Rattle.octseq.specs.Limit.{ExceedsLimit}
use Rattle.octseq.specs.Refusal.{Is, Refusal, append_error}
use Rattle.octseq_dns_data.specs.RtypeBitmapMade.{bitmap_of}
use Rattle.octseq_dns_text.specs.TypesText.{IsTypesText}
use Rattle.octseq_dns_text.proofs.types.scan_types.Goals as goal

pub returns-in-Ok-append_rtypes-clause-scanned : goal.returns-in-Ok-append_rtypes-clause-scanned
returns-in-Ok-append_rtypes-clause-scanned g c =
    let found = c.in-Ok.ensures.ok in
    let rtypes = c.in-Ok.rtypes.items in
    let is : IsTypesText found.0 (bitmap_of rtypes) =
    record { rtypes = rtypes; each = found.2; once = found.3; bitmap = refl } in
    let made = ap bitmap_of c.as_slice.ensures.value in
    let added = c.in-Ok-append_rtypes.ensures.appended.ok
    ∙ ap (λ l. g.B.AsOctets.content c.args.target.now ++ l) made in
    record {
      ok = (found.0, bitmap_of rtypes, found.1, is, added);
      fault = λ offset e. absurd (cc);
      short = λ e. absurd (cc);
      memory = λ e. refl;
      kept = tt;
    }

pub returns-in-Err-Short-clause-scanned : goal.returns-in-Err-Short-clause-scanned
returns-in-Err-Short-clause-scanned g c =
    let found = c.in-Ok.ensures.ok in
    let rtypes = c.in-Ok.rtypes.items in
    let is : IsTypesText found.0 (bitmap_of rtypes) =
    record { rtypes = rtypes; each = found.2; once = found.3; bitmap = refl } in
    let made = ap bitmap_of c.as_slice.ensures.value in
    let short = subst (λ e. Is Refusal.short (append_error e)) (sym c.in-Err-Short.field-0-is) tt in
    let past = c.in-Err-Short.ensures.appended.short.0 short in
    record {
      ok = tt;
      fault = λ offset e. absurd (cc);
      short = λ e. (
        found.0,
        bitmap_of rtypes,
        found.1,
        is,
        subst (λ l. ExceedsLimit g.B.AsOctets.limit
            (length (g.B.AsOctets.content c.args.target.now) + length l)) made past,
      );
      memory = λ e. refl;
      kept = c.in-Err-Short.ensures.appended.err;
    }
