use Rattle.std.proofs.Common.{◌+◌, ◌++◌, length, refl, sym, ap, ◌∙◌, subst}
use Rattle.std.specs.List.{flat_map}
use Rattle.octseq.specs.Limit.{ExceedsLimit}
use Rattle.octseq.specs.Refusal.{Is, Refusal, append_error}
use Rattle.octseq_dns_data.specs.SvcParams.{param_octets}
use Rattle.octseq_dns_text.specs.Reading.{params_in}
use Rattle.octseq_dns_text.proofs.ParamsTexts.{params_svc, params_text}
use Rattle.octseq_dns_text.proofs.params.scan_params.Goals as goal

pub returns-in-Ok-append_slice-clause-scanned : goal.returns-in-Ok-append_slice-clause-scanned
returns-in-Ok-append_slice-clause-scanned g c =
    let found = c.in-Ok.ensures.ok in
    let params = params_in c.in-Ok.params in
    let is = params_text found.0 params found.2 c.in-Ok.ensures.ascending in
    let made = c.as_slice.ensures.value ∙ c.in-Ok-params_octets.ensures in
    let added = c.in-Ok-append_slice.ensures.appended.ok
    ∙ ap (λ l. g.B.AsOctets.content c.args.target.now ++ l) made in
    record {
      ok = (found.0, flat_map param_octets params, found.1, is, added);
      fault = λ offset e. absurd (cc);
      short = λ e. absurd (cc);
      memory = λ e. refl;
      kept = tt;
    }

pub returns-in-Ok-append_slice-clause-params : goal.returns-in-Ok-append_slice-clause-params
returns-in-Ok-append_slice-clause-params g c =
    let found = c.in-Ok.ensures.ok in
    let params = params_in c.in-Ok.params in
    let is = params_text found.0 params found.2 c.in-Ok.ensures.ascending in
    let made = c.as_slice.ensures.value ∙ c.in-Ok-params_octets.ensures in
    let added = c.in-Ok-append_slice.ensures.appended.ok
    ∙ ap (λ l. g.B.AsOctets.content c.args.target.now ++ l) made in
    (flat_map param_octets params, params_svc found.0 (flat_map param_octets params) is, added)

pub returns-in-Err-Short-clause-scanned : goal.returns-in-Err-Short-clause-scanned
returns-in-Err-Short-clause-scanned g c =
    let found = c.in-Ok.ensures.ok in
    let params = params_in c.in-Ok.params in
    let is = params_text found.0 params found.2 c.in-Ok.ensures.ascending in
    let made = c.as_slice.ensures.value ∙ c.in-Ok-params_octets.ensures in
    let short = subst (λ e. Is Refusal.short (append_error e)) (sym c.in-Err-Short.field-0-is) tt in
    let past = c.in-Err-Short.ensures.appended.short.0 short in
    record {
      ok = tt;
      fault = λ offset e. absurd (cc);
      short = λ e. (
        found.0,
        flat_map param_octets params,
        found.1,
        is,
        subst (λ l. ExceedsLimit g.B.AsOctets.limit
            (length (g.B.AsOctets.content c.args.target.now) + length l)) made past,
      );
      memory = λ e. refl;
      kept = c.in-Err-Short.ensures.appended.err;
    }
