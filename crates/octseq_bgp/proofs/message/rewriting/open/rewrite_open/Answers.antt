use Rattle.std.proofs.Common.{refl, sym, ap, length, arith}
use Rattle.std.proofs.Math.Bool.{true≢false}
use Rattle.octseq.proofs.Limits.{within_if_not_past}
use Rattle.octseq_bgp.specs.Parsed.{open_of}
use Rattle.octseq_bgp.specs.RewrittenOpen.{open_front}
use Rattle.octseq_bgp.proofs.AnewOpens.{open_long, open_put, open_ready}
use Rattle.octseq_bgp.proofs.Appending.{grown, is_short, not_short, within_less}
use Rattle.octseq_bgp.proofs.RewrittenOpens.{front_long}
use Rattle.octseq_bgp.proofs.message.rewriting.open.rewrite_open.Goals as goal

pub form_of-form-requires : goal.form_of-form-requires
form_of-form-requires g c =
    let ready = open_ready c.requires.0 (open_of c.args.message.now) c.requires.2 c.requires.1 in
    let few = ready.1 in
    record { few = omega (arith, few, c.requires.3) }

pub returns-then-is_past-clause-short : goal.returns-then-is_past-clause-short
returns-then-is_past-clause-short g c =
    let o = open_of c.args.message.now in
    let ready = open_ready c.requires.0 o c.requires.2 c.requires.1 in
    let form = c.form_of-form.ensures in
    let row = c.read_parameters.ensures in
    let long = open_long o _ _ ready.0 form.long form.len c.front_len.result c.front_len.ensures.is in
    ((λ _. is_short g.B.AsOctets.limit _ long (c.if-is_past.ensures.0 refl) _ (row.0, row.1, refl)), (λ _. tt))

pub put_front-requires-clause-within : goal.put_front-requires-clause-within
put_front-requires-clause-within g c =
    let form = c.form_of-form.result in
    let front = front_long (open_of c.args.message.now) form.long form.len in
    let none = ap length c.truncate.ensures.content in
    let size = c.front_len.ensures.is in
    within_less g.B.AsOctets.limit _ _ (omega (arith, front, none, size))
    (within_if_not_past g.B.AsOctets.limit _ (λ past. true≢false (sym (c.if-is_past.ensures.1 past))))

pub returns-in-Err-clause-short : goal.returns-in-Err-clause-short
returns-in-Err-clause-short g c =
    let o = open_of c.args.message.now in
    let ready = open_ready c.requires.0 o c.requires.2 c.requires.1 in
    let form = c.form_of-form.ensures in
    not_short g.B.AsOctets.limit _ (open_long o _ _ ready.0 form.long form.len c.front_len.result
    c.front_len.ensures.is)
    (λ past. true≢false (sym (c.if-is_past.ensures.1 past)))

pub put_parameters-requires-clause-sound : goal.put_parameters-requires-clause-sound
put_parameters-requires-clause-sound g c =
    (open_ready c.requires.0 (open_of c.args.message.now) c.requires.2 c.requires.1).0

pub put_parameters-requires-clause-fit : goal.put_parameters-requires-clause-fit
put_parameters-requires-clause-fit g c = omega (arith, c.form_of-form.ensures.len, c.form_of-form.ensures.fit)

pub put_parameters-requires-clause-within : goal.put_parameters-requires-clause-within
put_parameters-requires-clause-within g c =
    let form = c.form_of-form.result in
    let front = front_long (open_of c.args.message.now) form.long form.len in
    let none = ap length c.truncate.ensures.content in
    let size = c.front_len.ensures.is in
    let len = c.form_of-form.ensures.len in
    let put = grown _ (g.B.AsOctets.content c.put_front.new.octets)
    (open_front (open_of c.args.message.now) form.long form.len)
    c.in_default.ensures.puts.ok in
    within_less g.B.AsOctets.limit _ _ (omega (arith, front, none, size, len, put))
    (within_if_not_past g.B.AsOctets.limit _ (λ past. true≢false (sym (c.if-is_past.ensures.1 past))))

pub returns-in-Err-put_parameters-clause-short : goal.returns-in-Err-put_parameters-clause-short
returns-in-Err-put_parameters-clause-short g c =
    let o = open_of c.args.message.now in
    let ready = open_ready c.requires.0 o c.requires.2 c.requires.1 in
    let form = c.form_of-form.ensures in
    not_short g.B.AsOctets.limit _ (open_long o _ _ ready.0 form.long form.len c.front_len.result
    c.front_len.ensures.is)
    (λ past. true≢false (sym (c.if-is_past.ensures.1 past)))

pub returns-clause-rewritten : goal.returns-clause-rewritten
returns-clause-rewritten g c =
    let o = open_of c.args.message.now in
    let ready = open_ready c.requires.0 o c.requires.2 c.requires.1 in
    let form = c.form_of-form.ensures in
    open_put o _ _ ready.0 form.long form.len _ _ _ c.truncate.ensures.content c.in_default.ensures.puts.ok
    c.in_default-put_parameters.ensures.ok

pub returns-clause-short : goal.returns-clause-short
returns-clause-short g c =
    let o = open_of c.args.message.now in
    let ready = open_ready c.requires.0 o c.requires.2 c.requires.1 in
    let form = c.form_of-form.ensures in
    not_short g.B.AsOctets.limit _ (open_long o _ _ ready.0 form.long form.len c.front_len.result
    c.front_len.ensures.is)
    (λ past. true≢false (sym (c.if-is_past.ensures.1 past)))
