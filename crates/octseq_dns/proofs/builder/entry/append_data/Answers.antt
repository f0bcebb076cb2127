use Rattle.std.proofs.Common.{◌+◌, ◌∷◌, [], ap, ◌∙◌, sym, subst, length}
use Rattle.std.proofs.Common.{length-append}
use Rattle.octseq.specs.Limit.{ExceedsLimit, IsWithin}
use Rattle.octseq_dns_compress.specs.Composed.{message_limit}
use Rattle.octseq_dns_compress.specs.State.{with_counted, with_fields}
use Rattle.octseq_dns_compress.proofs.Fields.{count_is_put, counted_length, counted_longer}
use Rattle.octseq_dns.proofs.builder.entry.append_data.Goals as goal
use Rattle.octseq.proofs.Limits.{past_more}

pub returns-in-Err-clause-short : goal.returns-in-Err-clause-short
returns-in-Err-clause-short g c =
    let s = c.args.message.now.state in
    let fields = g.D.ComposeRecordData.fields c.args.rdata.now in
    let most = g.T.Compressor.most in
    λ short. past_more (message_limit g.B.AsOctets.limit) (length s.octets + 2)
    (length (with_counted most s fields).octets) (counted_longer most s fields) (c.in-Err.ensures.short short)

pub returns-in-Err-compose-clause-short : goal.returns-in-Err-compose-clause-short
returns-in-Err-compose-clause-short g c =
    let s = c.args.message.now.state in
    let fields = g.D.ComposeRecordData.fields c.args.rdata.now in
    let most = g.T.Compressor.most in
    λ short. subst (ExceedsLimit (message_limit g.B.AsOctets.limit))
    (ap (λ from. length (with_fields most from fields).octets) c.in_default.ensures.ok
    ∙ sym (counted_length most s fields)) (c.in-Err-compose.ensures.composed.short short)

pub returns-clause-ok : goal.returns-clause-ok
returns-clause-ok g c =
    let s = c.args.message.now.state in
    let fields = g.D.ComposeRecordData.fields c.args.rdata.now in
    let most = g.T.Compressor.most in
    let after = c.compose.new.message in
    let begun = c.in_default.ensures.ok in
    count_is_put most s fields after.state after.data_start c.end_data.new.self.state.octets
    c.end_data.new.self.state.names
    (c.in_default-compose.ensures.composed.ok ∙ ap (λ from. with_fields most from fields) begun)
    (c.compose.ensures.composed.data_start ∙ c.in_default.ensures.data_start ∙ ap (λ s. length s.octets) begun
    ∙ length-append s.octets (0 ∷ 0 ∷ []))
    c.end_data.ensures.octets c.end_data.ensures.names

pub returns-clause-within : goal.returns-clause-within
returns-clause-within g c =
    let s = c.args.message.now.state in
    let fields = g.D.ComposeRecordData.fields c.args.rdata.now in
    let most = g.T.Compressor.most in
    subst (λ n. IsWithin (message_limit g.B.AsOctets.limit) n)
    (ap (λ from. length (with_fields most from fields).octets) c.in_default.ensures.ok
    ∙ sym (counted_length most s fields)) c.in_default-compose.ensures.composed.within
