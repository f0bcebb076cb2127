use Rattle.std.proofs.Common.{◌≡◌, Err, sym, ap, ◌∙◌, subst, rules}
use Rattle.octseq_dns_scan.specs.Words.{ahead_of, offset_of}
use Rattle.octseq_dns_text.specs.Scans.{IsWordFault}
use Rattle.octseq_dns_text.specs.declared.error.ScanError.{ScanError}
use Rattle.octseq_dns_compose.specs.RecordText.{IsAnyRecord}
use Rattle.octseq_dns_compose.proofs.Faults.{kept_fault, reached_fault}
use Rattle.octseq_dns_compose.proofs.Records.{AfterClass, fault_at_order, fault_at_owner, fault_at_rtype}
use Rattle.octseq_dns_compose.proofs.Records.{head_asks, head_read}
use Rattle.octseq_dns_compose.proofs.Records.{past_order, past_owner, past_rtype, record_words}
use Rattle.octseq_dns_compose.proofs.record.scan_record.Goals as goal

pub returns-in_default-clause-fault : goal.returns-in_default-clause-fault
returns-in_default-clause-fault g c = λ offset is.
    let found : c.offset.result ≡ offset = cc in
    subst (IsWordFault (IsAnyRecord _) (ahead_of c.args.words) (offset_of c.args.words)) (sym c.offset.ensures ∙ found)
    (kept_fault (IsAnyRecord _) _ _ _ _ (search rules) c.in_default.ensures.end
    (fault_at_owner _ _ _ (c.in_default.ensures.none (search rules))))

pub returns-in_default-take_ttl_and_class-clause-fault : goal.returns-in_default-take_ttl_and_class-clause-fault
returns-in_default-take_ttl_and_class-clause-fault g c = λ offset is.
    let owned = past_owner _ _ c.in-Some.ensures.some c.in-Some.ensures.end in
    let found : c.offset-in_default-take_ttl_and_class.result ≡ offset = cc in
    subst (IsWordFault (IsAnyRecord _) (ahead_of c.args.words) (offset_of c.args.words))
    (sym c.offset-in_default-take_ttl_and_class.ensures ∙ found)
    (reached_fault owned
    (fault_at_order _ _ _ _ _ c.in_default-take_ttl_and_class.ensures.end
    (c.in_default-take_ttl_and_class.ensures.taken.none (search rules))))

pub returns-in_default-take_rtype-clause-fault : goal.returns-in_default-take_rtype-clause-fault
returns-in_default-take_rtype-clause-fault g c = λ offset is.
    let owned = past_owner _ _ c.in-Some.ensures.some c.in-Some.ensures.end in
    let ordered = past_order _ _ _ owned c.in-Some-take_ttl_and_class.ensures.taken.some
    c.in-Some-take_ttl_and_class.ensures.end in
    let found : c.offset-in_default-take_rtype.result ≡ offset = cc in
    subst (IsWordFault (IsAnyRecord _) (ahead_of c.args.words) (offset_of c.args.words))
    (sym c.offset-in_default-take_rtype.ensures ∙ found)
    (reached_fault ordered
    (kept_fault (AfterClass _ _) _ _ _ _ (search rules) c.in_default-take_rtype.ensures.end
    (fault_at_rtype _ _ _ _ (c.in_default-take_rtype.ensures.taken.none (search rules)))))

pub returns-in-Err-clause-fault : goal.returns-in-Err-clause-fault
returns-in-Err-clause-fault g c = λ offset is.
    let owned = past_owner _ _ c.in-Some.ensures.some c.in-Some.ensures.end in
    let ordered = past_order _ _ _ owned c.in-Some-take_ttl_and_class.ensures.taken.some
    c.in-Some-take_ttl_and_class.ensures.end in
    let typed = past_rtype _ _ _ ordered c.in-Some-take_rtype.ensures.taken.some c.in-Some-take_rtype.ensures.end in
    let found : c.in-Err.error ≡ ScanError.Malformed offset = cc in
    reached_fault typed (c.in-Err.ensures.scanned.fault offset (ap (λ e. Err e) found))

pub returns-in-Ok-clause-ok : goal.returns-in-Ok-clause-ok
returns-in-Ok-clause-ok g c =
    let both = c.in-Some-take_ttl_and_class.both in
    let read = head_read _ _ both.0 both.1 c.in-Some-take_rtype.rtype c.in-Some.ensures.some
    c.in-Some-take_ttl_and_class.ensures.taken.some c.in-Some-take_rtype.ensures.taken.some in
    let rest = c.in-Ok.ensures.scanned.ok in
    let all = record_words _ _ read rest.0 rest.1 rest.2 rest.3 in
    (all.0, rest.1, all.1, all.2, rest.4)

pub returns-in-Err-clause-short : goal.returns-in-Err-clause-short
returns-in-Err-clause-short g c = λ is.
    let found : c.in-Err.error ≡ ScanError.Short = cc in
    let both = c.in-Some-take_ttl_and_class.both in
    let read = head_read _ _ both.0 both.1 c.in-Some-take_rtype.rtype c.in-Some.ensures.some
    c.in-Some-take_ttl_and_class.ensures.taken.some c.in-Some-take_rtype.ensures.taken.some in
    let rest = c.in-Err.ensures.scanned.short (ap (λ e. Err e) found) in
    let all = record_words _ _ read rest.0 rest.1 rest.2 rest.3 in
    (all.0, rest.1, all.1, (_, all.2), rest.4)

pub returns-in-Err-clause-memory : goal.returns-in-Err-clause-memory
returns-in-Err-clause-memory g c = λ is.
    let found : c.in-Err.error ≡ ScanError.Memory = cc in
    let both = c.in-Some-take_ttl_and_class.both in
    let read = head_read _ _ both.0 both.1 c.in-Some-take_rtype.rtype c.in-Some.ensures.some
    c.in-Some-take_ttl_and_class.ensures.taken.some c.in-Some-take_rtype.ensures.taken.some in
    head_asks _ _ _ read (c.in-Err.ensures.scanned.memory (ap (λ e. Err e) found))
