use Rattle.std.proofs.Common.{[], codes, refl}
use Rattle.octseq_dns_scan.specs.Words.{ahead_of}
use Rattle.octseq_dns_compose.proofs.Flags.{pick, pick_none}
use Rattle.octseq_dns_compose.proofs.header.take_flags.Goals as goal

pub returns-clause-taken : goal.returns-clause-taken
returns-clause-taken c =
    let end = ahead_of c.take_word-cd.new.words in
    let cd = pick c.take_word-cd.result (codes "CD") [] [] (ahead_of c.take_word-ad.new.words) end end refl
    c.take_word-cd.ensures.taken (pick_none end) in
    let ad = pick c.take_word-ad.result (codes "AD") _ _ (ahead_of c.take_word-ra.new.words) _ end refl
    c.take_word-ad.ensures.taken cd in
    let ra = pick c.take_word-ra.result (codes "RA") _ _ (ahead_of c.take_word-rd.new.words) _ end refl
    c.take_word-ra.ensures.taken ad in
    let rd = pick c.take_word-rd.result (codes "RD") _ _ (ahead_of c.take_word-tc.new.words) _ end refl
    c.take_word-rd.ensures.taken ra in
    let tc = pick c.take_word-tc.result (codes "TC") _ _ (ahead_of c.take_word-aa.new.words) _ end refl
    c.take_word-tc.ensures.taken rd in
    let aa = pick c.take_word-aa.result (codes "AA") _ _ (ahead_of c.take_word-qr.new.words) _ end refl
    c.take_word-aa.ensures.taken tc in
    let qr = pick c.take_word-qr.result (codes "QR") _ _ (ahead_of c.args.words.now) _ end refl
    c.take_word-qr.ensures.taken aa in
    (_, qr, (refl, refl))
