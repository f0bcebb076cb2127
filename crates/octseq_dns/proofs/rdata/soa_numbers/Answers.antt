use Rattle.std.proofs.Common.{◌∷◌, [], ◌∙◌, get_or}
use Rattle.octseq.specs.Integer.{octets_be}
use Rattle.octseq.proofs.Written.{made_be_4}
use Rattle.octseq_dns.proofs.rdata.soa_numbers.Goals as goal

pub returns : goal.returns
unfolding octets_be
returns g c =
    let soa = c.args.soa.now in
    let a = c.to_be_bytes-serial.ensures ∙ made_be_4 soa.serial in
    let b = c.to_be_bytes-refresh.ensures ∙ made_be_4 soa.refresh in
    let d = c.to_be_bytes-retry.ensures ∙ made_be_4 soa.retry in
    let e = c.to_be_bytes-expire.ensures ∙ made_be_4 soa.expire in
    let f = c.to_be_bytes-minimum.ensures ∙ made_be_4 soa.minimum in
    λ i. get_or (a i) 0 0 ∷ get_or (a i) 1 0 ∷ get_or (a i) 2 0 ∷ get_or (a i) 3 0 ∷ get_or (b i) 0 0 ∷ get_or (b i) 1 0
    ∷ get_or (b i) 2 0 ∷ get_or (b i) 3 0 ∷ get_or (d i) 0 0 ∷ get_or (d i) 1 0 ∷ get_or (d i) 2 0 ∷ get_or (d i) 3 0
    ∷ get_or (e i) 0 0 ∷ get_or (e i) 1 0 ∷ get_or (e i) 2 0 ∷ get_or (e i) 3 0 ∷ get_or (f i) 0 0 ∷ get_or (f i) 1 0
    ∷ get_or (f i) 2 0 ∷ get_or (f i) 3 0 ∷ []
