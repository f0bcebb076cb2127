use Rattle.std.proofs.Common.{◌∷◌, [], ap, ◌∙◌, arith, sym, get_or}
use Rattle.octseq.proofs.Written.{made_be_2}
use Rattle.octseq_bgp.proofs.Octets.{head_extended, head_short}
use Rattle.octseq_bgp.proofs.message.update_builder.head.Head.new.Goals as goal

pub returns-then-flags-eq1-clause-octets : goal.returns-then-flags-eq1-clause-octets
returns-then-flags-eq1-clause-octets c =
    let flags = c.args.flags in
    let kind = c.args.type_code in
    ap (λ o. flags ∷ kind ∷ get_or o 0 0 ∷ get_or o 1 0 ∷ []) c.to_be_bytes-len.ensures
    ∙ ap (λ o. flags ∷ kind ∷ o) (made_be_2 c.args.len)
    ∙ sym (head_extended flags kind c.args.len c.if-flags-eq1.true (omega arith) (omega arith))

pub returns-clause-octets : goal.returns-clause-octets
returns-clause-octets c =
    sym (head_short c.args.flags c.args.type_code c.args.len c.if-flags-eq1.false (omega arith) (omega arith)
    (omega arith))
