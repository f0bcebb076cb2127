use Rattle.std.proofs.Common.{◌+◌, ◌*◌, ◌/◌, ◌∷◌, [], get_or, length, sym, ap, ◌∙◌, subst, arith}
use Rattle.octseq.specs.Limit.{IsWithin}
use Rattle.octseq.proofs.Written.{made_be_2}
use Rattle.octseq_bgp.specs.Puts.{AppendsSomeUnlimited}
use Rattle.octseq_bgp.proofs.Rewriting.{head_few, head_many}
use Rattle.octseq_bgp.proofs.message.rewriting.attributes.put_head.Goals as goal

pub put_slice-requires : goal.put_slice-requires
put_slice-requires g c =
    let is = head_few c.args.flags c.args.type_code c.args.len c.if-len-le255.true (omega arith) (omega arith) in
    let content = g.B.AsOctets.content in
    subst (λ o. IsWithin g.B.AsOctets.limit (length (content c.args.builder.now) + length o)) is c.requires.within

pub returns-then-len-le255-clause-puts : goal.returns-then-len-le255-clause-puts
returns-then-len-le255-clause-puts g c =
    let is = head_few c.args.flags c.args.type_code c.args.len c.if-len-le255.true (omega arith) (omega arith) in
    let content = g.B.AsOctets.content in
    subst (λ o. AppendsSomeUnlimited g.B.AsOctets.asks c.put_slice.result o (content c.args.builder.now)
    (content c.put_slice.new.builder)) (sym is)
    c.put_slice.ensures.some

pub put_slice-requires-2 : goal.put_slice-requires-2
put_slice-requires-2 g c =
    let flags = c.args.flags / 32 * 32 + 16 in
    let kind = c.args.type_code in
    let is = head_many c.args.flags kind c.args.len (omega arith) (omega arith) (omega arith)
    ∙ sym (ap (λ o. flags ∷ kind ∷ get_or o 0 0 ∷ get_or o 1 0 ∷ []) c.to_be_bytes-len.ensures
    ∙ ap (λ o. flags ∷ kind ∷ o) (made_be_2 c.args.len)) in
    let content = g.B.AsOctets.content in
    subst (λ o. IsWithin g.B.AsOctets.limit (length (content c.args.builder.now) + length o)) is c.requires.within

pub returns-clause-puts : goal.returns-clause-puts
returns-clause-puts g c =
    let flags = c.args.flags / 32 * 32 + 16 in
    let kind = c.args.type_code in
    let is = head_many c.args.flags kind c.args.len (omega arith) (omega arith) (omega arith)
    ∙ sym (ap (λ o. flags ∷ kind ∷ get_or o 0 0 ∷ get_or o 1 0 ∷ []) c.to_be_bytes-len.ensures
    ∙ ap (λ o. flags ∷ kind ∷ o) (made_be_2 c.args.len)) in
    let content = g.B.AsOctets.content in
    subst (λ o. AppendsSomeUnlimited g.B.AsOctets.asks c.put_slice-2.result o (content c.args.builder.now)
    (content c.put_slice-2.new.builder)) (sym is)
    c.put_slice-2.ensures.some
