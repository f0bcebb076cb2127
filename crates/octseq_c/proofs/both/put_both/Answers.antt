use Rattle.std.proofs.Common.{arith, ap, refl, sym, ◌∙◌, ◌++◌, drop}
use Rattle.std.proofs.lemmas.List.{length-append}
use Rattle.octseq_c.proofs.TwoPieces.{both_filled}
use Rattle.octseq_c.proofs.both.put_both.Goals as goal

pub returns : goal.returns
returns c =
    let first = c.args.first.now in
    let second = c.args.second.now in
    let both = length-append first second in
    let room = c.if-count-out.false in
    let middle = c.put_at-middle in
    record {
      reported = sym both;
      ok = λ e. (
        omega (arith, room, both),
        both_filled c.args.out.now middle.new.out c.put_at-end.new.out first second middle.result
            (middle.ensures.end ∙ omega arith)
            (middle.ensures.octets ∙ ap (λ k. first ++ drop k c.args.out.now) (sym middle.ensures.end))
            c.put_at-end.ensures.octets,
      );
      no_room = λ n. absurd (n refl);
    }
