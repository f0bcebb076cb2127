-- Some zero octets were appended.
use Rattle.std.proofs.Common.{◌≡◌, ◌++◌, replicate}
use Rattle.octseq_format.proofs.padding.put_zeros.Given as goal

abbrev pub invariant-loop-done : goal.invariant-loop-done
invariant-loop-done g l =
    let content = g.B.AsOctets.content in
    record {
      appended : content l.builder ≡ content l.fn.builder ++ replicate l.done 0;
      borrows : g.B.AsOctets.borrows l.builder ≡ g.B.AsOctets.borrows l.fn.builder;
    }
