use Rattle.std.proofs.Common.{append_assoc}
use Rattle.std.specs.Prelude.{string_bytes}
use Rattle.octseq_cli.proofs.report.reasoned.Goals as goal

pub returns-in-Some : goal.returns-in-Some
returns-in-Some c =
    rw c.in-Some.is (
      string_bytes c.in_ok-source.source,
      string_bytes c.in_ok-reason-in-Some.reason,
      c.in_ok-source.ensures,
      simp append_assoc c.in_ok-line-in-Some.ensures.ok,
    )

pub returns : goal.returns
returns c =
    rw c.in-None.is
    (string_bytes c.in_ok-source.source, c.in_ok-source.ensures, simp append_assoc c.in_ok-line-in-None.ensures.ok)
