use Rattle.std.specs.Prelude.{string_bytes}
use Rattle.octseq_cli.proofs.report.write_error.Goals as goal

pub returns-in_ok-line-in-Open-clause-told : goal.returns-in_ok-line-in-Open-clause-told
returns-in_ok-line-in-Open-clause-told g c =
    let put = rw c.as_bytes.ensures.value at c.write_whole-in-Open.ensures in
    rw c.in-Open.is (string_bytes c.in_ok-line-in-Open.line, put.0, c.in_ok-line-in-Open.ensures, put.1, put.2)
