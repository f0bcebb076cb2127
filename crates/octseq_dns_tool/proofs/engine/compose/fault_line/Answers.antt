use Rattle.std.proofs.Common.{◌∙◌, ap, append_assoc}
use Rattle.octseq_dns_tool.proofs.engine.compose.fault_line.Goals as goal

pub returns : goal.returns
returns c = simp append_assoc (ap (λ v. v.items) c.into_bytes.ensures.value ∙ c.in_ok-line.ensures.ok)
