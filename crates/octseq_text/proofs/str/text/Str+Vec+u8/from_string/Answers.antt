use Rattle.std.proofs.lemmas.Str.{IsUtf8-string_bytes}
use Rattle.octseq_utf8.proofs.Bridge.{well_formed_from_utf8}
use Rattle.octseq_text.proofs.str.text.Str+Vec+u8.from_string.Goals as goal

pub invariant_of-result : goal.invariant_of-result
invariant_of-result c = rw c.into_bytes.ensures.value (well_formed_from_utf8 _ (IsUtf8-string_bytes c.args.s))
