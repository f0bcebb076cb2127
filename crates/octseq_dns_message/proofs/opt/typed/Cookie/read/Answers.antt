use Rattle.std.proofs.Common.{inl, inr, refl, arith}
use Rattle.octseq.specs.Parser.{window}
use Rattle.octseq_dns_message.proofs.opt.typed.Cookie.read.Goals as goal
use Rattle.octseq_dns_message.proofs.opt.typed.Cookie.read.Goals.{else-count-ne0-via-then-count-ne0+else-count-gt32}
use Rattle.octseq_dns_message.proofs.opt.typed.Cookie.read.Goals.{else-count-ne0-via-else-count-ne0}

pub returns-in_default-clause-none : goal.returns-in_default-clause-none
returns-in_default-clause-none g c = λ _ it is.
    c.in_default.ensures.malformed refl (it.client, it.server) is.end is.parts

pub returns-clause-cookie : goal.returns-clause-cookie
returns-clause-cookie g c = record {
  end = window c.parse.new.parser;
  parts = c.in-Ok.ensures.value;
  server = let left = c.remaining-count.ensures.left in
      elim c.else-count-ne0.branch [
        | else-count-ne0-via-then-count-ne0+else-count-gt32 w ↦ inr (omega (arith, left), omega (arith, left))
        | else-count-ne0-via-else-count-ne0 w ↦ inl (omega (arith, left))
      ];
}
